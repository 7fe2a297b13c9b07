-- What the answers of pairing are proved to say: rows that match a key, and nothing of the search
-- for them.
use Rattle.std.specs.Prelude.{true, ◌⊎◌, ◌≡◌, List, ℕ, ◌<◌, length, get_or}
use Rattle.buffer.specs.Numbers.{not_sound}
use Rattle.pkcs12.specs.Numbers.{no_row}
use Rattle.pairing.specs.Numbers.{no_certificate, more_certificates}
use Rattle.pkcs12.specs.Sound.{Lies}
use Rattle.range.specs.Range.{bytes_in}
use Rattle.pkcs12.specs.declared.kind.BagKind.TheVariants.{Key, ShroudedKey, Certificate}
use Rattle.pairing.specs.Pairs.{no_identity, refused_by}
use Rattle.pairing.specs.declared.IdentityRow.{IdentityRow}
use Rattle.der.specs.declared.Fault.{Fault}
use Rattle.std.specs.Prelude.{Ok, Result}

-- Rule 7.5: row j is a certificate's, with an id equal to that of the key in row k
pub record Matches (s : List ℕ) (rows : List IdentityRow) (k j : ℕ) : Type 0 where
  pub there : j < length rows
  pub certificate : (get_or rows j no_identity).kind ≡ Certificate
  pub key_id : (get_or rows k no_identity).has_id ≡ true
  pub row_id : (get_or rows j no_identity).has_id ≡ true
  pub equal : bytes_in s (get_or rows k no_identity).id ≡ bytes_in s (get_or rows j no_identity).id

-- Rule 7.8: every id that is there lies in the bytes
abbrev pub IdsLie : List ℕ → List IdentityRow → Type 0
IdsLie s rows = (j : ℕ) → j < length rows → (get_or rows j no_identity).has_id ≡ true
    → Lies s (get_or rows j no_identity).id

-- Rule 7.5: row k is there and is a key's, of kind 01 or 02
abbrev pub IsKey : List IdentityRow → ℕ → Type 0
IsKey rows k = (k < length rows) × (((get_or rows k no_identity).kind ≡ Key) ⊎ ((get_or rows k no_identity).kind ≡ ShroudedKey))

-- the answers that there are: a row, and four refusals
pub data Answered : Result ℕ Fault → Type 0 where
  answer_row : (j : ℕ) → Answered (Ok j)
  answer_11 : Answered (refused_by not_sound)
  answer_12 : Answered (refused_by no_row)
  answer_13 : Answered (refused_by no_certificate)
  answer_14 : Answered (refused_by more_certificates)
