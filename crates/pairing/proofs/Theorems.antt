-- What is proved of pairing, stated over the answer that `pair` promises and the rows that match.
-- The proofs are elsewhere.
use mathlib.Core.Bool.{true, false}
use mathlib.Core.Logic.{◌↔◌}
use mathlib.Core.Path.{◌≡◌}
use mathlib.Core.List.{List}
use Prim.Native.Nat.{ℕ, ◌<◌}
use lib.ListN.{length, get_or}
use Rattle.buffer.specs.Numbers.{not_sound}
use Rattle.pkcs12.specs.Numbers.{no_row}
use Rattle.pairing.specs.Numbers.{no_certificate, more_certificates}
use Rattle.pkcs12.specs.Sound.{Lies}
use Rattle.range.specs.Range.{bytes_in}
use Rattle.pkcs12.specs.declared.kind.BagKind.TheVariants.{Certificate}
use Rattle.pairing.specs.Pairs.{no_identity, refused_by, paired}
use Rattle.pairing.specs.Only.{Matches, IdsLie, IsKey, Answered}
use Rattle.pairing.specs.declared.IdentityRow.{IdentityRow}
use Rattle.std.specs.Prelude.{Ok}
use Rattle.pairing.proofs.Only as proved

-- ---- the answer

-- Row j is the answer exactly if every id lies in the bytes, row k is a key's, row j matches it,
-- and no other row does.
pub only_certificate : (s : List ℕ) (rows : List IdentityRow) (k j : ℕ)
    → paired s rows k ≡ Ok j
    ↔ (IdsLie s rows × IsKey rows k × Matches s rows k j × ((i : ℕ) → Matches s rows k i → i ≡ j))
only_certificate = proved.only

-- Every answer is a row or one of the four refusals.
pub five_answers : (s : List ℕ) (rows : List IdentityRow) (k : ℕ) → Answered (paired s rows k)
five_answers = proved.answers

-- ---- the refusals, in the order in which they are tested

-- 11 exactly if an id does not lie in the bytes
pub refused_11_iff : (s : List ℕ) (rows : List IdentityRow) (k : ℕ)
    → paired s rows k ≡ refused_by not_sound ↔ (IdsLie s rows → ⊥)
refused_11_iff = proved.refused_11

-- and then there is a row whose id doesn't
pub refused_11_where : (s : List ℕ) (rows : List IdentityRow) (k : ℕ) → paired s rows k ≡ refused_by not_sound
    → (j : ℕ) × (j < length rows) × ((get_or rows j no_identity).has_id ≡ true)
    × (Lies s (get_or rows j no_identity).id → ⊥)
refused_11_where = proved.where_11

-- then 12 exactly if row k isn't there or is no key's
pub refused_12_iff : (s : List ℕ) (rows : List IdentityRow) (k : ℕ)
    → paired s rows k ≡ refused_by no_row ↔ (IdsLie s rows × (IsKey rows k → ⊥))
refused_12_iff = proved.refused_12

-- 13 exactly if no row matches the key, as where the key has no id
pub refused_13_iff : (s : List ℕ) (rows : List IdentityRow) (k : ℕ)
    → paired s rows k ≡ refused_by no_certificate ↔ (IdsLie s rows × IsKey rows k × ((j : ℕ) → Matches s rows k j → ⊥))
refused_13_iff = proved.refused_13

pub key_without_id : (s : List ℕ) (rows : List IdentityRow) (k : ℕ) → IdsLie s rows → IsKey rows k
    → (get_or rows k no_identity).has_id ≡ false
    → paired s rows k ≡ refused_by no_certificate
key_without_id = proved.key_without_id

-- 14 exactly if two rows match it
pub refused_14_iff : (s : List ℕ) (rows : List IdentityRow) (k : ℕ)
    → paired s rows k ≡ refused_by more_certificates
    ↔ (IdsLie s rows × IsKey rows k × ((i : ℕ) × (j : ℕ) × (i < j) × Matches s rows k i × Matches s rows k j))
refused_14_iff = proved.refused_14

-- ---- ids of length 0

-- Rule 7.7, two ids of length 0 are equal: a certificate row with one matches a key with one.
pub empty_ids_equal : (s : List ℕ) (rows : List IdentityRow) (k j : ℕ) → j < length rows → (get_or rows j no_identity).kind ≡ Certificate
    → (get_or rows k no_identity).has_id ≡ true → (get_or rows j no_identity).has_id ≡ true
    → length (bytes_in s (get_or rows k no_identity).id) ≡ 0
    → length (bytes_in s (get_or rows j no_identity).id) ≡ 0 → Matches s rows k j
empty_ids_equal = proved.empty_ids
