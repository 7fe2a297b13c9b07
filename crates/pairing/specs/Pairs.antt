-- Pairing of keys with certificates over a list of identity rows (Rules 7.3 to 7.8).
use Rattle.std.specs.Prelude.{Bool, true, false, List, [], ◌∷◌, ℕ, ◌+◌, get_or}
use Rattle.std.specs.Prelude.{if◌then◌else◌}
use Rattle.der.specs.Choice.{both}
use Rattle.der.specs.Element.{fault}
use Rattle.buffer.specs.Numbers.{not_sound}
use Rattle.pkcs12.specs.Numbers.{no_row}
use Rattle.pairing.specs.Numbers.{no_certificate, more_certificates}
use Rattle.range.specs.Bytes.{same_bytes}
use Rattle.range.specs.Range.{no_range, bytes_in, lies}
use Rattle.pkcs12.specs.Checks.{all}
use Rattle.range.specs.declared.Range.{Range}
use Rattle.pkcs12.specs.declared.kind.BagKind.{BagKind}
use Rattle.pkcs12.specs.declared.kind.BagKind.TheVariants.{Key, ShroudedKey, Certificate, Crl, Secret, Nested}
use Rattle.pairing.specs.declared.IdentityRow.{IdentityRow}
use Rattle.der.specs.declared.Fault.{Fault}
use Rattle.std.specs.Prelude.{Err, Ok, Result}

-- Rule 7.3: an identity row has the kind, whether there is an id, and the id's bytes
abbrev pub identity : BagKind → Bool → Range → IdentityRow
identity k h r = record { kind = k; has_id = h; id = r }

-- what is taken for a row that isn't there: it is no key
abbrev pub no_identity : IdentityRow
no_identity = identity BagKind.None false no_range

-- Rule 7.5: a key's row has kind 01 or 02
unfoldable pub is_key : BagKind → Bool
is_key BagKind.None = false
is_key Key = true
is_key ShroudedKey = true
is_key Certificate = false
is_key Crl = false
is_key Secret = false
is_key Nested = false

unfoldable pub is_certificate : BagKind → Bool
is_certificate BagKind.None = false
is_certificate Key = false
is_certificate ShroudedKey = false
is_certificate Certificate = true
is_certificate Crl = false
is_certificate Secret = false
is_certificate Nested = false

-- Rule 7.8: an id that is there is a range of the bytes
unfoldable pub id_lies : List ℕ → IdentityRow → Bool
id_lies s r = if r.has_id then lies s r.id else true

-- equal ids: both rows have one, of the same bytes. Two of length 0 are equal (Rule 7.7).
unfoldable pub same_id : List ℕ → IdentityRow → IdentityRow → Bool
same_id s k r = both k.has_id (both r.has_id (same_bytes (bytes_in s k.id) (bytes_in s r.id)))

-- Rule 7.5: a certificate row with an equal id
unfoldable pub pairs_with : List ℕ → IdentityRow → IdentityRow → Bool
pairs_with s k r = both (is_certificate r.kind) (same_id s k r)

-- the numbers of those rows, where n rows come before these
unfoldable pub matching : List ℕ → IdentityRow → ℕ → List IdentityRow → List ℕ
matching s k n [] = []
matching s k n (r ∷ rs) = if pairs_with s k r then n ∷ matching s k (n + 1) rs else matching s k (n + 1) rs

-- Rule 5.37: 11 to 14 have the offset 0
abbrev pub refused_by : ℕ → Result ℕ Fault
refused_by number = Err (fault number 0)

-- Rules 7.5, 7.6: the only certificate row with an equal id; 13 if there is none, as where the key
-- has no id; 14 if there are two or more
unfoldable pub only_one : List ℕ → Result ℕ Fault
only_one [] = refused_by no_certificate
only_one (n ∷ []) = Ok n
only_one (n ∷ m ∷ ns) = refused_by more_certificates

-- Rule 7.8: an id outside the bytes, in any row, is 11, before 12
unfoldable pub paired : List ℕ → List IdentityRow → ℕ → Result ℕ Fault
paired s rows k =
    if all (id_lies s) rows then
    (if is_key (get_or rows k no_identity).kind then
    only_one (matching s (get_or rows k no_identity) 0 rows) else
    refused_by no_row) else
    refused_by not_sound
