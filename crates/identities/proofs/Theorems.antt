-- What is proved of identity rows, stated over the definitions that the calls follow. The proofs
-- are elsewhere. `Bytes s`: each number of the list is below 256. `Sound t s`: the table t is sound
-- for the bytes s, and its `reading` is what it shows of them.
use mathlib.Core.Logic.{◌↔◌}
use mathlib.Core.Path.{◌≡◌}
use mathlib.Core.List.{List}
use Prim.Native.Nat.{ℕ, ◌≤◌, ◌<◌}
use lib.ListN.{length, get_or}
use Rattle.der.specs.Numbers.{octet_string_tag}
use Rattle.der.specs.Octets.{tlv}
use Rattle.der.specs.Element.{fault}
use Rattle.der.specs.Span.{Bytes}
use Rattle.der.specs.Tree.{primitive, none, more}
use Rattle.der.specs.declared.Fault.{Fault}
use Rattle.pkcs12.specs.Numbers.{bag_rows, no_row}
use Rattle.pairing.specs.Numbers.{no_certificate, more_certificates}
use Rattle.buffer.specs.Numbers.{short_buffer, not_sound}
use Rattle.pkcs12.specs.Valid.{Opaques}
use Rattle.pkcs12.specs.Sound.{Sound, Lies}
use Rattle.pkcs12.specs.declared.table.Table.{Table}
use Rattle.std.specs.Prelude.{Err, None, Ok, Some}
use Rattle.range.specs.declared.Range.{Range}
use Rattle.attributes.specs.Own.{set_in_safes, listed}
use Rattle.pairing.specs.Pairs.{no_identity, refused_by}
use Rattle.pairing.specs.Only.{Matches, IdsLie, IsKey, Answered}
use Rattle.pairing.specs.declared.IdentityRow.{IdentityRow}
use Rattle.identities.specs.Identities.{id_of, identity_of, identity_at, identity_rows, certificate_for}
use Rattle.identities.specs.Filling.{fill_of}
use Rattle.identities.specs.Ids.{IsId, Shows, id_in_row, kind_in, KeyBag, Certifies}
use Rattle.identities.proofs.Ids as ids
use Rattle.identities.proofs.Answers as answers
use Rattle.identities.proofs.Certificates as certificates

-- ---- ids

-- The id of a bag is the body of the one OCTET STRING that its first localKeyID attribute in the
-- reading holds, and is there exactly if there is one.
pub id_of_bag : (t : Table) (s : List ℕ) (n : ℕ) → Bytes s → (o : Sound t s) → Shows s (id_of t s n) (listed (set_in_safes n o.reading.safes))
id_of_bag = ids.id_of_bag

pub no_id_iff : (t : Table) (s : List ℕ) (n : ℕ) → Bytes s → (o : Sound t s)
    → id_of t s n ≡ None ↔ ((x : List ℕ) → IsId (listed (set_in_safes n o.reading.safes)) x → ⊥)
no_id_iff = ids.no_id_iff

-- Rule 7.4, exactly one element, an OCTET STRING: values whose bytes are one OCTET STRING are those
-- with one such element and no other.
pub one_element : (v x : List ℕ) (p : Opaques v) → p.as_trees ≡ more (primitive octet_string_tag x) none ↔ v ≡ tlv octet_string_tag x
one_element = ids.one_element

-- An id that is there lies in the bytes, whatever the table.
pub id_lies_lem : (t : Table) (s : List ℕ) (n : ℕ) (r : Range) → id_of t s n ≡ Some r → Lies s r
id_lies_lem = ids.id_lies_lem

-- ---- the identity row of a bag

-- A row is returned exactly if the table is sound and has the bag, and then it is this one;
pub identity_iff : (t : Table) (s : List ℕ) (n : ℕ) → Bytes s → (r : IdentityRow)
    → identity_at t s n ≡ Ok r ↔ (Sound t s × (n < t.bag_count) × (identity_of t s n ≡ r))
identity_iff = answers.identity_iff

-- 11 exactly if the table is not sound, then 12 exactly if the bag isn't there.
pub identity_11_iff : (t : Table) (s : List ℕ) (n : ℕ) → Bytes s
    → identity_at t s n ≡ Err (fault not_sound 0) ↔ (Sound t s → ⊥)
identity_11_iff = answers.identity_11

pub identity_12_iff : (t : Table) (s : List ℕ) (n : ℕ) → Bytes s
    → identity_at t s n ≡ Err (fault no_row 0) ↔ (Sound t s × (t.bag_count ≤ n))
identity_12_iff = answers.identity_12

-- Its kind and its id are those of the bag in the reading.
pub identity_kind : (t : Table) (s : List ℕ) (o : Sound t s) (n : ℕ) → n < t.bag_count
    → (identity_of t s n).kind ≡ kind_in n o.reading.safes
identity_kind = certificates.identity_kind

pub identity_id : (t : Table) (s : List ℕ) (o : Sound t s) → Bytes s → (n : ℕ)
    → Shows s (id_in_row (identity_of t s n)) (listed (set_in_safes n o.reading.safes))
identity_id = certificates.identity_id

-- ---- the identity rows of all bags

-- An array of as many rows as a table has for bags: row j is that of bag j, if the count is within
-- the sizes, and past the count it is empty.
pub identity_rows_length : (t : Table) (s : List ℕ) → length (identity_rows t s) ≡ bag_rows
identity_rows_length = certificates.rows_length

pub identity_row : (t : Table) (s : List ℕ) (j : ℕ) → j < t.bag_count → t.bag_count ≤ bag_rows
    → get_or (identity_rows t s) j no_identity ≡ identity_of t s j
identity_row = certificates.identity_row

pub identity_row_past : (t : Table) (s : List ℕ) (j : ℕ) → t.bag_count ≤ j
    → get_or (identity_rows t s) j no_identity ≡ no_identity
identity_row_past = certificates.identity_row_past

-- every id in it lies in the bytes
pub ids_lie : (t : Table) (s : List ℕ) → IdsLie s (identity_rows t s)
ids_lie = certificates.ids_lie

-- ---- the certificate for a key

-- Row j is the answer exactly if the table is sound, row k is a key's, row j matches it, and no
-- other row does.
pub certificate_iff : (t : Table) (s : List ℕ) (k : ℕ) → Bytes s → (j : ℕ)
    → certificate_for t s k ≡ Ok j
    ↔ (Sound t s × IsKey (identity_rows t s) k × Matches s (identity_rows t s) k j
    × ((i : ℕ) → Matches s (identity_rows t s) k i → i ≡ j))
certificate_iff = certificates.certificate_iff

-- Every answer is a row or one of four refusals:
pub certificate_answers : (t : Table) (s : List ℕ) (k : ℕ) → Answered (certificate_for t s k)
certificate_answers = certificates.certificate_answers

-- 11 exactly if the table is not sound: the ids of a sound one lie in the bytes;
pub certificate_11_iff : (t : Table) (s : List ℕ) (k : ℕ) → Bytes s
    → certificate_for t s k ≡ refused_by not_sound ↔ (Sound t s → ⊥)
certificate_11_iff = certificates.certificate_11

-- then 12 exactly if row k is no key's, 13 exactly if no row matches it, 14 exactly if two do.
pub certificate_12_iff : (t : Table) (s : List ℕ) (k : ℕ) → Bytes s
    → certificate_for t s k ≡ refused_by no_row ↔ (Sound t s × (IsKey (identity_rows t s) k → ⊥))
certificate_12_iff = certificates.certificate_12

pub certificate_13_iff : (t : Table) (s : List ℕ) (k : ℕ) → Bytes s
    → certificate_for t s k ≡ refused_by no_certificate
    ↔ (Sound t s × IsKey (identity_rows t s) k × ((j : ℕ) → Matches s (identity_rows t s) k j → ⊥))
certificate_13_iff = certificates.certificate_13

pub certificate_14_iff : (t : Table) (s : List ℕ) (k : ℕ) → Bytes s
    → certificate_for t s k ≡ refused_by more_certificates
    ↔ (Sound t s × IsKey (identity_rows t s) k × ((i : ℕ) × (j : ℕ) × (i < j) × Matches s (identity_rows t s) k i × Matches s (identity_rows t s) k j))
certificate_14_iff = certificates.certificate_14

-- What these say by the reading: a row is a key's if its bag is, and a row matches a key's if its
-- bag is a certificate's whose id is the key's.
pub key_by_reading : (t : Table) (s : List ℕ) (o : Sound t s) (k : ℕ) → IsKey (identity_rows t s) k ↔ KeyBag o.reading.safes k
key_by_reading = certificates.key_by_reading

pub matches_by_reading : (t : Table) (s : List ℕ) (o : Sound t s) → Bytes s → (k : ℕ)
    → KeyBag o.reading.safes k → (j : ℕ)
    → Matches s (identity_rows t s) k j ↔ Certifies o.reading.safes k j
matches_by_reading = certificates.matches_by_reading

pub certificate_by_reading : (t : Table) (s : List ℕ) (k : ℕ) → Bytes s → (o : Sound t s) → (j : ℕ)
    → certificate_for t s k ≡ Ok j
    ↔ (KeyBag o.reading.safes k × Certifies o.reading.safes k j
    × ((i : ℕ) → Certifies o.reading.safes k i → i ≡ j))
certificate_by_reading = certificates.certificate_by_reading

-- ---- filling a caller's rows

-- A number is returned exactly if the table is sound and there are enough rows, and it is the
-- number of bags;
pub filled_iff : (t : Table) (s : List ℕ) (out : List IdentityRow) → Bytes s → (n : ℕ)
    → (fill_of t s out).answer ≡ Ok n ↔ (Sound t s × (t.bag_count ≤ length out) × (t.bag_count ≡ n))
filled_iff = answers.filled_iff

-- 11 exactly if the table is not sound, then 10 exactly if there are fewer rows than bags.
pub filled_11_iff : (t : Table) (s : List ℕ) (out : List IdentityRow) → Bytes s
    → (fill_of t s out).answer ≡ Err (fault not_sound 0) ↔ (Sound t s → ⊥)
filled_11_iff = answers.filled_11

pub filled_10_iff : (t : Table) (s : List ℕ) (out : List IdentityRow) → Bytes s
    → (fill_of t s out).answer ≡ Err (fault short_buffer 0) ↔ (Sound t s × (length out < t.bag_count))
filled_10_iff = answers.filled_10

-- Then row i is that of bag i. The rows behind them, and on refusal all rows, are as before.
pub filled_row : (t : Table) (s : List ℕ) (out : List IdentityRow) (n : ℕ) → (fill_of t s out).answer ≡ Ok n
    → (i : ℕ) (d : IdentityRow) → i < n
    → get_or (fill_of t s out).rows i d ≡ identity_of t s i
filled_row = answers.filled_row

pub filled_behind : (t : Table) (s : List ℕ) (out : List IdentityRow) (n : ℕ) → (fill_of t s out).answer ≡ Ok n
    → (i : ℕ) (d : IdentityRow) → n ≤ i
    → get_or (fill_of t s out).rows i d ≡ get_or out i d
filled_behind = answers.filled_behind

pub filled_length : (t : Table) (s : List ℕ) (out : List IdentityRow) → length (fill_of t s out).rows ≡ length out
filled_length = answers.filled_length

pub refused_out : (t : Table) (s : List ℕ) (out : List IdentityRow) (f : Fault)
    → (fill_of t s out).answer ≡ Err f → (fill_of t s out).rows ≡ out
refused_out = answers.refused_out
