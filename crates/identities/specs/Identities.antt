-- The identity rows of a table's bags (Rules 7.3, 7.4).
use Rattle.std.specs.Prelude.{Bool, List, [], ◌∷◌, ◌++◌, ℕ, zero, suc, min, leb, ltb, length, get_or}
use Rattle.std.specs.Prelude.{if◌then◌else◌}
use Rattle.der.specs.Choice.{both}
use Rattle.der.specs.Numbers.{octet_string_tag}
use Rattle.der.specs.Element.{cursor, expect_at, on_element, on_result}
use Rattle.der.specs.declared.Fault.{Fault}
use Rattle.pkcs12.specs.Numbers.{bag_rows}
use Rattle.buffer.specs.Numbers.{not_sound}
use Rattle.range.specs.Bytes.{same_bytes}
use Rattle.range.specs.Range.{range, no_range, bytes_in}
use Rattle.pkcs12.specs.Table.{no_bag, no_attribute, padded}
use Rattle.pkcs12.specs.Written.{file_of, on_file}
use Rattle.range.specs.declared.Range.{Range}
use Rattle.pkcs12.specs.declared.row.AttributeRow.{AttributeRow}
use Rattle.pkcs12.specs.declared.table.Table.{Table}
use Rattle.attributes.specs.Own.{attributes_of}
use Rattle.attributes.specs.Reader.{first_from, names, opening_of}
use Rattle.pairing.specs.Pairs.{identity, no_identity, refused_by, paired}
use Rattle.pairing.specs.declared.IdentityRow.{IdentityRow}
use Rattle.std.specs.Prelude.{Err, Ok, Result, None, Option, Some, is_some}
use Rattle.std.specs.Option.{unwrap_or}

-- Rule 3.23: localKeyID, 2A 86 48 86 F7 0D 01 09 15
unfoldable pub local_key_type : List ℕ
local_key_type = 0x2A ∷ 0x86 ∷ 0x48 ∷ 0x86 ∷ 0xF7 ∷ 0x0D ∷ 0x01 ∷ 0x09 ∷ 0x15 ∷ []

-- an attribute row of a bag that is a localKeyID
unfoldable pub is_local_key : List ℕ → ℕ → AttributeRow → Bool
is_local_key s bag r = both (names bag r) (same_bytes (bytes_in s r.identifier) local_key_type)

-- the bag's first one, by number; past the last row where there is none
unfoldable pub key_row : Table → List ℕ → ℕ → ℕ
key_row t s bag = first_from (is_local_key s bag) (attributes_of t) 0

-- Rule 7.4: the id, if the attribute has exactly one element and that is an OCTET STRING; otherwise
-- none
unfoldable pub id_in : List ℕ → Range → Option Range
id_in s r =
    on_element (expect_at octet_string_tag s (cursor r.start r.end))
    (λ f. None)
    (λ t b n. if leb n.end n.at then Some (range b.at b.end) else None)

-- Rule 7.4: a bag's id is taken from its first localKeyID attribute
unfoldable pub id_of : Table → List ℕ → ℕ → Option Range
id_of t s bag = if ltb (key_row t s bag) (length (attributes_of t)) then
    id_in s (get_or t.attributes (key_row t s bag) no_attribute).values else
    None

-- Rule 7.3: the kind, whether there is an id, and the id's bytes
unfoldable pub identity_of : Table → List ℕ → ℕ → IdentityRow
identity_of t s bag =
    identity (get_or t.bags bag no_bag).kind (is_some (id_of t s bag)) (unwrap_or (id_of t s bag) no_range)

-- refused as opening the bag's attributes is
unfoldable pub identity_at : Table → List ℕ → ℕ → Result IdentityRow Fault
identity_at t s bag = on_result (opening_of t s bag).item Err (λ x. Ok (identity_of t s bag))

-- the first n of what f numbers
unfoldable pub first_of : {A : Type 0} → (ℕ → A) → ℕ → List A
first_of f zero = []
first_of f (suc n) = first_of f n ++ (f n ∷ [])

-- the identity rows of all bags, in the bags' order
abbrev pub identities_of : Table → List ℕ → List IdentityRow
identities_of t s = first_of (identity_of t s) (min t.bag_count bag_rows)

-- the same as an array, padded with rows that are no key's and no certificate's
unfoldable pub identity_rows : Table → List ℕ → List IdentityRow
identity_rows t s = padded bag_rows no_identity (identities_of t s)

-- the certificate for the key of a table
unfoldable pub certificate_for : Table → List ℕ → ℕ → Result ℕ Fault
certificate_for t s k = on_file (file_of t s) (refused_by not_sound) (λ f. paired s (identity_rows t s) k)
