-- Sizes of what is written.
use Rattle.std.specs.Prelude.{List, [], ℕ, ◌+◌, length}
use Rattle.std.proofs.Math.Option.{Option, some}
use Rattle.std.proofs.Math.Option as option
use Rattle.pkcs12.specs.Syntax.{Set, absent, present, none}
use Rattle.pkcs12.specs.Encode.{attributes_bytes, set_bytes, bags_bytes, safe_bytes, safes_bytes}
use Rattle.encode.specs.Sizes.{capped, element_size}
use Rattle.sizes.specs.Picked.{SetPicked, Picked, OnePicked, SafePicked, SafesPicked}
use Rattle.sizes.specs.declared.rows.Owned.{Owned}
use Rattle.sizes.specs.declared.rows.Taken.{Taken}
use Rattle.std.specs.Prelude.{None, Option as Maybe, Some}
use Rattle.sizes.specs.declared.rows.Safes.{Safes}

-- the body of a bag: bagId, [0] with its content, and the set
unfoldable pub bag_size : ℕ → ℕ → ℕ
bag_size content set = 13 + (element_size content + set)

-- the body of a ContentInfo: its type, [0] with its content
unfoldable pub content_info_size : ℕ → ℕ
content_info_size content = 11 + element_size content

-- that of data: an OCTET STRING with a SEQUENCE
unfoldable pub data_size : ℕ → ℕ
data_size n = content_info_size (element_size (element_size n))

-- the body of a PFX: version, safes, MacData
unfoldable pub pfx_size : ℕ → ℕ → ℕ
pfx_size safes mac = 3 + (element_size (data_size safes) + element_size mac)

-- what was taken, by its size
abbrev pub sized_as : ℕ → ℕ → ℕ → Taken
sized_as size bag attribute = record { size = capped size; bag = bag; attribute = attribute }

abbrev pub one_of : ℕ → ℕ → ℕ → Maybe Taken
one_of size bag attribute = Some (sized_as size bag attribute)

abbrev pub with_safe : Taken → ℕ → Safes
with_safe taken safe = record { size = taken.size; safe = safe; bag = taken.bag; attribute = taken.attribute }

abbrev pub present_as : ℕ → ℕ → Owned
present_as body next = record { body = body; size = capped (element_size body); next = next }

abbrev pub set_body : Set → List ℕ
set_body absent = []
set_body (present xs) = attributes_bytes xs

unfoldable pub set_sized : SetPicked → Owned
set_sized p =
    record { body = capped (length (set_body p.set)); size = capped (length (set_bytes p.set)); next = p.next }

unfoldable pub taken_sized : Picked → Taken
taken_sized p = sized_as (length (bags_bytes p.bags)) p.bag p.attribute

unfoldable pub one_sized : Option OnePicked → Maybe Taken
one_sized option.none = None
one_sized (some p) = one_of (length (bags_bytes (p.front none))) p.bag p.attribute

unfoldable pub safe_sized : Option SafePicked → Maybe Taken
safe_sized option.none = None
safe_sized (some p) = one_of (length (safe_bytes p.safe)) p.bag p.attribute

unfoldable pub safes_sized : SafesPicked → Safes
safes_sized p =
    record { size = capped (length (safes_bytes p.safes)); safe = p.safe; bag = p.bag; attribute = p.attribute }
