-- What is proved of the attribute reader, stated over the definitions that its calls follow. The
-- proofs are elsewhere. `Bytes s`: each number of the list is below 256. `Sound t s`: the table t
-- is sound for the bytes s.
use mathlib.Core.Logic.{◌↔◌}
use mathlib.Core.Path.{◌≡◌}
use mathlib.Core.List.{List, [], map}
use Prim.Native.Nat.{ℕ, ◌≤◌, ◌<◌}
use native.Mathlib.Omega.{arith}
use lib.ListN.{length, get_or}
use Rattle.std.specs.Prelude.{Err, Ok}
use Rattle.der.specs.Element.{fault}
use Rattle.der.specs.Span.{Bytes}
use Rattle.der.specs.declared.Fault.{Fault}
use Rattle.buffer.specs.Numbers.{not_sound}
use Rattle.pkcs12.specs.Numbers.{no_row}
use Rattle.pkcs12.specs.Syntax.{Safe}
use Rattle.pkcs12.specs.Valid.{Opaques, bags_in_safes}
use Rattle.pkcs12.specs.Values.{BagValue, stands, bags_of_safes, attributes_of_safes}
use Rattle.range.specs.Range.{bytes_in}
use Rattle.pkcs12.specs.Table.{no_attribute}
use Rattle.pkcs12.specs.Sound.{Sound, Lies}
use Rattle.range.specs.declared.Range.{Range}
use Rattle.pkcs12.specs.declared.row.AttributeRow.{AttributeRow}
use Rattle.pkcs12.specs.declared.table.Table.{Table}
use Rattle.attributes.specs.Reader.{opening_of, item_after}
use Rattle.elements.specs.Elements.{element_ranges, counted_of}
use Rattle.attributes.specs.Own.{attributes_of, own_rows, own_in, set_in_safes, listed, Gives, each, Chain}
use Rattle.attributes.specs.declared.Item.{Item}
use Rattle.attributes.specs.declared.Item.TheVariants.{Ready, Done}
use Rattle.attributes.proofs.Own as own
use Rattle.attributes.proofs.Sets as sets
use Rattle.attributes.proofs.Listed as listing

-- ---- opening

-- 11 exactly if the table is not sound for the bytes, then 12 exactly if the row isn't there
pub refused_11_iff : (t : Table) (s : List ℕ) (n : ℕ) → Bytes s
    → (opening_of t s n).item ≡ Err (fault not_sound 0) ↔ (Sound t s → ⊥)
refused_11_iff = own.refused_11

pub refused_12_iff : (t : Table) (s : List ℕ) (n : ℕ) → Bytes s
    → (opening_of t s n).item ≡ Err (fault no_row 0) ↔ (Sound t s × (t.bag_count ≤ n))
refused_12_iff = own.refused_12

-- and open exactly if it is sound and the row is there
pub ready_iff : (t : Table) (s : List ℕ) (n : ℕ) → Bytes s
    → (opening_of t s n).item ≡ Ok Ready ↔ (Sound t s × (n < t.bag_count))
ready_iff = own.ready_iff

-- a refused reader returns its refusal at every call
pub refused_stays : (t : Table) (s : List ℕ) (n : ℕ) (f : Fault) → (opening_of t s n).item ≡ Err f → (i : ℕ)
    → item_after i (opening_of t s n) ≡ Err f
refused_stays = own.refused_stays

-- ---- whole runs

-- The calls return the rows that name the bag, one by one in order, and then report that the
-- reader is done, at every further call.
pub rows_in_turn : (t : Table) (s : List ℕ) (n : ℕ) → Bytes s → Sound t s → n < t.bag_count → (i : ℕ)
    → (i < length (own_rows n (attributes_of t))
    → item_after i (opening_of t s n) ≡ Ok (Item.Attribute (get_or (own_rows n (attributes_of t)) i no_attribute)))
    × (length (own_rows n (attributes_of t)) ≤ i → item_after i (opening_of t s n) ≡ Ok Done)
rows_in_turn = own.rows_in_turn

-- These are the attributes of the bag in the table's reading, equally many, in order, identifier
-- and values by value.
pub gives_bag : (t : Table) (s : List ℕ) (n : ℕ) → Bytes s → (o : Sound t s) → n < t.bag_count
    → Gives s (opening_of t s n) (listed (set_in_safes n o.reading.safes))
gives_bag = own.gives_bag

-- Every row that a call returns names the bag.
pub rows_name_bag : (t : Table) (s : List ℕ) (n : ℕ) → Bytes s → Sound t s → n < t.bag_count
    → (i : ℕ) (r : AttributeRow)
    → item_after i (opening_of t s n) ≡ Ok (Item.Attribute r) → r.bag ≡ n
rows_name_bag = own.rows_name_bag

-- `set_in_safes` counts bags as the rows do: bag row n has a set exactly if that finds one, and what
-- the attribute rows that name n show is what it lists.
pub bags_numbered_alike : (xs : List Safe) (n : ℕ) (d : BagValue) → n < length (bags_of_safes 0 0 xs)
    → (get_or (bags_of_safes 0 0 xs) n d).has_set ≡ stands (set_in_safes n xs)
bags_numbered_alike = sets.bags_numbered_alike

pub attributes_numbered_alike : (xs : List Safe) (n : ℕ) → own_in n (attributes_of_safes 0 xs) ≡ listed (set_in_safes n xs)
attributes_numbered_alike xs n = sets.own_safes n 0 n xs (omega arith)

-- Every counted bag row of a sound table, if the array has that many, is a bag of the reading.
pub bag_in_reading : (t : Table) (s : List ℕ) (n : ℕ) (o : Sound t s) → n < t.bag_count
    → t.bag_count ≤ length t.bags
    → n < bags_in_safes o.reading.safes
bag_in_reading = own.bag_in_reading

-- ---- the elements of an attribute

-- The values in every counted attribute row of a sound table lie in the bytes and hold opaque
-- elements.
pub attribute_values_hold : (t : Table) (s : List ℕ) → Bytes s → Sound t s → (i : ℕ) → i < length (attributes_of t)
    → Lies s (get_or (attributes_of t) i no_attribute).values
    × Opaques (bytes_in s (get_or (attributes_of t) i no_attribute).values)
attribute_values_hold = own.attribute_values_hold

-- Of values that hold opaque elements, as those of a sound table do, the ranges name the elements
-- one by one: as many, in order, by value.
pub elements_by_value : (s : List ℕ) (r : Range) → Lies s r → (o : Opaques (bytes_in s r)) → map (bytes_in s) (element_ranges s r) ≡ each o.as_trees
elements_by_value = listing.elements_by_value

-- The call that counts them returns how many there are, and element i; past the last it returns an
-- element of no byte.
pub element_counted : (s : List ℕ) (r : Range) → Lies s r → (o : Opaques (bytes_in s r)) → (i : ℕ)
    → ((counted_of (element_ranges s r) i).count ≡ length (each o.as_trees))
    × (bytes_in s (counted_of (element_ranges s r) i).element ≡ get_or (each o.as_trees) i [])
element_counted = listing.element_counted

-- They fill the values: each begins where the one before it ends.
pub elements_follow : (s : List ℕ) (r : Range) → Lies s r → Opaques (bytes_in s r)
    → Chain r.start r.end (element_ranges s r)
elements_follow = listing.elements_follow
