-- What is due of the reader: the attributes of one bag, in the rows of a table and in its reading;
-- the elements of an attribute by value.
use Rattle.std.specs.Prelude.{◌≡◌, List, [], ◌∷◌, ℕ, zero, suc, ◌-◌, ◌≤◌, ◌<◌, ltb, eqb, length, get_or, take}
use Rattle.std.specs.Prelude.{if◌then◌else◌}
use Rattle.std.specs.Prelude.{Ok}
use Rattle.der.specs.Tree.{Trees, none, more, encode}
use Rattle.pkcs12.specs.Syntax.{Attribute, Set, absent, present, Bags, bag, nest, Safe, plain, encrypted}
use Rattle.pkcs12.specs.Syntax as syntax
use Rattle.pkcs12.specs.Valid.{bags_in, bags_in_safe}
use Rattle.pkcs12.specs.Values.{AttributeValue}
use Rattle.pkcs12.specs.Table.{attribute_shown}
use Rattle.pkcs12.specs.declared.row.AttributeRow.{AttributeRow}
use Rattle.range.specs.declared.Range.{Range}
use Rattle.pkcs12.specs.declared.table.Table.{Table}
use Rattle.attributes.specs.Reader.{names, item_after}
use Rattle.attributes.specs.declared.Item.{Item}
use Rattle.attributes.specs.declared.Item.TheVariants.{Done}
use Rattle.attributes.specs.declared.Position.{Position}

-- ---- by rows

-- the rows of a table that are counted
abbrev pub attributes_of : Table → List AttributeRow
attributes_of t = take t.attribute_count t.attributes

-- those that name a bag, in order
unfoldable pub own_rows : ℕ → List AttributeRow → List AttributeRow
own_rows n [] = []
own_rows n (r ∷ rs) = if names n r then r ∷ own_rows n rs else own_rows n rs

-- ---- by the reading

-- the attributes in rows by value that name a bag, in order
unfoldable pub own_in : ℕ → List AttributeValue → List Attribute
own_in n [] = []
own_in n (r ∷ rs) = if eqb r.bag n then r.attribute ∷ own_in n rs else own_in n rs

-- the set of bag n, counted in file order of the bags' first bytes
unfoldable pub set_in : ℕ → Bags → Set
set_in n syntax.none = absent
set_in zero (bag x set xs) = set
set_in (suc n) (bag x set xs) = set_in n xs
set_in zero (nest inner set xs) = set
set_in (suc n) (nest inner set xs) = if ltb n (bags_in inner) then set_in n inner else set_in (n - bags_in inner) xs

abbrev pub set_in_safe : ℕ → Safe → Set
set_in_safe n (plain xs) = set_in n xs
set_in_safe n (encrypted x) = absent

unfoldable pub set_in_safes : ℕ → List Safe → Set
set_in_safes n [] = absent
set_in_safes n (x ∷ xs) = if ltb n (bags_in_safe x) then set_in_safe n x else set_in_safes (n - bags_in_safe x) xs

abbrev pub listed : Set → List Attribute
listed absent = []
listed (present xs) = xs

abbrev pub no_value : Attribute
no_value = record { identifier = []; values = [] }

-- Rule 7.1: the attributes in turn, then done. Call i, counted from 0, returns a row that shows
-- attribute i of the list, and every call past the list reports that it is done.
pub record Gives (s : List ℕ) (p : Position) (xs : List Attribute) : Type 0 where
  pub in_turn : (i : ℕ) → i < length xs
      → (r : AttributeRow) × (item_after i p ≡ Ok (Item.Attribute r))
      × ((attribute_shown s r).attribute ≡ get_or xs i no_value)
  pub done : (i : ℕ) → length xs ≤ i → item_after i p ≡ Ok Done

-- ---- elements by value

-- the bytes of each of them, header included
unfoldable pub each : Trees → List (List ℕ)
each none = []
each (more x xs) = encode x ∷ each xs

-- ranges that follow one another from a to e, none of them empty
unfoldable pub Chain : ℕ → ℕ → List Range → Type 0
Chain a e [] = a ≡ e
Chain a e (x ∷ xs) = (x.start ≡ a) × (a < x.end) × Chain x.end e xs
