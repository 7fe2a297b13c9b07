-- The attribute reader (Rule 7.1): it stays on one bag, keeps the file and returns the attributes
-- in turn.
use Rattle.std.specs.Prelude.{Bool, true, false, List, [], ◌∷◌, ℕ, zero, suc, ◌+◌, ltb, eqb, length, get_or, take, drop, replicate}
use Rattle.std.specs.Borrow.{Bor}
use Rattle.std.specs.Prelude.{if◌then◌else◌}
use Rattle.std.specs.Prelude.{Err, Ok, Result}
use Rattle.der.specs.Element.{fault, on_result}
use Rattle.der.specs.declared.Fault.{Fault}
use Rattle.pkcs12.specs.Numbers.{attribute_rows, no_row}
use Rattle.buffer.specs.Numbers.{not_sound}
use Rattle.pkcs12.specs.Table.{no_attribute}
use Rattle.pkcs12.specs.Written.{file_of, on_file}
use Rattle.pkcs12.specs.declared.row.AttributeRow.{AttributeRow}
use Rattle.pkcs12.specs.declared.table.Table.{Table}
use Rattle.attributes.specs.declared.Item.{Item}
use Rattle.attributes.specs.declared.Item.TheVariants.{Ready, Done}
use Rattle.attributes.specs.declared.Position.{Position}
use Rattle.attributes.specs.declared.Attributes.{Attributes}

abbrev pub position : List AttributeRow → ℕ → ℕ → ℕ → Result Item Fault → Position
position rows count bag at item = record { rows = rows; count = count; bag = bag; at = at; item = item }

-- Rule 5.37: 11 and 12 have the offset 0.
unfoldable pub refused_by : ℕ → Position
refused_by number = position (replicate attribute_rows no_attribute) 0 0 0 (Err (fault number 0))

-- Rule 7.2: 11 for a table that is not sound for the bytes, then 12 for a row that isn't there. A
-- table that is not sound has no file.
unfoldable pub opening_of : Table → List ℕ → ℕ → Position
opening_of t s bag =
    on_file (file_of t s)
    (refused_by not_sound)
    (λ f. if ltb bag t.bag_count then
    position t.attributes t.attribute_count bag 0 (Ok Ready) else
    refused_by no_row)

-- the number of the first row that passes a test, where `at` rows come before these; past the last
-- if none does
unfoldable pub first_from : {A : Type 0} → (A → Bool) → List A → ℕ → ℕ
first_from test [] at = at
first_from test (r ∷ rs) at = if test r then at else first_from test rs (at + 1)

abbrev pub names : ℕ → AttributeRow → Bool
names bag r = eqb r.bag bag

-- the rows that are counted
abbrev pub counted : Position → List AttributeRow
counted p = take p.count p.rows

-- the next row that names the bag
unfoldable pub next_row : Position → ℕ
next_row p = first_from (names p.bag) (drop p.at (counted p)) p.at

-- Rule 7.1: row i is the next one, if there is one; after the last the reader is done
unfoldable pub moved_to : Position → ℕ → Position
moved_to p i =
    if ltb i (length (counted p)) then
    position p.rows p.count p.bag (i + 1) (Ok (Item.Attribute (get_or p.rows i no_attribute))) else
    position p.rows p.count p.bag i (Ok Done)

-- one call; after the last row it is done at every further call (Rule 7.1), and a refusal stays
unfoldable pub next_of : Position → Position
next_of p = on_result p.item (λ f. p) (λ x. moved_to p (next_row p))

-- so many calls
unfoldable pub after : ℕ → Position → Position
after zero p = p
after (suc n) p = after n (next_of p)

-- what call i returns, counted from 0
unfoldable pub item_after : ℕ → Position → Result Item Fault
item_after i p = (after (i + 1) p).item

-- Rule 7.1: a reader keeps the file; it is the file and a position
abbrev pub reader_of : Bor (List ℕ) → Position → Attributes
reader_of f p = record { file = f; position = p }

-- ---- what a private function computes

-- whether every further call returns the same
unfoldable pub is_last : Result Item Fault → Bool
is_last (Ok Ready) = false
is_last (Ok (Item.Attribute r)) = false
is_last (Ok Done) = true
is_last (Err f) = true
