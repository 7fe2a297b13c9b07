-- The table that is loaded from words; words that aren't there count as 0.
use Rattle.std.specs.Prelude.{Bool, true, false, List, [], ◌∷◌, ℕ, ◌+◌, ◌-◌, ◌*◌, min, eqb, leb, get_or}
use Rattle.std.specs.Prelude.{if◌then◌else◌}
use Rattle.pkcs12.specs.Numbers.{safe_rows, bag_rows, attribute_rows}
use Rattle.range.specs.Range.{range}
use Rattle.pkcs12.specs.Table.{parts, safe_row, no_safe, bag_row, no_bag, attribute_row, no_attribute, mac_fields, padded}
use Rattle.pkcs12.specs.Table.{table}
use Rattle.buffer.specs.Placed.{each}
use Rattle.range.specs.declared.Range.{Range}
use Rattle.pkcs12.specs.declared.row.Parts.{Parts}
use Rattle.pkcs12.specs.declared.kind.SafeKind.{SafeKind}
use Rattle.pkcs12.specs.declared.kind.SafeKind.TheVariants.{Plain, Encrypted}
use Rattle.pkcs12.specs.declared.kind.BagKind.{BagKind}
use Rattle.pkcs12.specs.declared.kind.BagKind.TheVariants.{Key, ShroudedKey, Certificate, Crl, Secret, Nested}
use Rattle.std.specs.Prelude.{None, Option, Some}
use Rattle.pkcs12.specs.declared.row.SafeRow.{SafeRow}
use Rattle.pkcs12.specs.declared.row.BagRow.{BagRow}
use Rattle.pkcs12.specs.declared.row.AttributeRow.{AttributeRow}
use Rattle.pkcs12.specs.declared.row.Mac.{Mac}
use Rattle.pkcs12.specs.declared.table.Table.{Table}
use Rattle.words.specs.Layout.{range_width, parts_width, safe_width, bag_width, attribute_width, elements_at}
use Rattle.words.specs.Layout.{safe_count_at, bag_count_at, attribute_count_at, mac_input_at, mac_fields_at, safes_at}
use Rattle.words.specs.Layout.{bags_at, attributes_at, half_size}

abbrev pub word_at : List ℕ → ℕ → ℕ
word_at ws i = get_or ws i 0

-- ---- what a word means

unfoldable pub enclosing_of : ℕ → Option ℕ
enclosing_of w = if eqb w 0 then None else Some (w - 1)

-- a number that is no kind's is `None`
unfoldable pub safe_kind_of : ℕ → SafeKind
safe_kind_of w = if eqb w 1 then Plain else if eqb w 2 then Encrypted else SafeKind.None

unfoldable pub bag_kind_of : ℕ → BagKind
bag_kind_of w =
    if eqb w 1 then Key else
    if eqb w 2 then ShroudedKey else
    if eqb w 3 then Certificate else
    if eqb w 4 then Crl else
    if eqb w 5 then Secret else
    if eqb w 6 then Nested else
    BagKind.None

unfoldable pub set_of : ℕ → Bool
set_of w = if eqb w 0 then false else true

-- ---- what is at an offset

unfoldable pub range_loaded : List ℕ → ℕ → Range
range_loaded ws at = range (word_at ws at) (word_at ws (at + 1))

unfoldable pub parts_loaded : List ℕ → ℕ → Parts
parts_loaded ws at = parts (range_loaded ws at) (range_loaded ws (at + range_width)) (range_loaded ws (at + 2 * range_width))

unfoldable pub safe_loaded : List ℕ → ℕ → SafeRow
safe_loaded ws at = safe_row (safe_kind_of (word_at ws at)) (parts_loaded ws (at + 1))

unfoldable pub bag_loaded : List ℕ → ℕ → BagRow
bag_loaded ws at =
    bag_row (bag_kind_of (word_at ws at)) (word_at ws (at + 1)) (enclosing_of (word_at ws (at + 2))) (parts_loaded ws (at + 3))
    (set_of (word_at ws (at + (3 + parts_width))))

unfoldable pub attribute_loaded : List ℕ → ℕ → AttributeRow
attribute_loaded ws at = attribute_row (word_at ws at) (range_loaded ws (at + 1)) (range_loaded ws (at + (1 + range_width)))

unfoldable pub mac_loaded : List ℕ → ℕ → Mac
mac_loaded ws at =
    mac_fields (parts_loaded ws at) (range_loaded ws (at + parts_width))
    (word_at ws (at + (parts_width + range_width)) + half_size * word_at ws (at + (parts_width + range_width + 1)))

-- ---- all of it

-- row i of a kind, whose rows are from an offset on
abbrev pub row_from : {A : Type 0} → (List ℕ → ℕ → A) → ℕ → ℕ → List ℕ → ℕ → A
row_from loaded from width ws i = loaded ws (from + i * width)

abbrev pub safe_from : List ℕ → ℕ → SafeRow
safe_from = row_from safe_loaded safes_at safe_width

abbrev pub bag_from : List ℕ → ℕ → BagRow
bag_from = row_from bag_loaded bags_at bag_width

abbrev pub attribute_from : List ℕ → ℕ → AttributeRow
attribute_from = row_from attribute_loaded attributes_at attribute_width

-- the same by the row's number; there is no row past the size of the table
abbrev pub row_fetched : {A : Type 0} → (List ℕ → ℕ → A) → A → ℕ → ℕ → ℕ → List ℕ → ℕ → A
row_fetched loaded none rows from width ws n = if leb rows n then none else row_from loaded from width ws n

unfoldable pub safe_fetched : List ℕ → ℕ → SafeRow
safe_fetched ws n = row_fetched safe_loaded no_safe safe_rows safes_at safe_width ws n

unfoldable pub bag_fetched : List ℕ → ℕ → BagRow
bag_fetched ws n = row_fetched bag_loaded no_bag bag_rows bags_at bag_width ws n

unfoldable pub attribute_fetched : List ℕ → ℕ → AttributeRow
attribute_fetched ws n = row_fetched attribute_loaded no_attribute attribute_rows attributes_at attribute_width ws n

-- the rows of one kind: those that are counted and that there are, and empty ones in place of the
-- others
unfoldable pub rows_from : {A : Type 0} → (ℕ → A) → A → ℕ → ℕ → List A
rows_from f none rows count = padded rows none (each (λ i. f i ∷ []) (min count rows))

unfoldable pub table_in : List ℕ → Table
table_in ws =
    table
    (rows_from (safe_from ws) no_safe safe_rows (word_at ws safe_count_at))
    (word_at ws safe_count_at)
    (rows_from (bag_from ws) no_bag bag_rows (word_at ws bag_count_at))
    (word_at ws bag_count_at)
    (rows_from (attribute_from ws) no_attribute attribute_rows (word_at ws attribute_count_at))
    (word_at ws attribute_count_at)
    (mac_loaded ws mac_fields_at)
    (range_loaded ws mac_input_at)
    (word_at ws elements_at)
