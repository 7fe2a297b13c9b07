-- Parts of a table, stored one by one in a caller's memory. Memory that is shorter than a table
-- stays as it is, and so does memory where there is no such row.
use Rattle.std.specs.Prelude.{List, ℕ, ◌+◌, ◌-◌, ◌*◌, min, ltb, leb, length, replicate}
use Rattle.std.proofs.lemmas.List.Edits.{sets}
use Rattle.std.specs.Prelude.{if◌then◌else◌}
use Rattle.pkcs12.specs.Numbers.{safe_rows, bag_rows, attribute_rows}
use Rattle.range.specs.declared.Range.{Range}
use Rattle.pkcs12.specs.declared.row.SafeRow.{SafeRow}
use Rattle.pkcs12.specs.declared.row.BagRow.{BagRow}
use Rattle.pkcs12.specs.declared.row.AttributeRow.{AttributeRow}
use Rattle.pkcs12.specs.declared.row.Mac.{Mac}
use Rattle.words.specs.Layout.{safe_width, bag_width, attribute_width, elements_at, mac_input_at, mac_fields_at}
use Rattle.words.specs.Layout.{safes_at, bags_at, attributes_at, table_words}
use Rattle.words.specs.Stored.{range_words, safe_words, bag_words, attribute_words, mac_words, count_words}
use Rattle.words.specs.declared.Counts.{Counts}

-- what is made of the memory of a table
abbrev pub in_table : List ℕ → List ℕ → List ℕ
in_table m x = if ltb (length m) table_words then m else x

-- ---- one row, by its number

-- the words x of row n of a kind, of which there are so many, from an offset on
abbrev pub row_stored : ℕ → ℕ → ℕ → List ℕ → ℕ → List ℕ → List ℕ
row_stored rows from width m n x = in_table m (if leb rows n then m else sets m (from + n * width) x)

unfoldable pub safe_stored : List ℕ → ℕ → SafeRow → List ℕ
safe_stored m n r = row_stored safe_rows safes_at safe_width m n (safe_words r)

unfoldable pub bag_stored : List ℕ → ℕ → BagRow → List ℕ
bag_stored m n r = row_stored bag_rows bags_at bag_width m n (bag_words r)

unfoldable pub attribute_stored : List ℕ → ℕ → AttributeRow → List ℕ
attribute_stored m n r = row_stored attribute_rows attributes_at attribute_width m n (attribute_words r)

-- ---- what is before the rows

unfoldable pub input_stored : List ℕ → Range → List ℕ
input_stored m r = in_table m (sets m mac_input_at (range_words r))

-- the counts, and the MAC
unfoldable pub head_stored : List ℕ → Counts → Mac → List ℕ
head_stored m k x =
    sets (sets m elements_at (count_words k.elements k.safes k.bags k.attributes)) mac_fields_at (mac_words x)

-- ---- the end of a table

-- 0 in place of the rows of one kind past the n that are counted
unfoldable pub rest_cleared : ℕ → ℕ → ℕ → List ℕ → ℕ → List ℕ
rest_cleared from width rows m n = sets m (from + min n rows * width) (replicate ((rows - min n rows) * width) 0)

-- rows are stored: the counts, the MAC, and 0 in place of the other rows
unfoldable pub finished : List ℕ → Counts → Mac → List ℕ
finished m k x =
    in_table m
    (rest_cleared attributes_at attribute_width attribute_rows
    (rest_cleared bags_at bag_width bag_rows
    (rest_cleared safes_at safe_width safe_rows (head_stored m k x) k.safes)
    k.bags)
    k.attributes)

-- the words of the empty table
unfoldable pub cleared : List ℕ → List ℕ
cleared m = in_table m (sets m 0 (replicate table_words 0))
