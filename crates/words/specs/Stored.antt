-- The words of a table, and storing them.
use Rattle.std.specs.Prelude.{Bool, true, false, List, [], ◌∷◌, ◌++◌, ℕ, ◌+◌, ◌-◌, ◌*◌, ◌/◌, ◌%◌, min, ltb, length, get_or, replicate}
use Rattle.std.specs.Prelude.{if◌then◌else◌}
use Rattle.pkcs12.specs.Numbers.{safe_rows, bag_rows, attribute_rows}
use Rattle.buffer.specs.Numbers.{short_buffer}
use Rattle.pkcs12.specs.Table.{no_safe, no_bag, no_attribute}
use Rattle.buffer.specs.Placed.{each}
use Rattle.buffer.specs.Written.{Outcome, refusal, success}
use Rattle.pkcs12.specs.declared.kind.SafeKind.{SafeKind}
use Rattle.pkcs12.specs.declared.kind.SafeKind.TheVariants.{Plain, Encrypted}
use Rattle.std.specs.Prelude.{None, Option, Some}
use Rattle.pkcs12.specs.declared.row.SafeRow.{SafeRow}
use Rattle.pkcs12.specs.declared.row.BagRow.{BagRow}
use Rattle.pkcs12.specs.declared.row.AttributeRow.{AttributeRow}
use Rattle.pkcs12.specs.declared.row.Mac.{Mac}
use Rattle.pkcs12.specs.declared.table.Table.{Table}
use Rattle.words.specs.Layout.{safe_width, bag_width, attribute_width, table_words, greatest_word, half_size}
-- the words of these are the values that they report
pub use Rattle.pkcs12.specs.Report.{bag_number, parts_values as parts_words, attribute_values as attribute_words}
pub use Rattle.buffer.specs.Report.{range_values as range_words}

-- a count that doesn't fit a word is the greatest word
abbrev pub count_word : ℕ → ℕ
count_word n = min n greatest_word

abbrev pub safe_number : SafeKind → ℕ
safe_number SafeKind.None = 0
safe_number Plain = 1
safe_number Encrypted = 2

-- one more than the row of the enclosing bag; a row whose number doesn't fit is none of a table
abbrev pub enclosing_number : Option ℕ → ℕ
enclosing_number None = 0
enclosing_number (Some n) = min (n + 1) greatest_word

abbrev pub set_number : Bool → ℕ
set_number false = 0
set_number true = 1

abbrev pub safe_words : SafeRow → List ℕ
safe_words r = safe_number r.kind ∷ parts_words r.parts

abbrev pub bag_words : BagRow → List ℕ
bag_words r = bag_number r.kind ∷ r.safe ∷ enclosing_number r.enclosing ∷ (parts_words r.parts ++ (set_number r.has_set ∷ []))

abbrev pub mac_words : Mac → List ℕ
mac_words m =
    parts_words m.parts ++ (range_words m.salt ++ (m.iterations % half_size ∷ m.iterations / half_size ∷ []))

abbrev pub count_words : ℕ → ℕ → ℕ → ℕ → List ℕ
count_words n i j k = count_word n ∷ count_word i ∷ count_word j ∷ count_word k ∷ []

abbrev pub head_words : Table → List ℕ
head_words t =
    count_words t.elements t.safe_count t.bag_count t.attribute_count ++ (range_words t.mac_input ++ mac_words t.mac)

-- rows of one kind: those that are counted and that there are, and zeros in place of the others
unfoldable pub rows_words : {A : Type 0} → (A → List ℕ) → A → ℕ → ℕ → List A → ℕ → List ℕ
rows_words words none width size rows count =
    each (λ i. words (get_or rows i none)) (min count size) ++ replicate ((size - min count size) * width) 0

abbrev pub safes_words : List SafeRow → ℕ → List ℕ
safes_words rows count = rows_words safe_words no_safe safe_width safe_rows rows count

abbrev pub bags_words : List BagRow → ℕ → List ℕ
bags_words rows count = rows_words bag_words no_bag bag_width bag_rows rows count

abbrev pub attributes_words : List AttributeRow → ℕ → List ℕ
attributes_words rows count = rows_words attribute_words no_attribute attribute_width attribute_rows rows count

unfoldable pub words_of : Table → List ℕ
words_of t =
    head_words t
    ++ (safes_words t.safes t.safe_count
    ++ (bags_words t.bags t.bag_count ++ attributes_words t.attributes t.attribute_count))

-- the answer, and the memory afterwards
unfoldable pub stored : Table → List ℕ → Outcome
stored t memory = if ltb (length memory) table_words then refusal short_buffer memory else success (words_of t) memory

-- one attribute row by itself
unfoldable pub stored_row : AttributeRow → List ℕ → Outcome
stored_row r memory = if ltb (length memory) attribute_width then refusal short_buffer memory else success (attribute_words r) memory
