-- The tables that come back from their words as they were.
use Rattle.std.specs.Prelude.{◌≡◌, ℕ, ◌≤◌, ◌<◌}
use Rattle.pkcs12.specs.Numbers.{safe_rows, bag_rows, attribute_rows}
use Rattle.pkcs12.specs.Table.{table_of, rows_in}
use Rattle.der.specs.Named.{Each}
use Rattle.std.specs.Prelude.{None, Option, Some}
use Rattle.pkcs12.specs.declared.row.BagRow.{BagRow}
use Rattle.pkcs12.specs.declared.table.Table.{Table}
use Rattle.words.specs.Layout.{greatest_word}

-- the number of an enclosing bag is one more than its row
abbrev pub EnclosingFits : Option ℕ → Type 0
EnclosingFits None = Unit {0}
EnclosingFits (Some n) = n < greatest_word

abbrev pub BagFits : BagRow → Type 0
BagFits r = EnclosingFits r.enclosing

-- Rows past the counts are empty, the counts are within the sizes, and every number fits.
pub record Wordable (t : Table) : Type 0 where
  pub empty_past : t ≡ table_of (rows_in t) t.mac
  pub safe_count : t.safe_count ≤ safe_rows
  pub bag_count : t.bag_count ≤ bag_rows
  pub attribute_count : t.attribute_count ≤ attribute_rows
  pub bags : Each BagFits (rows_in t).bags
  pub elements : t.elements ≤ greatest_word
