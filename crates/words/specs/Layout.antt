-- How many words each part of a table takes, and its offset.
use Rattle.std.specs.Prelude.{ℕ, ◌+◌, ◌*◌, ◌≤◌}
use Rattle.std.proofs.Common.{arith}
use Rattle.pkcs12.specs.Numbers.{safe_rows, bag_rows, attribute_rows}

-- start, end
abbrev pub range_width : ℕ
range_width = 2

-- identifier, parameters, value
abbrev pub parts_width : ℕ
parts_width = 3 * range_width

-- kind, parts
abbrev pub safe_width : ℕ
safe_width = 1 + parts_width

-- kind, safe, enclosing bag, parts, whether it has a set
abbrev pub bag_width : ℕ
bag_width = 4 + parts_width

-- bag, identifier, values
abbrev pub attribute_width : ℕ
attribute_width = 1 + 2 * range_width

-- parts, salt, the low and the high half of the iterations
abbrev pub mac_width : ℕ
mac_width = parts_width + range_width + 2

-- the head: elements, the counts of rows, the MAC input, the MAC
abbrev pub elements_at : ℕ
elements_at = 0

abbrev pub safe_count_at : ℕ
safe_count_at = 1

abbrev pub bag_count_at : ℕ
bag_count_at = 2

abbrev pub attribute_count_at : ℕ
attribute_count_at = 3

abbrev pub mac_input_at : ℕ
mac_input_at = 4

abbrev pub mac_fields_at : ℕ
mac_fields_at = mac_input_at + range_width

-- the rows
abbrev pub safes_at : ℕ
safes_at = mac_fields_at + mac_width

abbrev pub bags_at : ℕ
bags_at = safes_at + safe_rows * safe_width

abbrev pub attributes_at : ℕ
attributes_at = bags_at + bag_rows * bag_width

-- all of them: 1,408
abbrev pub table_words : ℕ
table_words = attributes_at + attribute_rows * attribute_width

-- the rows of each kind are within a table
pub safes_within : safes_at + safe_rows * safe_width ≤ table_words
safes_within = omega arith

pub bags_within : bags_at + bag_rows * bag_width ≤ table_words
bags_within = omega arith

pub attributes_within : attributes_at + attribute_rows * attribute_width ≤ table_words
attributes_within = omega arith

-- the greatest word, and how many words there are
abbrev pub greatest_word : ℕ
greatest_word = 65_535

abbrev pub half_size : ℕ
half_size = 65_536
