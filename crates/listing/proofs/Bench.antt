-- The listing of M (Rule 8.2), and a line of each kind, computed.
use mathlib.Core.Path.{◌≡◌, refl, ap}
use mathlib.Core.Bool.{true, false}
use mathlib.Core.List.{List}
use lib.ListN.{length, get_or}
use Rattle.cases.specs.Bench.{accepted, m, quiet, digested, bench_cases}
use Rattle.range.specs.Range.{range, no_range}
use Rattle.pkcs12.specs.Table.{parts, no_parts, safe_row, bag_row, attribute_row, table_of}
use Rattle.pkcs12.specs.Walk.{read_file}
use Rattle.pkcs12.specs.declared.kind.BagKind.TheVariants.{Key, ShroudedKey, Certificate, Nested}
use Rattle.std.specs.Prelude.{None, Some}
use Rattle.pkcs12.specs.declared.answers.Reading.{Reading}
use Rattle.pkcs12.specs.declared.kind.SafeKind.TheVariants.{Plain, Encrypted}
use Rattle.pkcs12.specs.declared.table.Table.{Table}
use Rattle.cases.proofs.Theorems.{bench_table}
use Rattle.buffer.specs.Placed.{each}
use Rattle.buffer.specs.Text.{ascii, digits, decimal}
use Rattle.listing.specs.Lines.{range_text, sealed_text, typed_text, safe_text, safe_line, kind_text}
use Rattle.text.specs.Text.{number_text}
use Rattle.listing.specs.Lines.{enclosing_text, parts_text, set_text, bag_start, bag_line, attribute_line, file_line}
use Rattle.listing.specs.Lines.{counts_line, mac_line, head_lines, accepted_lines, answered, listing}

table_of_m : Table
table_of_m = quiet (range 22 24) (digested (range 32 41) (range 41 41) (range 43 44) (range 46 47) 1) 13

first : List Reading → Reading
first rs = get_or rs 0 (accepted table_of_m)

m_read : read_file m ≡ accepted table_of_m
unfolding bench_cases table_of table_of_m first
m_read = ap first bench_table

pub m_listed : listing (length m) (read_file m)
    ≡ ascii "pfx 47 bytes, 13 elements\nsafes 0, bags 0, attributes 0\nmac input 22..24, digest 43..44, salt 46..47, iterations 1\n"
unfolding ascii digits decimal number_text range_text each file_line counts_line mac_line head_lines accepted_lines answered listing table_of table_of_m
m_listed = ap (listing (length m)) m_read

plain : safe_line 0 (safe_row Plain no_parts) ≡ ascii "safe 0: plain\n"
unfolding ascii digits decimal number_text safe_text safe_line
plain = refl

encrypted : safe_line 1 (safe_row Encrypted (parts (range 79 88) (range 88 88) (range 92 492)))
    ≡ ascii "safe 1: encrypted, algorithm 79..88, parameters 88..88, ciphertext 92..492\n"
unfolding ascii digits decimal number_text range_text sealed_text safe_text safe_line
encrypted = refl

key : bag_line 0 (bag_row Key 0 None (parts no_range no_range (range 532 534)) false) 0
    ≡ ascii "bag 0: key, safe 0, in none, key 532..534, no attributes\n"
unfolding ascii digits decimal number_text range_text kind_text enclosing_text parts_text set_text bag_start bag_line
key = refl

shrouded : bag_line 1 (bag_row ShroudedKey 0 None (parts (range 117 126) (range 126 128) (range 130 131)) true) 1
    ≡ ascii "bag 1: shrouded key, safe 0, in none, algorithm 117..126, parameters 126..128, ciphertext 130..131, attributes 1\n"
unfolding ascii digits decimal number_text range_text sealed_text kind_text enclosing_text parts_text set_text bag_start bag_line
shrouded = refl

certificate : bag_line 2 (bag_row Certificate 0 (Some 4) (parts (range 107 111) no_range (range 113 125)) true) 2
    ≡ ascii "bag 2: certificate, safe 0, in bag 4, type 107..111, value 113..125, attributes 2\n"
unfolding ascii digits decimal number_text range_text typed_text kind_text enclosing_text parts_text set_text bag_start bag_line
certificate = refl

nested : bag_line 5 (bag_row Nested 0 None no_parts true) 0 ≡ ascii "bag 5: nested, safe 0, in none, attributes 0\n"
unfolding ascii digits decimal number_text kind_text enclosing_text parts_text set_text bag_start bag_line
nested = refl

attribute : attribute_line 0 (attribute_row 2 (range 131 135) (range 137 144)) ≡ ascii "attribute 0: bag 2, type 131..135, values 137..144\n"
unfolding ascii digits decimal number_text range_text attribute_line
attribute = refl
