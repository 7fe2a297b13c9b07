-- What each case of an answer reports (Rule 9.2). `Report` is that of `der`.
use Rattle.std.specs.Prelude.{List, [], ◌∷◌, ◌++◌, ℕ}
use Rattle.der.specs.Element.{fault}
use Rattle.der.specs.Report.{Report, passing, refusing, cursor_values}
use Rattle.pkcs12.specs.declared.row.Parts.{Parts}
use Rattle.pkcs12.specs.declared.kind.BagKind.{BagKind}
use Rattle.pkcs12.specs.declared.kind.BagKind.TheVariants.{Key, ShroudedKey, Certificate, Crl, Secret, Nested}
use Rattle.pkcs12.specs.declared.row.AttributeRow.{AttributeRow}
use Rattle.pkcs12.specs.declared.row.Mac.{Mac}
use Rattle.der.specs.declared.Fault.{Fault}
use Rattle.pkcs12.specs.declared.answers.Parsed.{Parsed}
use Rattle.std.specs.Prelude.{Err, Ok, Result, ⊤}
use Rattle.buffer.specs.Report.{range_values}

-- reading: an accepted file's values are in its table
unfoldable pub answer_report : Result ⊤ Fault → Report
answer_report (Ok tt) = passing []
answer_report (Err f) = refusing f

-- Rule 3.14: a kind by its last byte, 01 to 06. Rule 5.7: a bagId of another kind is 7, here at 0:
-- the body of a bagId doesn't say where it is in a file
unfoldable pub kind_report : BagKind → Report
kind_report Key = passing (1 ∷ [])
kind_report ShroudedKey = passing (2 ∷ [])
kind_report Certificate = passing (3 ∷ [])
kind_report Crl = passing (4 ∷ [])
kind_report Secret = passing (5 ∷ [])
kind_report Nested = passing (6 ∷ [])
kind_report BagKind.None = refusing (fault 7 0)

-- the number of a kind, 0 for none
abbrev pub bag_number : BagKind → ℕ
bag_number BagKind.None = 0
bag_number Key = 1
bag_number ShroudedKey = 2
bag_number Certificate = 3
bag_number Crl = 4
bag_number Secret = 5
bag_number Nested = 6

-- an attribute row: its bag, its identifier, its values
abbrev pub attribute_values : AttributeRow → List ℕ
attribute_values r = r.bag ∷ (range_values r.identifier ++ range_values r.values)

abbrev pub parts_values : Parts → List ℕ
parts_values p = range_values p.identifier ++ (range_values p.parameters ++ range_values p.value)

-- parts of a file: their ranges, the number of elements, what follows them
unfoldable pub parts_report : Result (Parsed Parts) Fault → Report
parts_report (Ok x) = passing (parts_values x.value ++ (x.count ∷ cursor_values x.next))
parts_report (Err f) = refusing f

-- Rule 4.1: algorithm, parameters, digest, salt and iterations of the MAC; the number of elements,
-- what follows them
abbrev pub mac_values : Mac → List ℕ
mac_values m = parts_values m.parts ++ (range_values m.salt ++ (m.iterations ∷ []))

unfoldable pub mac_report : Result (Parsed Mac) Fault → Report
mac_report (Ok y) = passing (mac_values y.value ++ (y.count ∷ cursor_values y.next))
mac_report (Err f) = refusing f
