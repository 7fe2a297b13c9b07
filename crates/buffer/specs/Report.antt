-- What each case of an answer reports. `Report` is that of `der`.
use Rattle.std.specs.Prelude.{List, [], ◌∷◌, ℕ}
use Rattle.der.specs.Report.{Report, passing, refusing}
use Rattle.range.specs.declared.Range.{Range}
use Rattle.der.specs.declared.Fault.{Fault}
use Rattle.std.specs.Prelude.{Err, Ok, Result}

-- a range: its start and its end
abbrev pub range_values : Range → List ℕ
range_values r = r.start ∷ r.end ∷ []

-- writing: the length is returned (Rule 6.9)
unfoldable pub written_report : Result ℕ Fault → Report
written_report (Ok n) = passing (n ∷ [])
written_report (Err f) = refusing f
