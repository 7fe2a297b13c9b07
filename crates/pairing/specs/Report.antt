-- What each case of an answer reports (Rule 9.2). `Report` is that of `der`.
use Rattle.std.specs.Prelude.{[], ◌∷◌}
use Rattle.der.specs.Report.{Report, passing, refusing}
use Rattle.der.specs.declared.Fault.{Fault}
use Rattle.std.specs.Prelude.{Err, Ok, Result, ℕ}

-- the certificate row of Rule 7.5, by its number
unfoldable pub paired_report : Result ℕ Fault → Report
paired_report (Ok n) = passing (n ∷ [])
paired_report (Err f) = refusing f
