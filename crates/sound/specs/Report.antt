-- What each case of an answer reports (Rule 9.2). `Report` is that of `der`.
use Rattle.std.specs.Prelude.{[], ◌∷◌}
use Rattle.der.specs.Element.{fault}
use Rattle.der.specs.Report.{Report, passing, refusing}
use Rattle.std.specs.Prelude.{None, Option, Some, ℕ}

-- the size of the file; a table that isn't sound is 11 (Rule 5.11), at 0 (Rule 5.37)
unfoldable pub measured_report : Option ℕ → Report
measured_report (Some n) = passing (n ∷ [])
measured_report None = refusing (fault 11 0)
