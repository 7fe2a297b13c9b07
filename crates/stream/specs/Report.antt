-- What each case of an answer reports (Rule 9.2). `Report` is that of `der`; beside a refusal's
-- number and offset its value is the number of bytes after which it was certain.
use Rattle.std.specs.Prelude.{[], ◌∷◌, ℕ}
use Rattle.std.specs.Prelude.{Err, Ok, Result, ⊤}
use Rattle.der.specs.Report.{Report, passing}
use Rattle.der.specs.declared.Fault.{Fault}
use Rattle.stream.specs.declared.Counts.{Counts}
use Rattle.stream.specs.declared.Refusal.{Refusal}

abbrev pub refused_after : Fault → ℕ → Report
refused_after f after = record { number = f.number; offset = f.offset; values = after ∷ [] }

unfoldable pub status_report : Result ⊤ Refusal → Report
status_report (Ok x) = passing []
status_report (Err x) = refused_after x.fault x.after

-- the number of elements and the greatest level
unfoldable pub end_report : Result Counts Refusal → Report
end_report (Ok x) = passing (x.elements ∷ x.level ∷ [])
end_report (Err x) = refused_after x.fault x.after
