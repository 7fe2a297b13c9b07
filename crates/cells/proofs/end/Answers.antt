-- Too few cells; else the answer of the upload that they hold.
use mathlib.Core.Path.{ap, ◌∙◌}
use Rattle.std.specs.Prelude.{Err}
use Rattle.stream.specs.Report.{end_report}
use Rattle.stream.proofs.Rules.{kept}
use Rattle.cells.proofs.Outcomes.{end_few, end_held}
use Rattle.cells.proofs.end.Goals as goal

pub returns-in_err-held-clause-value : goal.returns-in_err-held-clause-value
returns-in_err-held-clause-value c =
    let few = c.in_err-held.ensures.few in
    end_few _ _ few.0 (kept _ _ c.from_residual.ensures ∙ ap Err few.1)

pub returns-in_err-held-clause-report : goal.returns-in_err-held-clause-report
returns-in_err-held-clause-report c = ap end_report (returns-in_err-held-clause-value c)

pub returns-clause-value : goal.returns-clause-value
returns-clause-value c =
    let held = c.in_ok-held.ensures.held in
    end_held _ _ _ held.0 held.1 c.end.ensures.value

pub returns-clause-report : goal.returns-clause-report
returns-clause-report c = ap end_report (returns-clause-value c)
