-- Too few cells; else the status of the upload that they hold.
use mathlib.Core.Path.{ap, ◌∙◌}
use Rattle.std.specs.Prelude.{Err}
use Rattle.stream.specs.Report.{status_report}
use Rattle.stream.proofs.Rules.{kept}
use Rattle.cells.proofs.Outcomes.{status_few, status_held}
use Rattle.cells.proofs.status.Goals as goal

pub returns-in_err-u-clause-value : goal.returns-in_err-u-clause-value
returns-in_err-u-clause-value c =
    let few = c.in_err-u.ensures.few in
    status_few _ _ few.0 (kept _ _ c.from_residual.ensures ∙ ap Err few.1)

pub returns-in_err-u-clause-report : goal.returns-in_err-u-clause-report
returns-in_err-u-clause-report c = ap status_report (returns-in_err-u-clause-value c)

pub returns-clause-value : goal.returns-clause-value
returns-clause-value c =
    let held = c.in_ok-u.ensures.held in
    status_held _ _ _ held.0 held.1 c.status.ensures.value

pub returns-clause-report : goal.returns-clause-report
returns-clause-report c = ap status_report (returns-clause-value c)
