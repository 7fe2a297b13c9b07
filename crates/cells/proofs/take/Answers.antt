-- Too few cells; else the upload that they hold takes the portion, and is stored.
use native.Mathlib.Omega.{arith}
use mathlib.Core.Path.{ap, ◌∙◌}
use Rattle.std.specs.Prelude.{Err}
use Rattle.der.proofs.Promised.{all_bytes}
use Rattle.stream.specs.Report.{status_report}
use Rattle.stream.proofs.Rules.{kept}
use Rattle.cells.proofs.Outcomes.{take_few, take_stored, stored_front, as_many}
use Rattle.cells.proofs.take.Goals as goal

pub returns-in_err-before-clause-value : goal.returns-in_err-before-clause-value
returns-in_err-before-clause-value c =
    let few = c.in_err-before.ensures.few in
    (take_few _ _ _ few.0 (kept _ _ c.from_residual.ensures ∙ ap Err few.1)).0

pub returns-in_err-before-clause-report : goal.returns-in_err-before-clause-report
returns-in_err-before-clause-report c = ap status_report (returns-in_err-before-clause-value c)

pub returns-in_err-before-clause-cells_after : goal.returns-in_err-before-clause-cells_after
returns-in_err-before-clause-cells_after c =
    let few = c.in_err-before.ensures.few in
    (take_few _ _ _ few.0 (kept _ _ c.from_residual.ensures ∙ ap Err few.1)).1

pub returns-in_err-before-clause-bytes : goal.returns-in_err-before-clause-bytes
returns-in_err-before-clause-bytes c = search all_bytes

pub copy_from_slice-requires : goal.copy_from_slice-requires
copy_from_slice-requires c = as_many _ c.cells.result c.in_ok-before.ensures.held.0 (omega arith)

pub returns-clause-value : goal.returns-clause-value
returns-clause-value c =
    let held = c.in_ok-before.ensures.held in
    (take_stored _ _ _ held.0 _ _ held.1 c.take-after.ensures.value c.status.ensures.value _ (stored_front c.args.cells.now _ _ _ c.cells.ensures c.copy_from_slice.ensures.after)).0

pub returns-clause-report : goal.returns-clause-report
returns-clause-report c = ap status_report (returns-clause-value c)

pub returns-clause-cells_after : goal.returns-clause-cells_after
returns-clause-cells_after c =
    let held = c.in_ok-before.ensures.held in
    (take_stored _ _ _ held.0 _ _ held.1 c.take-after.ensures.value c.status.ensures.value _ (stored_front c.args.cells.now _ _ _ c.cells.ensures c.copy_from_slice.ensures.after)).1

pub returns-clause-bytes : goal.returns-clause-bytes
returns-clause-bytes c = search all_bytes
