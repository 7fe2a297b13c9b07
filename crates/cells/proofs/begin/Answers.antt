-- Too few cells; else the upload is stored.
use native.Mathlib.Omega.{arith}
use mathlib.Core.Path.{ap}
use Rattle.std.specs.Prelude.{Err}
use Rattle.stream.specs.Report.{status_report}
use Rattle.cells.proofs.Outcomes.{begin_few, begin_stored, stored_front, as_many}
use Rattle.cells.proofs.begin.Goals as goal

pub returns-then-count-lt-UPLOAD_LENGTH-clause-value : goal.returns-then-count-lt-UPLOAD_LENGTH-clause-value
returns-then-count-lt-UPLOAD_LENGTH-clause-value c =
    (begin_few _ _ _ c.if-count-lt-UPLOAD_LENGTH.true (ap Err c.refused.ensures)).0

pub returns-then-count-lt-UPLOAD_LENGTH-clause-report : goal.returns-then-count-lt-UPLOAD_LENGTH-clause-report
returns-then-count-lt-UPLOAD_LENGTH-clause-report c =
    ap status_report (returns-then-count-lt-UPLOAD_LENGTH-clause-value c)

pub returns-then-count-lt-UPLOAD_LENGTH-clause-cells_after : goal.returns-then-count-lt-UPLOAD_LENGTH-clause-cells_after
returns-then-count-lt-UPLOAD_LENGTH-clause-cells_after c =
    (begin_few _ _ _ c.if-count-lt-UPLOAD_LENGTH.true (ap Err c.refused.ensures)).1

pub copy_from_slice-requires : goal.copy_from_slice-requires
copy_from_slice-requires c = as_many _ c.cells.result c.if-count-lt-UPLOAD_LENGTH.false (omega arith)

pub returns-clause-value : goal.returns-clause-value
returns-clause-value c =
    (begin_stored _ _ _ c.if-count-lt-UPLOAD_LENGTH.false _ c.begin-u.ensures c.status.ensures.value _
    (stored_front c.args.cells.now _ _ _ c.cells.ensures c.copy_from_slice.ensures.after)).0

pub returns-clause-report : goal.returns-clause-report
returns-clause-report c = ap status_report (returns-clause-value c)

pub returns-clause-cells_after : goal.returns-clause-cells_after
returns-clause-cells_after c =
    (begin_stored _ _ _ c.if-count-lt-UPLOAD_LENGTH.false _ c.begin-u.ensures c.status.ensures.value _
    (stored_front c.args.cells.now _ _ _ c.cells.ensures c.copy_from_slice.ensures.after)).1
