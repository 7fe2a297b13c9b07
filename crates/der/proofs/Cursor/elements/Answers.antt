-- The run up to the cursor's end, where it has a byte and its end is within the bytes.
use mathlib.Core.Path.{ap}
use native.Mathlib.Omega.{arith}
use Rattle.der.proofs.Choices.{handed_as}
use Rattle.der.proofs.Opaque.{elements_none, elements_missing, elements_refused, elements_counted}
use Rattle.der.proofs.Promised.{all_bytes}
use Rattle.der.specs.Report.{checked_report}
use Rattle.der.proofs.Cursor.elements.Goals as goal

pub returns-then-end-self-clause-value : goal.returns-then-end-self-clause-value
returns-then-end-self-clause-value c = search elements_none

pub returns-then-end-self-clause-report : goal.returns-then-end-self-clause-report
returns-then-end-self-clause-report c = ap checked_report (returns-then-end-self-clause-value c)

pub returns-then-end-self-clause-bytes : goal.returns-then-end-self-clause-bytes
returns-then-end-self-clause-bytes c = search all_bytes

pub returns-then-s-end-clause-value : goal.returns-then-s-end-clause-value
returns-then-s-end-clause-value c = search elements_missing

pub returns-then-s-end-clause-report : goal.returns-then-s-end-clause-report
returns-then-s-end-clause-report c = ap checked_report (returns-then-s-end-clause-value c)

pub returns-then-s-end-clause-bytes : goal.returns-then-s-end-clause-bytes
returns-then-s-end-clause-bytes c = search all_bytes

pub returns-in_err-count-clause-value : goal.returns-in_err-count-clause-value
returns-in_err-count-clause-value c =
    handed_as _ c.in_err-count.field-0.0 _ (elements_refused _ _ _ _ c.run.ensures _ c.in_err-count.was)
    c.from_residual.ensures

pub returns-in_err-count-clause-report : goal.returns-in_err-count-clause-report
returns-in_err-count-clause-report c = ap checked_report (returns-in_err-count-clause-value c)

pub returns-in_err-count-clause-bytes : goal.returns-in_err-count-clause-bytes
returns-in_err-count-clause-bytes c = search all_bytes

pub returns-clause-value : goal.returns-clause-value
returns-clause-value c = elements_counted _ _ _ _ c.run.ensures _ c.in_ok-count.was (omega arith)

pub returns-clause-report : goal.returns-clause-report
returns-clause-report c = ap checked_report (returns-clause-value c)

pub returns-clause-bytes : goal.returns-clause-bytes
returns-clause-bytes c = search all_bytes
