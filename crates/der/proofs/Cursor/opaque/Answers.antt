-- The element is taken by what is found at the cursor, and its body by a run of the levels below.
use mathlib.Core.Path.{ap}
use native.Mathlib.Omega.{arith}
use Rattle.der.proofs.Choices.{handed_as}
use Rattle.der.proofs.Placed.{found}
use Rattle.der.proofs.Opaque.{element_refused, element_deep, element_leaf, body_refused, body_counted, body_fits}
use Rattle.der.specs.Report.{checked_report}
use Rattle.der.proofs.Cursor.opaque.Goals as goal

pub returns-in_err-found-clause-value : goal.returns-in_err-found-clause-value
returns-in_err-found-clause-value c =
    handed_as _ c.in_err-found.field-0.0 _ (element_refused _ _ _ _ c.element.ensures.value _ c.in_err-found.was)
    c.from_residual.ensures

pub returns-in_err-found-clause-report : goal.returns-in_err-found-clause-report
returns-in_err-found-clause-report c = ap checked_report (returns-in_err-found-clause-value c)

pub returns-then-level-eq0-clause-value : goal.returns-then-level-eq0-clause-value
returns-then-level-eq0-clause-value c =
    element_deep _ _ _ _ c.element.ensures.value _ c.in_ok-found.was c.if-level-eq0.true

pub returns-then-level-eq0-clause-report : goal.returns-then-level-eq0-clause-report
returns-then-level-eq0-clause-report c = ap checked_report (returns-then-level-eq0-clause-value c)

pub returns-then-found-eq0-clause-value : goal.returns-then-found-eq0-clause-value
returns-then-found-eq0-clause-value c =
    element_leaf _ _ _ _ c.element.ensures.value _ c.in_ok-found.was c.if-level-eq0.false c.if-found-eq0.true

pub returns-then-found-eq0-clause-report : goal.returns-then-found-eq0-clause-report
returns-then-found-eq0-clause-report c = ap checked_report (returns-then-found-eq0-clause-value c)

pub run-requires : goal.run-requires
run-requires c =
    let v = found _ _ _ _ _ _ c.element.ensures.value c.in_ok-found.was in
    omega (arith, v.body.within, v.inside)

pub returns-in_err-inside-clause-value : goal.returns-in_err-inside-clause-value
returns-in_err-inside-clause-value c =
    handed_as _ c.in_err-inside.field-0.0 _
    (body_refused _ _ _ _ c.element.ensures.value _ c.in_ok-found.was c.if-level-eq0.false c.if-found-eq0.false _
    c.run.ensures _ c.in_err-inside.was)
    c.from_residual-in_err-inside.ensures

pub returns-in_err-inside-clause-report : goal.returns-in_err-inside-clause-report
returns-in_err-inside-clause-report c = ap checked_report (returns-in_err-inside-clause-value c)

pub returns-clause-value : goal.returns-clause-value
returns-clause-value c =
    body_counted _ _ _ _ c.element.ensures.value _ c.in_ok-found.was c.if-level-eq0.false c.if-found-eq0.false _
    c.run.ensures _ c.in_ok-inside.was

pub returns-clause-report : goal.returns-clause-report
returns-clause-report c = ap checked_report (returns-clause-value c)

pub overflow_add-result : goal.overflow_add-result
overflow_add-result c =
    search (body_fits _ _ _ _ _
    (body_counted _ _ _ _ c.element.ensures.value _ c.in_ok-found.was c.if-level-eq0.false c.if-found-eq0.false _
    c.run.ensures _ c.in_ok-inside.was))
