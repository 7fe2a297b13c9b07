-- Each turn of the loop is one of the walk, and each way out is the walk's.
use native.Mathlib.Omega.{arith}
use Rattle.der.proofs.Choices.{handed}
use Rattle.reader.proofs.Attributes.{body_start, body_refused, body_end, turn_refused, turn_few, turn_fits}
use Rattle.reader.proofs.Attributes.{turn_less, turn_on}
use Rattle.reader.proofs.rows.set_body.Goals as goal

pub loop-at-init : goal.loop-at-init
loop-at-init c = search body_start

pub returns-in_err-one : goal.returns-in_err-one
returns-in_err-one c =
    turn_refused _ _ _ _ _ _ _ _ _ _ c.loop-at.invariant _ c.attribute.ensures _ _ c.loop-at-test.true
    c.in_err-one.was (handed _ _ c.from_residual.ensures)

pub overflow_add-all : goal.overflow_add-all
overflow_add-all c =
    omega (
      arith,
      turn_few _ _ _ _ _ c.args.past c.args.n _ _ _ c.loop-at.invariant _ c.attribute.ensures _
          c.in_ok-one.was,
    )

pub overflow_add-all-in-loop-at : goal.overflow_add-all-in-loop-at
overflow_add-all-in-loop-at c =
    turn_fits _ _ _ _ _ c.args.past c.args.n _ _ _ c.loop-at.invariant _ c.attribute.ensures _ c.in_ok-one.was
    c.args.s.fits

pub loop-at-smaller : goal.loop-at-smaller
loop-at-smaller c =
    turn_less _ _ _ _ _ c.args.past c.args.n _ _ _ c.loop-at.invariant _ c.attribute.ensures _ c.in_ok-one.was
    c.loop-at-test.true

pub loop-at-preserved : goal.loop-at-preserved
loop-at-preserved c =
    turn_on _ _ _ _ _ c.args.past c.args.n _ _ _ c.loop-at.invariant _ c.attribute.ensures _ c.in_ok-one.was
    c.loop-at-test.true _ c.attribute_row.ensures _ c.attribute-in-loop-at.ensures

pub returns-in_err-finish : goal.returns-in_err-finish
returns-in_err-finish c =
    body_refused _ _ _ _ _ _ _ _ _ _ c.loop-at.invariant _ c.loop-at-test.false c.finish.ensures.value _ _
    c.in_err-finish.was (handed _ _ c.from_residual-in_err-finish.ensures)

pub returns : goal.returns
returns c =
    body_end _ _ _ _ _ _ _ _ _ _ c.loop-at.invariant _ c.loop-at-test.false c.finish.ensures.value _
    c.in_ok-finish.was
