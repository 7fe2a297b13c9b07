-- The loop keeps the elements that were seen; each is found within the values (Siblings).
use native.Mathlib.Omega.{arith}
use Rattle.der.proofs.Promised.{all_bytes}
use Rattle.elements.specs.Elements.{element_ranges}
use Rattle.elements.proofs.Siblings.{walking_start, walking_ends, walking_stops}
use Rattle.elements.proofs.Siblings.{stop_fits, walking_less, walking_on}
use Rattle.elements.proofs.element.Goals as goal

pub loop-at-init : goal.loop-at-init
loop-at-init c = walking_start _ _ _ _ (omega arith)

pub returns-in_default-clause-value : goal.returns-in_default-clause-value
unfolding element_ranges
returns-in_default-clause-value c = let e = c in
    walking_stops _ _ _ _ _ _ _ e.loop-at.invariant e.loop-at-test.true _
    e.element.ensures.value _ c.in_default.is

pub returns-in_default-clause-bytes : goal.returns-in_default-clause-bytes
unfolding element_ranges
returns-in_default-clause-bytes c = search all_bytes

pub overflow_cast-met : goal.overflow_cast-met
overflow_cast-met c = omega (arith, c.loop-at.invariant.small)

pub overflow_cast-met-in-loop-at : goal.overflow_cast-met-in-loop-at
overflow_cast-met-in-loop-at c = omega (
  arith,
  let e = c in
      stop_fits _ _ _ _ _ _ _ e.loop-at.invariant e.loop-at-test.true _
      e.element.ensures.value _ _ _ c.in-Ok.is,
)

pub overflow_add-count : goal.overflow_add-count
overflow_add-count c =
    let e = c in
    omega (arith, e.loop-at.invariant.few, e.loop-at.invariant.small)

pub loop-at-smaller : goal.loop-at-smaller
loop-at-smaller c =
    let e = c in
    walking_less _ _ _ _ _ _ _ e.loop-at.invariant e.loop-at-test.true _
    e.element.ensures.value _ _ _ c.in-Ok.is

pub loop-at-preserved : goal.loop-at-preserved
loop-at-preserved c =
    let e = c in
    walking_on _ _ _ _ _ _ _ e.loop-at.invariant e.loop-at-test.true _
    e.element.ensures.value _ _ _ c.in-Ok.is _ c.chosen-found.ensures

pub returns-after-loop-at-clause-value : goal.returns-after-loop-at-clause-value
unfolding element_ranges
returns-after-loop-at-clause-value c = walking_ends _ _ _ _ _ _ _ c.loop-at.invariant c.loop-at-test.false

pub returns-after-loop-at-clause-bytes : goal.returns-after-loop-at-clause-bytes
unfolding element_ranges
returns-after-loop-at-clause-bytes c = search all_bytes
