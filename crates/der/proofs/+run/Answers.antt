-- Each element of a run is taken by what is found at its offset, and the body of a constructed one
-- by the same function with one level fewer.
use native.Mathlib.Omega.{arith}
use Rattle.der.proofs.Choices.{handed_as}
use Rattle.der.proofs.Placed.{found}
use Rattle.der.proofs.Opaque.{element_refused, element_deep}
use Rattle.der.proofs.Opaque.{childless_counted, below_refused, below_counted}
use Rattle.der.proofs.Opaque.{numbering_start, numbering_end, numbering_refused, numbering_on}
use Rattle.der.proofs.Opaque.{numbering_falls, numbering_fits, body_fits}
use Rattle.der.proofs.+run.Goals as goal

pub loop-at-init : goal.loop-at-init
loop-at-init t c = search numbering_start

pub returns-in_err-found : goal.returns-in_err-found
returns-in_err-found t c =
    handed_as _ c.in_err-found.field-0.0 _
    (numbering_refused _ _ _ _ _ _ c.loop-at.invariant c.loop-at-test.true _
    (element_refused _ _ _ _ c.present.ensures _ c.in_err-found.was))
    c.from_residual.ensures

pub returns-then-level-eq0 : goal.returns-then-level-eq0
returns-then-level-eq0 t c =
    numbering_refused _ _ _ _ _ _ c.loop-at.invariant c.loop-at-test.true _
    (element_deep _ _ _ _ c.present.ensures _ c.in_ok-found.was c.if-level-eq0.true)

pub run-requires : goal.run-requires
run-requires t c =
    let v = found _ _ _ _ _ _ c.present.ensures c.in_ok-found.was in
    (omega (arith, c.decreases), omega (arith, v.body.within, v.inside))

pub returns-in_err-below : goal.returns-in_err-below
returns-in_err-below t c =
    handed_as _ c.in_err-below.field-0.0 _
    (numbering_refused _ _ _ _ _ _ c.loop-at.invariant c.loop-at-test.true _
    (below_refused _ _ _ _ c.present.ensures _ c.in_ok-found.was c.if-level-eq0.false _ c.childless.ensures c.if-childless.false _
    c.run.ensures _ c.in_err-below.was))
    c.from_residual-in_err-below.ensures

pub overflow_add-count-else-childless : goal.overflow_add-count-else-childless
overflow_add-count-else-childless t c =
    let more =
    below_counted _ _ _ _ c.present.ensures _ c.in_ok-found.was c.if-level-eq0.false _ c.childless.ensures c.if-childless.false _
    c.run.ensures _ c.in_ok-below.was in
    search (body_fits _ _ _ _ _ more)

pub overflow_add-count-else-childless-2 : goal.overflow_add-count-else-childless-2
overflow_add-count-else-childless-2 t c =
    let more =
    below_counted _ _ _ _ c.present.ensures _ c.in_ok-found.was c.if-level-eq0.false _ c.childless.ensures c.if-childless.false _
    c.run.ensures _ c.in_ok-below.was in
    search (numbering_fits _ _ _ _ _ _ c.loop-at.invariant c.loop-at-test.true _ _ more)

pub loop-at-smaller-then-childless : goal.loop-at-smaller-then-childless
loop-at-smaller-then-childless t c =
    let one =
    childless_counted _ _ _ _ c.present.ensures _ c.in_ok-found.was c.if-level-eq0.false _ c.childless.ensures
    c.if-childless.true in
    numbering_falls _ _ _ _ _ _ c.loop-at.invariant c.loop-at-test.true _ _ one

pub loop-at-preserved-then-childless : goal.loop-at-preserved-then-childless
loop-at-preserved-then-childless t c =
    let one =
    childless_counted _ _ _ _ c.present.ensures _ c.in_ok-found.was c.if-level-eq0.false _ c.childless.ensures
    c.if-childless.true in
    numbering_on _ _ _ _ _ _ c.loop-at.invariant c.loop-at-test.true _ _ one

pub loop-at-smaller : goal.loop-at-smaller
loop-at-smaller t c =
    let more =
    below_counted _ _ _ _ c.present.ensures _ c.in_ok-found.was c.if-level-eq0.false _ c.childless.ensures c.if-childless.false _
    c.run.ensures _ c.in_ok-below.was in
    numbering_falls _ _ _ _ _ _ c.loop-at.invariant c.loop-at-test.true _ _ more

pub loop-at-preserved : goal.loop-at-preserved
loop-at-preserved t c =
    let more =
    below_counted _ _ _ _ c.present.ensures _ c.in_ok-found.was c.if-level-eq0.false _ c.childless.ensures c.if-childless.false _
    c.run.ensures _ c.in_ok-below.was in
    numbering_on _ _ _ _ _ _ c.loop-at.invariant c.loop-at-test.true _ _ more

pub returns : goal.returns
returns t c = search numbering_end
