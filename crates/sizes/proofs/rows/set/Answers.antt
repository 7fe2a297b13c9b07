-- The loop adds the sizes of the attributes that it sees. It ends at the row that it began at, or
-- at the end of the rows.
use mathlib.Core.Path.{◌≡◌}
use native.Mathlib.Omega.{arith}
use Rattle.sizes.proofs.Measures.{set_absent, set_starts, set_ends, set_leaves, set_turn}
use Rattle.sizes.proofs.rows.set.Goals as goal

pub returns-then-not-has_set : goal.returns-then-not-has_set
returns-then-not-has_set c = set_absent _ _ _ _ _ c.if-not-has_set.true

pub loop-next-init : goal.loop-next-init
loop-next-init c = (set_starts _ _ c.args.has_set _ _ _ c.min-end.ensures, omega arith)

pub returns-then-from-bag : goal.returns-then-from-bag
returns-then-from-bag c =
    set_leaves _ _ _ _ _ _ _ _ c.loop-next.invariant.0 c.loop-next-test.true _
    c.if-not-has_set.false (rw c.from.ensures at c.if-from-bag.true) c.present.ensures

pub loop-next-preserved : goal.loop-next-preserved
loop-next-preserved c = (
  set_turn _ _ c.args.has_set _ _ _ _ _ c.loop-next.invariant.0 c.loop-next-test.true _ _ _
      (rw c.from.ensures at c.if-from-bag.false) c.attribute.ensures c.element-one.ensures
      c.sum-body.ensures,
  omega (arith, c.loop-next-test.true),
)

pub returns : goal.returns
returns c =
    let stop : c.max.result ≡ c.loop-next.next = omega (arith, c.loop-next.invariant.1) in
    set_ends _ _ _ _ _ _ _ _ c.loop-next.invariant.0 _ c.if-not-has_set.false
    c.loop-next-test.false (rw stop at c.present-2.ensures)
