-- The loop writes the attributes that it sees, behind the header of their set. It ends at the row
-- that it began at, or at the end of the rows.
use mathlib.Core.Path.{◌≡◌}
use native.Mathlib.Omega.{arith}
use Rattle.writer.proofs.Rowing.{set_nothing, set_begins, set_more, set_all, set_leave}
use Rattle.writer.proofs.rows.set.Goals as goal

pub returns-then-not-has_set : goal.returns-then-not-has_set
returns-then-not-has_set c = set_nothing _ _ _ _ _ _ c.if-not-has_set.true

pub loop-next-init : goal.loop-next-init
loop-next-init c = (set_begins _ _ c.args.has_set _ _ _ _ c.min-end.ensures, omega arith)

pub returns-then-from-bag : goal.returns-then-from-bag
returns-then-from-bag c =
    set_leave _ _ _ _ _ _ _ _ _ c.loop-next.invariant.0 _ _ c.if-not-has_set.false c.requires c.header.ensures
    c.loop-next-test.true (rw c.from.ensures at c.if-from-bag.true)

pub loop-next-preserved : goal.loop-next-preserved
loop-next-preserved c = (
  set_more _ _ c.args.has_set _ _ _ _ _ _ c.loop-next.invariant.0 _ c.loop-next-test.true
      (rw c.from.ensures at c.if-from-bag.false) c.attribute.ensures,
  omega (arith, c.loop-next-test.true),
)

pub returns : goal.returns
returns c =
    let stop : c.max.result ≡ c.loop-next.next = omega (arith, c.loop-next.invariant.1) in
    rw stop (set_all _ _ _ _ _ _ _ _ _ c.loop-next.invariant.0 _ _ c.if-not-has_set.false c.requires c.header.ensures
    c.loop-next-test.false)
