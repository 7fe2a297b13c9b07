-- The loop collects the rows of the bags in order.
use Rattle.std.proofs.Common.{refl}
use Rattle.attributes.proofs.First.{at_most}
use Rattle.identities.proofs.Fills.{collect_start, collect_on, collect_end}
use Rattle.identities.proofs.rows_of.Goals as goal

pub loop-i-init : goal.loop-i-init
loop-i-init c = collect_start _ _ _ _ c.fewer-end.ensures (at_most _ _ _ c.fewer-end.ensures) refl

pub loop-i-preserved : goal.loop-i-preserved
loop-i-preserved c = collect_on _ _ _ _ _ c.loop-i.invariant _ c.loop-i-test.true c.row_of.ensures

pub returns : goal.returns
returns c = collect_end _ _ _ _ _ c.loop-i.invariant c.loop-i-test.false
