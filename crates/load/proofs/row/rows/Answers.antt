-- The loop collects the rows in order.
use Rattle.load.proofs.Rows.{collect_start, collect_on, collect_end}
use Rattle.load.proofs.row.rows.Goals as goal

pub loop-i-init : goal.loop-i-init
loop-i-init g c = collect_start _ _ _ _ _ _ c.min-i-end.ensures c.EMPTY-rows.ensures

pub loop-i-preserved : goal.loop-i-preserved
loop-i-preserved g c =
    collect_on _ _ _ _ _ _ _ c.loop-i.invariant _ c.loop-i-test.true
    (rw (c.AT.ensures, c.WIDTH.ensures) at c.at.ensures)

pub returns : goal.returns
returns g c = collect_end _ _ _ _ _ _ _ c.loop-i.invariant c.loop-i-test.false
