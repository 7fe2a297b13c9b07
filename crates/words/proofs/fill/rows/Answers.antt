-- The loop stores one row behind another.
use Rattle.words.proofs.Rows.{fill_start, fill_on, fill_end}
use Rattle.words.proofs.InPlace.{row_placed}
use native.Mathlib.Omega.{arith}
use Rattle.words.proofs.fill.rows.Goals as goal

pub loop-i-init : goal.loop-i-init
loop-i-init g c = fill_start _ _ _ _ _

pub loop-i-preserved : goal.loop-i-preserved
loop-i-preserved g c =
    let r = g.R.Row in
    let f = c.loop-i.invariant in
    fill_on _ _ _ _ _ _ _ f _ c.loop-i-test.true (λ j. g.met.R.Stored.wide _)
    (row_placed g.R.Stored.words c.args.rows _ r.EMPTY r.ROWS r.AT r.WIDTH _ _ _ (omega (arith, f.long, c.requires))
    (omega (arith, c.loop-i-test.true, c.min-i-end.ensures, c.requires))
    (omega (arith, c.loop-i-test.true, c.min-i-end.ensures)) c.row.ensures)

pub returns : goal.returns
returns g c = fill_end _ _ _ _ _ _ _ c.loop-i.invariant _ c.min-i-end.ensures c.loop-i-test.false
