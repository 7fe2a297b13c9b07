use Rattle.load.proofs.Rows.{Collecting}
use Rattle.load.specs.Loaded.{row_from}
use Rattle.load.proofs.row.rows.Given as goal

abbrev pub invariant-loop-i : goal.invariant-loop-i
invariant-loop-i g l =
    let r = g.R.Row in
    Collecting (row_from g.R.Loaded.loaded r.AT r.WIDTH l.words) r.EMPTY g.row.N l.count l.i-end l.rows l.i
