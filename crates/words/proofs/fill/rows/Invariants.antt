use lib.ListN.{get_or}
use Rattle.words.proofs.Rows.{Filling}
use Rattle.words.proofs.fill.rows.Given as goal

abbrev pub invariant-loop-i : goal.invariant-loop-i
invariant-loop-i g l =
    let r = g.R.Row in
    Filling (λ j. g.R.Stored.words (get_or l.rows j r.EMPTY)) r.WIDTH l.initial.memory r.AT l.i-end l.memory l.i
