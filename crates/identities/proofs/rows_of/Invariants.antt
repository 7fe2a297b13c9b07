use Rattle.identities.proofs.Fills.{Collecting}
use Rattle.identities.proofs.rows_of.Given as goal

abbrev pub invariant-loop-i : goal.invariant-loop-i
invariant-loop-i l = Collecting l.table l.bytes l.end l.rows l.i
