use Rattle.sizes.proofs.MeasuresSafes.{SafesGoing}
use Rattle.sizes.proofs.rows.all_safes.Given as goal

abbrev pub invariant-loop-k : goal.invariant-loop-k
invariant-loop-k l = SafesGoing l.table l.bytes l.end l.taken l.k
