use Rattle.buffer.proofs.Writes.{Storing}
use Rattle.buffer.proofs.write.store.Given as goal

abbrev pub invariant-loop-i : goal.invariant-loop-i
invariant-loop-i l = Storing l.initial.out l.at l.x l.out l.i
