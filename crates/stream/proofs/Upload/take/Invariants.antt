use lib.ListN.{length}
use Prim.Native.Nat.{◌-◌}
use Rattle.stream.proofs.Taken.{Taking}
use Rattle.stream.proofs.Upload.take.Given as goal

abbrev pub invariant-loop-i : goal.invariant-loop-i
invariant-loop-i l = Taking l.portion l.initial.u l.u l.i

abbrev pub decreases-loop-i : goal.decreases-loop-i
decreases-loop-i l = length l.portion - l.i
