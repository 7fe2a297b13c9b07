use Prim.Native.Nat.{◌-◌}
use Rattle.der.proofs.Opaque.{Numbering}
use Rattle.der.proofs.+run.Given as goal

abbrev pub decreases-run : goal.decreases-run
decreases-run l = l.level

abbrev pub invariant-loop-at : goal.invariant-loop-at
invariant-loop-at l = Numbering l.level l.s l.from l.end l.count l.at

abbrev pub decreases-loop-at : goal.decreases-loop-at
decreases-loop-at l = l.end - l.at
