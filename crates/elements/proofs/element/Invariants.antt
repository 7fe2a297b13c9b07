use Prim.Native.Nat.{◌-◌}
use Rattle.elements.proofs.Siblings.{Walking}
use Rattle.elements.proofs.element.Given as goal

abbrev pub invariant-loop-at : goal.invariant-loop-at
invariant-loop-at l = Walking l.bytes l.i l.end l.initial.at l.at l.count l.found

abbrev pub decreases-loop-at : goal.decreases-loop-at
decreases-loop-at l = l.end - l.at
