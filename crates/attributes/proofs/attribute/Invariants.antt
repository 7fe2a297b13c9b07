use Prim.Native.Nat.{◌-◌}
use Rattle.attributes.proofs.Runs.{Calling}
use Rattle.attributes.proofs.attribute.Given as goal

abbrev pub invariant-loop : goal.invariant-loop
invariant-loop l = Calling l.i l.initial.position (l.i - l.counter) l.position
