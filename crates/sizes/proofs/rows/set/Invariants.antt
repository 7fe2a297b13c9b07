use Prim.Native.Nat.{◌≤◌}
use Rattle.std.specs.Prelude.{max}
use Rattle.sizes.proofs.Measures.{OwnGoing}
use Rattle.sizes.proofs.rows.set.Given as goal

abbrev pub invariant-loop-next : goal.invariant-loop-next
invariant-loop-next l =
    OwnGoing l.table l.bytes l.bag l.from l.end l.body l.next × (l.next ≤ max l.from l.end)
