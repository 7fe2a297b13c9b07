use Prim.Native.Nat.{◌≤◌}
use Rattle.std.specs.Prelude.{max}
use Rattle.writer.proofs.Rowing.{SetPutting}
use Rattle.writer.proofs.rows.set.Given as goal

abbrev pub invariant-loop-next : goal.invariant-loop-next
invariant-loop-next l =
    SetPutting l.table l.bytes l.bag l.from l.end l.initial.out l.out l.next
    × (l.next ≤ max l.from l.end)
