use Prim.Native.Nat.{◌-◌}
use lib.ListN.{length}
use Rattle.der.specs.Element.{cursor}
use Rattle.pkcs12.specs.Walk.{run, safe_at}
use Rattle.load.specs.Holds.{rows_at}
use Rattle.reader.proofs.Loops.{Rowing}
use Rattle.reader.proofs.rows.more_safes.Given as goal

abbrev pub invariant-loop-at : goal.invariant-loop-at
invariant-loop-at l =
    Rowing (safe_at l.s.bytes.now) l.end
    (run (safe_at l.s.bytes.now) (rows_at l.initial.m l.initial.counts) (cursor l.initial.at l.end))
    (length l.initial.m) l.m l.counts l.at

abbrev pub decreases-loop-at : goal.decreases-loop-at
decreases-loop-at l = l.end - l.at
