use Prim.Native.Nat.{◌-◌}
use lib.ListN.{length}
use Rattle.der.specs.Element.{cursor}
use Rattle.pkcs12.specs.Walk.{run, attribute_at}
use Rattle.load.specs.Holds.{rows_at}
use Rattle.reader.proofs.Loops.{Rowing}
use Rattle.reader.proofs.rows.set_body.Given as goal

abbrev pub invariant-loop-at : goal.invariant-loop-at
invariant-loop-at l =
    Rowing (attribute_at l.s.bytes.now l.number) l.end
    (run (attribute_at l.s.bytes.now l.number) (rows_at l.initial.m l.initial.all) (cursor l.initial.at l.end))
    (length l.initial.m) l.m l.all l.at

abbrev pub decreases-loop-at : goal.decreases-loop-at
decreases-loop-at l = l.end - l.at
