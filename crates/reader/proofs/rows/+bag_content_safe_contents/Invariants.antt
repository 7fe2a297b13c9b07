use Prim.Native.Nat.{◌+◌, ◌*◌, ◌-◌}
use lib.ListN.{length}
use Rattle.der.specs.Element.{cursor}
use Rattle.pkcs12.specs.Walk.{run, owner}
use Rattle.load.specs.Holds.{rows_at}
use Rattle.reader.proofs.Loops.{Rowing}
use Rattle.reader.proofs.Nesting.{bag_in}
use Rattle.reader.proofs.rows.+bag_content_safe_contents.Given as goal

abbrev pub decreases-bag : goal.decreases-bag
decreases-bag l = 3 * l.below + 2

abbrev pub decreases-content : goal.decreases-content
decreases-content l = 3 * l.below + 1

abbrev pub decreases-safe_contents : goal.decreases-safe_contents
decreases-safe_contents l = 3 * l.level

abbrev pub invariant-safe_contents-loop-at : goal.invariant-safe_contents-loop-at
invariant-safe_contents-loop-at l =
    Rowing (bag_in l.level l.s.bytes.now (owner l.safe l.enclosing)) l.end
    (run (bag_in l.level l.s.bytes.now (owner l.safe l.enclosing)) (rows_at l.initial.m l.initial.so_far)
    (cursor l.initial.at l.end))
    (length l.initial.m) l.m l.so_far l.at

abbrev pub decreases-safe_contents-loop-at : goal.decreases-safe_contents-loop-at
decreases-safe_contents-loop-at l = l.end - l.at
