use Prim.Native.Nat.{◌+◌, ◌*◌, ◌-◌}
use Rattle.writer.proofs.Rowing.{BagsPutting}
use Rattle.writer.proofs.rows.+bag_bags.Given as goal

abbrev pub decreases-bag : goal.decreases-bag
decreases-bag l = 2 * l.level

abbrev pub decreases-bags : goal.decreases-bags
decreases-bags l = 2 * l.level + 1

abbrev pub invariant-bags-loop-so_far : goal.invariant-bags-loop-so_far
invariant-bags-loop-so_far l =
    BagsPutting l.table l.bytes l.level l.safe l.enclosing l.first l.from l.end l.initial.out l.out l.so_far

abbrev pub decreases-bags-loop-so_far : goal.decreases-bags-loop-so_far
decreases-bags-loop-so_far l = l.end - l.so_far.bag
