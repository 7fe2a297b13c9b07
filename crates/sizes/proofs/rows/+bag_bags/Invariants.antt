use Prim.Native.Nat.{◌+◌, ◌*◌, ◌-◌}
use Rattle.sizes.proofs.Measures.{BagsGoing}
use Rattle.sizes.proofs.rows.+bag_bags.Given as goal

abbrev pub decreases-bag : goal.decreases-bag
decreases-bag l = 2 * l.level

abbrev pub decreases-bags : goal.decreases-bags
decreases-bags l = 2 * l.level + 1

abbrev pub invariant-bags-loop-taken : goal.invariant-bags-loop-taken
invariant-bags-loop-taken l =
    BagsGoing l.table l.bytes l.level l.safe l.enclosing l.first l.from l.end l.taken

abbrev pub decreases-bags-loop-taken : goal.decreases-bags-loop-taken
decreases-bags-loop-taken l = l.end - l.taken.bag
