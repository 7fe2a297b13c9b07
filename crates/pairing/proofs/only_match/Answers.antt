-- A row that matches is the first, or the answer is 14; of the others nothing changes.
use Rattle.pairing.proofs.Folds.{due_found, due_second, due_other, due_last}
use Rattle.pairing.proofs.only_match.Goals as goal
use Rattle.pairing.proofs.only_match.Goals.{then-pairs_with+else-is_some, else-pairs_with}

pub returns-then-is_some : goal.returns-then-is_some
returns-then-is_some c = search due_second

pub loop-i-preserved : goal.loop-i-preserved
loop-i-preserved c =
    elim c.if-pairs_with.branch [
      | then-pairs_with+else-is_some w ↦ search due_found
      | else-pairs_with w ↦ search due_other
    ]

pub returns : goal.returns
returns c = search due_last
