-- By the answer.
use Rattle.pair_lines.specs.Lines.{answered}
use Rattle.pair_lines.proofs.answered.Goals as goal

pub returns-in-Ok : goal.returns-in-Ok
unfolding answered
returns-in-Ok c = rw c.in-Ok.is c.bag_lines.ensures

pub returns-in-Err : goal.returns-in-Err
unfolding answered
returns-in-Err c = rw c.in-Err.is c.refused.ensures
