-- By the answer.
use Rattle.listing.specs.Lines.{answered}
use Rattle.listing.proofs.answered.Goals as goal

pub returns-in-Ok : goal.returns-in-Ok
unfolding answered
returns-in-Ok c = rw c.in-Ok.is c.accepted.ensures

pub returns-in-Err : goal.returns-in-Err
unfolding answered
returns-in-Err c = rw c.in-Err.is c.refused.ensures
