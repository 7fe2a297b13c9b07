-- Either way out is the definition's, by which ids there are.
use Rattle.std.proofs.Common.{arith}
use Rattle.pairing.specs.Pairs.{same_id}
use Rattle.pairing.proofs.same_id.Goals as goal

pub returns-then-row : goal.returns-then-row
unfolding same_id
returns-then-row c = grind arith

pub returns-else-row : goal.returns-else-row
unfolding same_id
returns-else-row c = grind arith
