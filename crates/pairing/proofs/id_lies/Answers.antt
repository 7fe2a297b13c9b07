-- Either way out is the definition's, by whether there is an id.
use Rattle.std.proofs.Common.{arith}
use Rattle.pairing.specs.Pairs.{id_lies}
use Rattle.pairing.proofs.id_lies.Goals as goal

pub returns-then-not-row : goal.returns-then-not-row
unfolding id_lies
returns-then-not-row c = grind arith

pub returns-else-not-row : goal.returns-else-not-row
unfolding id_lies
returns-else-not-row c = grind arith
