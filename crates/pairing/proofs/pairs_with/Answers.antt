-- Either way out is the definition's, by what the callees returned.
use Rattle.std.proofs.Common.{arith}
use Rattle.pairing.specs.Pairs.{pairs_with}
use Rattle.pairing.proofs.pairs_with.Goals as goal

pub returns-then-is_certificate : goal.returns-then-is_certificate
unfolding pairs_with
returns-then-is_certificate c = grind arith

pub returns-else-is_certificate : goal.returns-else-is_certificate
unfolding pairs_with
returns-else-is_certificate c = grind arith
