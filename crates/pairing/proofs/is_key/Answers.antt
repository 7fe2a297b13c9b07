-- By the kind.
use Rattle.std.proofs.Common.{rules}
use Rattle.pairing.specs.Pairs.{is_key}
use Rattle.pairing.proofs.Rules.{no_key}
use Rattle.pairing.proofs.is_key.Goals as goal

pub returns-in-Key : goal.returns-in-Key
unfolding is_key
returns-in-Key c = search rules

pub returns-in_default : goal.returns-in_default
returns-in_default c = search no_key
