-- The row names the bag, and then its type is localKeyID or another.
use Rattle.std.proofs.Common.{arith}
use Rattle.identities.specs.Identities.{local_key_type, is_local_key}
use Rattle.identities.proofs.is_local_key.Goals as goal

pub returns-then-row-bag : goal.returns-then-row-bag
unfolding is_local_key local_key_type
returns-then-row-bag c = grind arith

pub returns-else-row-bag : goal.returns-else-row-bag
unfolding is_local_key
returns-else-row-bag c = grind arith
