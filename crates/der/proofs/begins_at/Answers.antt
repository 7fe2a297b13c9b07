-- A part begins at the first byte, or behind one below 80 (hex).
use Rattle.der.proofs.Choices.{choices}
use Rattle.der.specs.Content.{begins_at}
use Rattle.der.proofs.begins_at.Goals as goal

pub returns-then-i-from : goal.returns-then-i-from
unfolding begins_at
returns-then-i-from c = search choices depth 14

pub returns : goal.returns
unfolding begins_at
returns c = search choices depth 14
