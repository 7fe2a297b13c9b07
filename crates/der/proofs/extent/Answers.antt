-- The length is read by its first byte, as the definition tests it.
use Rattle.der.proofs.Choices.{choices}
use Rattle.der.specs.Element.{extent_at}
use Rattle.der.proofs.extent.Goals as goal

pub returns-then-end-at : goal.returns-then-end-at
unfolding extent_at
returns-then-end-at c = search choices depth 14

pub returns-then-first-lt128 : goal.returns-then-first-lt128
unfolding extent_at
returns-then-first-lt128 c = search choices depth 14

pub returns-then-first : goal.returns-then-first
unfolding extent_at
returns-then-first c = search choices depth 14

pub returns-then-first-2 : goal.returns-then-first-2
unfolding extent_at
returns-then-first-2 c = search choices depth 14

pub returns : goal.returns
unfolding extent_at
returns c = search choices depth 14
