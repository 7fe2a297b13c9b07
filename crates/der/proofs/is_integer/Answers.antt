-- The body is judged as the definition tests it.
use Rattle.der.proofs.Choices.{choices}
use Rattle.der.specs.Content.{integer_body}
use Rattle.der.proofs.is_integer.Goals as goal

pub returns-then-end-at : goal.returns-then-end-at
unfolding integer_body
returns-then-end-at c = search choices depth 14

pub returns-then-most-end : goal.returns-then-most-end
unfolding integer_body
returns-then-most-end c = search choices depth 14

pub returns-then-first-ge128 : goal.returns-then-first-ge128
unfolding integer_body
returns-then-first-ge128 c = search choices depth 14

pub returns-then-end-second : goal.returns-then-end-second
unfolding integer_body
returns-then-end-second c = search choices depth 14

pub returns-then-first-eq0 : goal.returns-then-first-eq0
unfolding integer_body
returns-then-first-eq0 c = search choices depth 14

pub returns : goal.returns
unfolding integer_body
returns c = search choices depth 14
