-- Each way out is the definition's, by the tests and answers on the way; the identifier's body
-- lies in the bytes.
use borrow.Author.Rules.{rules}
use Rattle.der.proofs.Choices.{choices, told_true, told_false}
use Rattle.reader.specs.Steps.{safe_head_at}
use Rattle.parts.proofs.Rules.{rooms}
use Rattle.reader.proofs.safes.safe.Goals as goal

pub safe_value-requires : goal.safe_value-requires
safe_value-requires c = search (rules, rooms, c.in_ok-whole.was, c.in_ok-id.was)

pub returns-in_err-whole : goal.returns-in_err-whole
unfolding safe_head_at
returns-in_err-whole c = search (choices, c.in_err-whole.was) depth 14

pub returns-in_err-id : goal.returns-in_err-id
unfolding safe_head_at
returns-in_err-id c = search (choices, told_false, c.in_ok-whole.was, c.in_err-id.was) depth 14

pub returns-then-full : goal.returns-then-full
unfolding safe_head_at
returns-then-full c = search (choices, told_true, c.in_ok-whole.was) depth 14

pub returns : goal.returns
unfolding safe_head_at
returns c = search (choices, told_false, c.in_ok-whole.was, c.in_ok-id.was) depth 14
