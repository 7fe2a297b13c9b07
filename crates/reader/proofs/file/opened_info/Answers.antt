-- Each way out is the definition's, by the tests and answers on the way; the identifier's body
-- lies in the bytes.
use borrow.Author.Rules.{rules}
use Rattle.der.proofs.Choices.{choices}
use Rattle.reader.specs.Steps.{opened_info_at}
use Rattle.parts.proofs.Rules.{rooms}
use Rattle.reader.proofs.file.opened_info.Goals as goal

pub opened_value-requires : goal.opened_value-requires
opened_value-requires c = search (rules, rooms, c.in_ok-whole.was, c.in_ok-id.was)

pub returns-in_err-whole : goal.returns-in_err-whole
unfolding opened_info_at
returns-in_err-whole c = search (choices, c.in_err-whole.was) depth 14

pub returns-in_err-id : goal.returns-in_err-id
unfolding opened_info_at
returns-in_err-id c = search (choices, c.in_ok-whole.was, c.in_err-id.was) depth 14

pub returns : goal.returns
unfolding opened_info_at
returns c = search (choices, c.in_ok-whole.was, c.in_ok-id.was) depth 14
