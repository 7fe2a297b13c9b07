-- Each way out is the definition's, by the tests and answers on the way; offsets fit a range.
use borrow.Author.Rules.{rules}
use Rattle.der.proofs.Choices.{choices}
use Rattle.pkcs12.specs.Walk.{key_at}
use Rattle.parts.proofs.Rules.{answers, rooms}
use Rattle.parts.proofs.read.key.Goals as goal

pub range-requires : goal.range-requires
range-requires c = search (rules, rooms, c.in_ok-found.was)

pub returns-in_err-expect : goal.returns-in_err-expect
unfolding key_at
returns-in_err-expect c = search (choices, answers, c.in_err-expect.was) depth 14

pub returns-in_err-found : goal.returns-in_err-found
unfolding key_at
returns-in_err-found c = search (choices, answers, c.in_ok-expect.was, c.in_err-found.was) depth 14

pub returns : goal.returns
unfolding key_at
returns c = search (choices, answers, c.in_ok-expect.was, c.in_ok-found.was) depth 14
