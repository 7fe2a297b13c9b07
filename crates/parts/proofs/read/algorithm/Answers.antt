-- Each way out is the definition's, by the tests and answers on the way; offsets fit a range.
use borrow.Author.Rules.{rules}
use Rattle.der.proofs.Choices.{choices}
use Rattle.pkcs12.specs.Walk.{algorithm_at}
use Rattle.parts.specs.Steps.{some_parameters_at, parameters_at}
use Rattle.parts.proofs.Rules.{rooms}
use Rattle.parts.proofs.read.algorithm.Goals as goal

pub parameters-requires : goal.parameters-requires
parameters-requires c = search (rules, rooms, c.in_ok-outer.was, c.in_ok-name.was)

pub returns-in_err-outer : goal.returns-in_err-outer
unfolding algorithm_at parameters_at some_parameters_at
returns-in_err-outer c = search (choices, c.in_err-outer.was) depth 14

pub returns-in_err-name : goal.returns-in_err-name
unfolding algorithm_at parameters_at some_parameters_at
returns-in_err-name c = search (choices, c.in_ok-outer.was, c.in_err-name.was) depth 14

pub returns : goal.returns
unfolding algorithm_at parameters_at some_parameters_at
returns c = search (choices, c.in_ok-outer.was, c.in_ok-name.was) depth 14
