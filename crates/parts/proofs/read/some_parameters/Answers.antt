-- Each way out is the definition's, by the tests and answers on the way; offsets fit a range, and
-- no sum overflows.
use borrow.Author.Rules.{rules}
use Rattle.der.proofs.Choices.{choices}
use Rattle.parts.specs.Steps.{some_parameters_at}
use Rattle.parts.proofs.Rules.{answers, rooms, opaque_fits}
use Rattle.parts.proofs.read.some_parameters.Goals as goal

pub returns-in_err-found : goal.returns-in_err-found
unfolding some_parameters_at
returns-in_err-found c = search (choices, answers, c.in_err-found.was) depth 14

pub returns-in_err-finish : goal.returns-in_err-finish
unfolding some_parameters_at
returns-in_err-finish c = search (choices, answers, c.in_ok-found.was, c.in_err-finish.was) depth 14

pub range-requires : goal.range-requires
range-requires c = search (rules, rooms, c.in_ok-found.was)

pub overflow_add-result : goal.overflow_add-result
overflow_add-result c = search (opaque_fits, c.in_ok-found.was)

pub returns : goal.returns
unfolding some_parameters_at
returns c = search (choices, answers, c.in_ok-found.was, c.in_ok-finish.was) depth 14
