-- Each way out is the definition's, by the tests and answers on the way; no sum overflows.
use Rattle.der.proofs.Choices.{choices}
use Rattle.pkcs12.specs.Walk.{sealed_at}
use Rattle.parts.specs.Steps.{sealed_value_at}
use Rattle.parts.proofs.Rules.{algorithm_fits}
use Rattle.parts.proofs.read.sealed.Goals as goal

pub overflow_add-count : goal.overflow_add-count
overflow_add-count c = search (algorithm_fits, c.in_ok-made.was)

pub returns-in_err-outer : goal.returns-in_err-outer
unfolding sealed_at sealed_value_at
returns-in_err-outer c = search (choices, c.in_err-outer.was) depth 14

pub returns-in_err-made : goal.returns-in_err-made
unfolding sealed_at sealed_value_at
returns-in_err-made c = search (choices, c.in_ok-outer.was, c.in_err-made.was) depth 14

pub returns : goal.returns
unfolding sealed_at sealed_value_at
returns c = search (choices, c.in_ok-outer.was, c.in_ok-made.was) depth 14
