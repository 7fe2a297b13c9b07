-- Each way out is the definition's, by the tests and answers on the way; no sum overflows.
use Rattle.der.proofs.Choices.{choices}
use Rattle.parts.specs.Steps.{encrypted_parts_at}
use Rattle.parts.proofs.Rules.{algorithm_fits}
use Rattle.parts.proofs.read.encrypted_parts.Goals as goal

pub overflow_add-count : goal.overflow_add-count
overflow_add-count c = search (algorithm_fits, c.in_ok-made.was)

pub returns-in_err-made : goal.returns-in_err-made
unfolding encrypted_parts_at
returns-in_err-made c = search (choices, c.in_err-made.was) depth 14

pub returns-then-end-made : goal.returns-then-end-made
unfolding encrypted_parts_at
returns-then-end-made c = search (choices, c.in_ok-made.was) depth 14

pub returns : goal.returns
unfolding encrypted_parts_at
returns c = search (choices, c.in_ok-made.was) depth 14
