-- Each way out is the definition's, by the tests and answers on the way; no sum overflows.
use Rattle.der.proofs.Choices.{choices}
use Rattle.parts.specs.Steps.{encrypted_content_at}
use Rattle.parts.proofs.Rules.{encrypted_info_fits}
use Rattle.parts.proofs.read.encrypted_content.Goals as goal

pub overflow_add-result : goal.overflow_add-result
overflow_add-result c = search (encrypted_info_fits, c.in_ok-found.was)

pub returns-in_err-found : goal.returns-in_err-found
unfolding encrypted_content_at
returns-in_err-found c = search (choices, c.in_err-found.was) depth 14

pub returns-in_err-finish : goal.returns-in_err-finish
unfolding encrypted_content_at
returns-in_err-finish c = search (choices, c.in_ok-found.was, c.in_err-finish.was) depth 14

pub returns : goal.returns
unfolding encrypted_content_at
returns c = search (choices, c.in_ok-found.was, c.in_ok-finish.was) depth 14
