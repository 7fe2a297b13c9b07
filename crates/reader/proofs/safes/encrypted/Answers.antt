-- Each way out is the definition's, by the tests and answers on the way; no sum overflows.
use Rattle.der.proofs.Choices.{choices}
use Rattle.reader.specs.Steps.{encrypted_head_at}
use Rattle.parts.proofs.Rules.{in-files}
use Rattle.reader.proofs.Heads.{encrypted_fits}
use Rattle.reader.proofs.safes.encrypted.Goals as goal

pub overflow_add-result : goal.overflow_add-result
overflow_add-result c = search (encrypted_fits, c.in_ok-found.was)

pub returns-in_err-outer : goal.returns-in_err-outer
unfolding encrypted_head_at
returns-in_err-outer c = search (choices, in-files, c.in_err-outer.was) depth 14

pub returns-in_err-found : goal.returns-in_err-found
unfolding encrypted_head_at
returns-in_err-found c = search (choices, in-files, c.in_ok-outer.was, c.in_err-found.was) depth 14

pub returns-in_err-both : goal.returns-in_err-both
unfolding encrypted_head_at
returns-in_err-both c = search (choices, in-files, c.in_ok-outer.was, c.in_ok-found.was, c.in_err-both.was) depth 14

pub returns : goal.returns
unfolding encrypted_head_at
returns c = search (choices, in-files, c.in_ok-outer.was, c.in_ok-found.was, c.in_ok-both.was) depth 14
