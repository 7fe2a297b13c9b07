-- Each way out is the definition's, by the tests and answers on the way.
use Rattle.der.proofs.Choices.{choices}
use Rattle.pkcs12.specs.Walk.{encrypted_at}
use Rattle.parts.specs.Steps.{encrypted_content_at}
use Rattle.parts.proofs.read.encrypted.Goals as goal

pub returns-in_err-outer : goal.returns-in_err-outer
unfolding encrypted_at encrypted_content_at
returns-in_err-outer c = search (choices, c.in_err-outer.was) depth 14

pub returns-in_err-version : goal.returns-in_err-version
unfolding encrypted_at encrypted_content_at
returns-in_err-version c = search (choices, c.in_ok-outer.was, c.in_err-version.was) depth 14

pub returns-then-version-eq-ATTRIBUTED_VERSION : goal.returns-then-version-eq-ATTRIBUTED_VERSION
unfolding encrypted_at encrypted_content_at
returns-then-version-eq-ATTRIBUTED_VERSION c = search (choices, c.in_ok-outer.was, c.in_ok-version.was) depth 14

pub returns-then-version-eq-ENCRYPTED_VERSION : goal.returns-then-version-eq-ENCRYPTED_VERSION
unfolding encrypted_at encrypted_content_at
returns-then-version-eq-ENCRYPTED_VERSION c = search (choices, c.in_ok-outer.was, c.in_ok-version.was) depth 14

pub returns : goal.returns
unfolding encrypted_at encrypted_content_at
returns c = search (choices, c.in_ok-outer.was, c.in_ok-version.was) depth 14
