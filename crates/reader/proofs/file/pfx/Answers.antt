-- Each way out is the definition's, by the tests and answers on the way.
use Rattle.der.proofs.Choices.{choices}
use Rattle.reader.specs.Steps.{pfx_head_at}
use Rattle.reader.proofs.file.pfx.Goals as goal

pub returns-in_err-whole : goal.returns-in_err-whole
unfolding pfx_head_at
returns-in_err-whole c = search (choices, c.in_err-whole.was) depth 14

pub returns-in_err-version : goal.returns-in_err-version
unfolding pfx_head_at
returns-in_err-version c = search (choices, c.in_ok-whole.was, c.in_err-version.was) depth 14

pub returns-then-version-eq-PFX_VERSION : goal.returns-then-version-eq-PFX_VERSION
unfolding pfx_head_at
returns-then-version-eq-PFX_VERSION c = search (choices, c.in_ok-whole.was, c.in_ok-version.was) depth 14

pub returns : goal.returns
unfolding pfx_head_at
returns c = search (choices, c.in_ok-whole.was, c.in_ok-version.was) depth 14
