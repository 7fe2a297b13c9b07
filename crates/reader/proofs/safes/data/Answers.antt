-- Each way out is the definition's, by the tests and answers on the way.
use Rattle.der.proofs.Choices.{choices}
use Rattle.reader.specs.Steps.{data_head_at}
use Rattle.reader.proofs.safes.data.Goals as goal

pub returns-in_err-outer : goal.returns-in_err-outer
unfolding data_head_at
returns-in_err-outer c = search (choices, c.in_err-outer.was) depth 14

pub returns-in_err-inner : goal.returns-in_err-inner
unfolding data_head_at
returns-in_err-inner c = search (choices, c.in_ok-outer.was, c.in_err-inner.was) depth 14

pub returns : goal.returns
unfolding data_head_at
returns c = search (choices, c.in_ok-outer.was, c.in_ok-inner.was) depth 14
