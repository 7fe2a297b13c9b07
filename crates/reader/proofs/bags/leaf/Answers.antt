-- Each way out is the definition's, by the tests and answers on the way; no sum overflows.
use Rattle.der.proofs.Choices.{choices}
use Rattle.reader.specs.Steps.{leaf_of}
use Rattle.reader.proofs.Heads.{leaf_fits}
use Rattle.reader.proofs.bags.leaf.Goals as goal

pub overflow_add-result : goal.overflow_add-result
overflow_add-result c = search (leaf_fits, c.in_ok-found.was)

pub returns-in_err-found : goal.returns-in_err-found
unfolding leaf_of
returns-in_err-found c = search (choices, c.in_err-found.was) depth 14

pub returns : goal.returns
unfolding leaf_of
returns c = search (choices, c.in_ok-found.was) depth 14
