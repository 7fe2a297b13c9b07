-- Each way out is the definition's, by the tests and answers on the way.
use Rattle.der.proofs.Choices.{choices}
use Rattle.reader.specs.Steps.{set_head_at}
use Rattle.reader.proofs.Rules.{given_eq, given_ne}
use Rattle.reader.proofs.bags.set_at.Goals as goal

pub returns-in_err-finish : goal.returns-in_err-finish
unfolding set_head_at
returns-in_err-finish c = search (choices, c.in_err-finish.was) depth 14

pub returns-in_err-found : goal.returns-in_err-found
unfolding set_head_at
returns-in_err-found c = search (choices, given_eq, c.in_ok-finish.was, c.in_err-found.was) depth 14

pub returns-then-tag-eq-SET : goal.returns-then-tag-eq-SET
unfolding set_head_at
returns-then-tag-eq-SET c = search (choices, given_eq, c.in_ok-finish.was, c.in_ok-found.was) depth 14

pub returns-in_err-finish-2 : goal.returns-in_err-finish-2
unfolding set_head_at
returns-in_err-finish-2 c = search (choices, given_ne, c.in_ok-finish.was, c.in_err-finish-2.was) depth 14

pub returns : goal.returns
unfolding set_head_at
returns c = search (choices, given_ne, c.in_ok-finish.was, c.in_ok-finish-2.was) depth 14
