-- Each way out is the definition's, by the tests and answers on the way.
use Rattle.der.proofs.Choices.{choices}
use Rattle.reader.specs.Steps.{bag_of_at}
use Rattle.reader.proofs.Heads.{kind_none, kind_some, kind_given}
use Rattle.reader.proofs.bags.bag_of.Goals as goal

pub returns-then-is_none : goal.returns-then-is_none
unfolding bag_of_at
returns-then-is_none c = search (choices, kind_none) depth 14

pub returns-in_err-found : goal.returns-in_err-found
unfolding bag_of_at
returns-in_err-found c = search (choices, kind_some, c.in_err-found.was) depth 14

pub returns : goal.returns
unfolding bag_of_at
returns c = search (choices, kind_some, kind_given, c.in_ok-found.was) depth 14
