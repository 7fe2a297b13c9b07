-- Each way out is the definition's, by the tests and answers on the way.
use Rattle.der.proofs.Choices.{choices}
use Rattle.parts.specs.Steps.{parameters_at}
use Rattle.parts.proofs.Rules.{answers}
use Rattle.parts.proofs.read.parameters.Goals as goal

pub returns-then-m : goal.returns-then-m
unfolding parameters_at
returns-then-m c = search (choices, answers) depth 14

pub returns : goal.returns
unfolding parameters_at
returns c = search (choices, answers) depth 14
