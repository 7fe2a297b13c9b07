-- Each way out is the definition's, by the tests and answers on the way; offsets fit a range.
use borrow.Author.Rules.{rules}
use Rattle.der.proofs.Choices.{choices}
use Rattle.parts.proofs.Rules.{rooms, typed_step_lem, typed_given}
use Rattle.parts.proofs.read.typed.Goals as goal

pub typed_value-requires : goal.typed_value-requires
typed_value-requires c = search (rules, rooms, c.in_ok-outer.was, c.in_ok-name.was, c.in_ok-wrapped.was)

pub returns-in_err-outer : goal.returns-in_err-outer
returns-in_err-outer c = typed_step_lem _ _ _ _ (search (choices, c.in_err-outer.was) depth 14)

pub returns-in_err-name : goal.returns-in_err-name
returns-in_err-name c =
    typed_step_lem _ _ _ _ (search (choices, c.in_ok-outer.was, c.in_err-name.was) depth 14)

pub returns-in_err-wrapped : goal.returns-in_err-wrapped
returns-in_err-wrapped c =
    typed_step_lem _ _ _ _ (search (choices, c.in_ok-outer.was, c.in_ok-name.was, c.in_err-wrapped.was) depth 14)

pub returns : goal.returns
returns c =
    typed_step_lem _ _ _ _ (search (choices, typed_given, c.in_ok-outer.was, c.in_ok-name.was, c.in_ok-wrapped.was) depth 14)
