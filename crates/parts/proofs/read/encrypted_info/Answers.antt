-- Each way out is the definition's, by the tests and answers on the way.
use borrow.Author.Rules.{rules}
use Rattle.der.proofs.Choices.{choices, told_true, told_false}
use Rattle.pkcs12.specs.Identifiers.{data_type}
use Rattle.pkcs12.specs.Walk.{encrypted_info_at}
use Rattle.parts.specs.Steps.{sealed_value_at, encrypted_parts_at}
use Rattle.parts.proofs.Rules.{rooms}
use Rattle.parts.proofs.read.encrypted_info.Goals as goal

pub named-requires : goal.named-requires
named-requires c = search (rules, rooms)

pub returns-then-named : goal.returns-then-named
unfolding encrypted_info_at encrypted_parts_at sealed_value_at data_type
returns-then-named c = search (choices, told_true, c.in_ok-outer.was, c.in_ok-name.was) depth 14

pub returns-in_err-outer : goal.returns-in_err-outer
unfolding encrypted_info_at encrypted_parts_at sealed_value_at data_type
returns-in_err-outer c = search (choices, c.in_err-outer.was) depth 14

pub returns-in_err-name : goal.returns-in_err-name
unfolding encrypted_info_at encrypted_parts_at sealed_value_at data_type
returns-in_err-name c = search (choices, c.in_ok-outer.was, c.in_err-name.was) depth 14

pub returns : goal.returns
unfolding encrypted_info_at encrypted_parts_at sealed_value_at data_type
returns c = search (choices, told_false, c.in_ok-outer.was, c.in_ok-name.was) depth 14
