-- Each way out is the definition's, by the tests and answers on the way.
use Rattle.der.proofs.Choices.{choices, told_true, told_false}
use Rattle.pkcs12.specs.Identifiers.{data_type, signed_type}
use Rattle.reader.specs.Steps.{opened_value_at}
use Rattle.reader.proofs.file.opened_value.Goals as goal

pub returns-then-named : goal.returns-then-named
unfolding opened_value_at data_type signed_type
returns-then-named c = search (choices, told_true, told_false) depth 14

pub returns-then-named-2 : goal.returns-then-named-2
unfolding opened_value_at data_type signed_type
returns-then-named-2 c = search (choices, told_true, told_false) depth 14

pub returns : goal.returns
unfolding opened_value_at data_type signed_type
returns c = search (choices, told_true, told_false) depth 14
