-- Each way out is the definition's, by the tests and answers on the way.
use Rattle.der.proofs.Choices.{choices, told_true, told_false}
use Rattle.pkcs12.specs.Identifiers.{data_type, encrypted_type, enveloped_type}
use Rattle.reader.specs.Steps.{safe_of_at}
use Rattle.reader.proofs.safes.safe_value.Goals as goal

pub returns-then-named : goal.returns-then-named
unfolding safe_of_at data_type encrypted_type enveloped_type
returns-then-named c = search (choices, told_true, told_false) depth 14

pub returns-then-named-2 : goal.returns-then-named-2
unfolding safe_of_at data_type encrypted_type enveloped_type
returns-then-named-2 c = search (choices, told_true, told_false) depth 14

pub returns-then-named-3 : goal.returns-then-named-3
unfolding safe_of_at data_type encrypted_type enveloped_type
returns-then-named-3 c = search (choices, told_true, told_false) depth 14

pub returns : goal.returns
unfolding safe_of_at data_type encrypted_type enveloped_type
returns c = search (choices, told_true, told_false) depth 14
