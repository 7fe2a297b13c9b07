-- Each way out is the definition's, by the tests and answers on the way.
use Rattle.der.proofs.Choices.{told_true, told_false}
use Rattle.pkcs12.specs.Checks.{attribute_test}
use Rattle.sound.proofs.checks.attribute_test.Goals as goal

pub returns-then-names_type : goal.returns-then-names_type
unfolding attribute_test
returns-then-names_type c = search told_true

pub returns-else-names_type : goal.returns-else-names_type
unfolding attribute_test
returns-else-names_type c = search told_false
