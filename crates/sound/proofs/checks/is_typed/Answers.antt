-- Each way out is the definition's, by the tests and answers on the way.
use Rattle.der.proofs.Choices.{told_true, told_false}
use Rattle.pkcs12.specs.Checks.{is_typed}
use Rattle.sound.proofs.checks.is_typed.Goals as goal

pub returns-then-names_type : goal.returns-then-names_type
unfolding is_typed
returns-then-names_type c = search told_true

pub returns-else-names_type : goal.returns-else-names_type
unfolding is_typed
returns-else-names_type c = search told_false
