-- Each way out is the definition's, by the tests and answers on the way.
use Rattle.der.proofs.Choices.{told_true, told_false}
use Rattle.pkcs12.specs.Checks.{holds_tagged}
use Rattle.sound.proofs.checks.holds_tagged.Goals as goal

pub returns-then-holds_opaque : goal.returns-then-holds_opaque
unfolding holds_tagged
returns-then-holds_opaque c = search told_true

pub returns-else-holds_opaque : goal.returns-else-holds_opaque
unfolding holds_tagged
returns-else-holds_opaque c = search told_false
