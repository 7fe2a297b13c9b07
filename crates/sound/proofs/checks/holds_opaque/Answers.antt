-- Each way out is the definition's, by the tests and answers on the way; the part that is borrowed
-- is the bytes of the range.
use Rattle.der.proofs.Choices.{told_true, told_false}
use Rattle.pkcs12.specs.Checks.{holds_opaque}
use Rattle.sound.proofs.Rules.{one_of_lem}
use Rattle.sound.proofs.checks.holds_opaque.Goals as goal

pub returns-then-lies : goal.returns-then-lies
unfolding holds_opaque
returns-then-lies c = search (told_true, one_of_lem)

pub returns-else-lies : goal.returns-else-lies
unfolding holds_opaque
returns-else-lies c = search told_false
