-- Each way out is the definition's, by the tests and answers on the way; the part that is borrowed
-- is the bytes of the range.
use Rattle.der.proofs.Choices.{told_true, told_false}
use Rattle.pkcs12.specs.Checks.{names_type}
use Rattle.sound.proofs.Rules.{body_of}
use Rattle.sound.proofs.checks.names_type.Goals as goal

pub returns-then-lies : goal.returns-then-lies
unfolding names_type
returns-then-lies c = search (told_true, body_of)

pub returns-else-lies : goal.returns-else-lies
unfolding names_type
returns-else-lies c = search told_false
