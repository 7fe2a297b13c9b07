-- Each way out is the definition's, by the tests and answers on the way; the part that is borrowed
-- is the bytes of the range.
use Rattle.der.proofs.Choices.{told_true, told_false}
use Rattle.pkcs12.specs.Checks.{holds_all}
use Rattle.sound.proofs.Rules.{all_of}
use Rattle.sound.proofs.checks.holds_all.Goals as goal

pub returns-then-lies : goal.returns-then-lies
unfolding holds_all
returns-then-lies c = search (told_true, all_of)

pub returns-else-lies : goal.returns-else-lies
unfolding holds_all
returns-else-lies c = search told_false
