-- Each way out is the definition's, by the tests and answers on the way; the part that is borrowed
-- is the bytes of the range.
use Rattle.der.proofs.Choices.{denied, granted}
use Rattle.pkcs12.specs.Checks.{holds_at_most_one}
use Rattle.sound.proofs.Rules.{one_of_lem, none_of, some_of}
use Rattle.sound.proofs.checks.holds_at_most_one.Goals as goal

pub returns-then-not-lies : goal.returns-then-not-lies
unfolding holds_at_most_one
returns-then-not-lies c = search denied

pub returns-then-is_empty : goal.returns-then-is_empty
unfolding holds_at_most_one
returns-then-is_empty c = search (granted, none_of)

pub returns-else-is_empty : goal.returns-else-is_empty
unfolding holds_at_most_one
returns-else-is_empty c = search (granted, some_of, one_of_lem)
