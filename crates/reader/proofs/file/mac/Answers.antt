-- Each way out is the definition's, by the tests and answers on the way.
use borrow.Author.Rules.{rules}
use Rattle.der.proofs.Choices.{choices}
use Rattle.pkcs12.specs.Walk.{mac_at}
use Rattle.reader.specs.Steps.{salted_at}
use Rattle.parts.proofs.Rules.{in-files}
use Rattle.reader.proofs.Heads.{sealed_count_lem}
use Rattle.reader.proofs.file.mac.Goals as goal

pub salted-requires : goal.salted-requires
salted-requires c = search (rules, sealed_count_lem, c.in_ok-whole.was, c.in_ok-digest.was)

pub returns-in_err-whole : goal.returns-in_err-whole
unfolding mac_at salted_at
returns-in_err-whole c = search (choices, in-files, c.in_err-whole.was) depth 14

pub returns-in_err-digest : goal.returns-in_err-digest
unfolding mac_at salted_at
returns-in_err-digest c = search (choices, in-files, c.in_ok-whole.was, c.in_err-digest.was) depth 14

pub returns : goal.returns
unfolding mac_at salted_at
returns c = search (choices, in-files, c.in_ok-whole.was, c.in_ok-digest.was) depth 14
