-- Each way out is the definition's, by the tests and answers on the way; offsets fit a range.
use borrow.Author.Rules.{rules}
use Rattle.der.proofs.Choices.{choices}
use Rattle.reader.specs.Steps.{salted_at}
use Rattle.reader.proofs.Rules.{salted_refused, salted_found}
use Rattle.parts.proofs.Rules.{in-files, rooms}
use Rattle.reader.proofs.file.salted.Goals as goal

pub of-salt-requires : goal.of-salt-requires
of-salt-requires c = search (rules, rooms)

pub returns-in_err-octets : goal.returns-in_err-octets
unfolding salted_at
returns-in_err-octets c = search (choices, c.in_err-octets.was) depth 14

pub returns-in_err-found : goal.returns-in_err-found
unfolding salted_at
returns-in_err-found c =
    search (choices, salted_refused, in-files, rooms, c.in_ok-octets.was, c.in_err-found.was) depth 14

pub returns : goal.returns
unfolding salted_at
returns c = search (choices, salted_found, in-files, rooms, c.in_ok-octets.was, c.in_ok-found.was) depth 14
