-- Each way out is the definition's, by the tests and answers on the way.
use Rattle.der.proofs.Choices.{choices}
use Rattle.reader.specs.Steps.{opened_safes_at}
use Rattle.reader.proofs.file.opened_safes.Goals as goal

pub returns-in_err-octets : goal.returns-in_err-octets
unfolding opened_safes_at
returns-in_err-octets c = search (choices, c.in_err-octets.was) depth 14

pub returns-in_err-found : goal.returns-in_err-found
unfolding opened_safes_at
returns-in_err-found c = search (choices, c.in_ok-octets.was, c.in_err-found.was) depth 14

pub returns : goal.returns
unfolding opened_safes_at
returns c = search (choices, c.in_ok-octets.was, c.in_ok-found.was) depth 14
