-- Each way out is the definition's, by the row's kind and what the callee returned.
use Rattle.pkcs12.specs.Checks.{bag_test}
use Rattle.sound.proofs.Rules.{by_kind}
use Rattle.sound.proofs.checks.bag_test.Goals as goal

pub returns-in-None : goal.returns-in-None
unfolding bag_test
returns-in-None c = search by_kind

pub returns-in-Key : goal.returns-in-Key
unfolding bag_test
returns-in-Key c = search by_kind

pub returns-in-ShroudedKey : goal.returns-in-ShroudedKey
unfolding bag_test
returns-in-ShroudedKey c = search by_kind

pub returns-in-Certificate : goal.returns-in-Certificate
unfolding bag_test
returns-in-Certificate c = search by_kind

pub returns-in-Crl : goal.returns-in-Crl
unfolding bag_test
returns-in-Crl c = search by_kind

pub returns-in-Nested : goal.returns-in-Nested
unfolding bag_test
returns-in-Nested c = search by_kind
