-- Each way out is the definition's, by the row's kind and what the callee returned.
use Rattle.pkcs12.specs.Checks.{safe_test}
use Rattle.sound.proofs.Rules.{by_kind}
use Rattle.sound.proofs.checks.safe_test.Goals as goal

pub returns-in-None : goal.returns-in-None
unfolding safe_test
returns-in-None c = search by_kind

pub returns-in-Plain : goal.returns-in-Plain
unfolding safe_test
returns-in-Plain c = search by_kind

pub returns-in-Encrypted : goal.returns-in-Encrypted
unfolding safe_test
returns-in-Encrypted c = search by_kind
