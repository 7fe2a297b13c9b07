-- Each way out is the definition's, by the tests and answers on the way.
use Rattle.der.proofs.Choices.{choices, told_true, told_false}
use Rattle.pkcs12.specs.Identifiers.{x509_certificate}
use Rattle.parts.proofs.read.is_x509.Goals as goal

pub returns-then-certificate : goal.returns-then-certificate
unfolding x509_certificate
returns-then-certificate c = search (choices, told_true, told_false) depth 14
