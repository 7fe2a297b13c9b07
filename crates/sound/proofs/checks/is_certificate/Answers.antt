-- Each way out is the definition's, by the tests and answers on the way; the part that is borrowed
-- is the bytes of the range.
use Rattle.pkcs12.specs.Identifiers.{x509_certificate}
use Rattle.pkcs12.specs.Checks.{is_certificate}
use Rattle.der.proofs.Choices.{denied, granted}
use Rattle.sound.proofs.Rules.{same_of, other_of}
use Rattle.sound.proofs.checks.is_certificate.Goals as goal

pub returns-then-not-is_typed : goal.returns-then-not-is_typed
unfolding is_certificate x509_certificate
returns-then-not-is_typed c = search denied

pub returns-then-same : goal.returns-then-same
unfolding is_certificate x509_certificate
returns-then-same c = search (granted, same_of)

pub returns : goal.returns
unfolding is_certificate x509_certificate
returns c = search (granted, other_of)
