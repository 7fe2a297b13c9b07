-- By the kind.
use Rattle.std.proofs.Common.{rules}
use Rattle.pairing.specs.Pairs.{is_certificate}
use Rattle.pairing.proofs.Rules.{no_certificate_kind}
use Rattle.pairing.proofs.is_certificate.Goals as goal

pub returns-in-Certificate : goal.returns-in-Certificate
unfolding is_certificate
returns-in-Certificate c = search rules

pub returns-in_default : goal.returns-in_default
returns-in_default c = search no_certificate_kind
