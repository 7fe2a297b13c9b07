-- Opening the bag's attributes was refused or not.
use Rattle.std.proofs.Common.{ap}
use Rattle.der.proofs.Choices.{handed_as}
use Rattle.identities.specs.Report.{identity_report}
use Rattle.identities.proofs.Rules.{opened_refused, opened_ready}
use Rattle.identities.proofs.identity_of.Goals as goal

pub returns-in_err-position-clause-value : goal.returns-in_err-position-clause-value
returns-in_err-position-clause-value c =
    handed_as _ c.in_err-position.field-0.0 _
    (opened_refused _ _ _ _ c.opening-position.ensures.value _ c.in_err-position.was)
    c.from_residual.ensures

pub returns-in_err-position-clause-report : goal.returns-in_err-position-clause-report
returns-in_err-position-clause-report c = ap identity_report (returns-in_err-position-clause-value c)

pub returns-clause-value : goal.returns-clause-value
returns-clause-value c =
    opened_ready _ _ _ _ c.opening-position.ensures.value _ _ c.in_ok-position.was c.row_of.ensures

pub returns-clause-report : goal.returns-clause-report
returns-clause-report c = ap identity_report (returns-clause-value c)
