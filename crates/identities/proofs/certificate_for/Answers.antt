-- The table is not sound, or its identity rows are paired.
use Rattle.std.proofs.Common.{ap}
use Rattle.der.proofs.Choices.{handed_as}
use Rattle.pairing.specs.Report.{paired_report}
use Rattle.identities.proofs.Rules.{certificate_unsound, certificate_paired}
use Rattle.identities.proofs.certificate_for.Goals as goal

pub returns-in_err-ok_or-clause-value : goal.returns-in_err-ok_or-clause-value
returns-in_err-ok_or-clause-value c =
    handed_as _ c.in_err-ok_or.field-0.0 _
    (certificate_unsound _ _ _ c.measure.ensures.value _ _ c.ok_or.ensures.value c.refused.ensures _ _
    c.in_err-ok_or.was)
    c.from_residual.ensures

pub returns-in_err-ok_or-clause-report : goal.returns-in_err-ok_or-clause-report
returns-in_err-ok_or-clause-report c = ap paired_report (returns-in_err-ok_or-clause-value c)

pub returns-clause-value : goal.returns-clause-value
returns-clause-value c =
    certificate_paired _ _ _ c.measure.ensures.value _ _ c.ok_or.ensures.value c.refused.ensures _ _ _ _
    c.in_ok-ok_or.was c.rows_of.ensures c.pair_all.ensures.value

pub returns-clause-report : goal.returns-clause-report
returns-clause-report c = ap paired_report (returns-clause-value c)
