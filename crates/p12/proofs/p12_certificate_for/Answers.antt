-- Words that are too few; else the certificate for the key, in the table that was loaded.
use mathlib.Core.Path.{ap, ◌∙◌}
use Rattle.p12.specs.Calls.{paired_number, paired_row}
use Rattle.der.proofs.Promised.{all_bytes}
use Rattle.pairing.specs.Report.{paired_report}
use Rattle.p12.proofs.Gives.{certificate_short, certificate_of, paired_told}
use Rattle.p12.proofs.p12_certificate_for.Goals as goal

pub returns-then-is_short-clause-value : goal.returns-then-is_short-clause-value
unfolding paired_report
returns-then-is_short-clause-value c =
    let g = certificate_short _ _ _ c.is_short.ensures c.if-is_short.true _ in
    ap paired_number g

pub returns-then-is_short-clause-bag_after : goal.returns-then-is_short-clause-bag_after
unfolding paired_report
returns-then-is_short-clause-bag_after c =
    let g = certificate_short _ _ _ c.is_short.ensures c.if-is_short.true _ in
    ap paired_row g

pub returns-then-is_short-clause-bytes : goal.returns-then-is_short-clause-bytes
unfolding paired_report
returns-then-is_short-clause-bytes c = search all_bytes

pub returns-clause-value : goal.returns-clause-value
returns-clause-value c =
    let g = certificate_of _ _ _ c.is_short.ensures c.if-is_short.false _ c.table.ensures _ _ c.certificate_for-paired.ensures.value in
    c.number_of.ensures ∙ paired_told _ ∙ ap paired_number g

pub returns-clause-bag_after : goal.returns-clause-bag_after
returns-clause-bag_after c =
    let g = certificate_of _ _ _ c.is_short.ensures c.if-is_short.false _ c.table.ensures _ _ c.certificate_for-paired.ensures.value in
    c.row_of.ensures ∙ ap paired_row g

pub returns-clause-bytes : goal.returns-clause-bytes
returns-clause-bytes c = search all_bytes
