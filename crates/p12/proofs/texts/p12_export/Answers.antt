-- What `pem` returned and wrote.
use Rattle.der.proofs.Promised.{all_bytes}
use Rattle.p12.proofs.Wrapping.{export_gives}
use Rattle.p12.proofs.texts.p12_export.Goals as goal

pub returns-clause-value : goal.returns-clause-value
returns-clause-value c =
    let g = export_gives _ _ _ c.export-exported.ensures.value _ c.export-exported.ensures.out_after _ c.number_of.ensures _ c.length_of.ensures in
    g.0

pub returns-clause-out_after : goal.returns-clause-out_after
returns-clause-out_after c =
    let g = export_gives _ _ _ c.export-exported.ensures.value _ c.export-exported.ensures.out_after _ c.number_of.ensures _ c.length_of.ensures in
    g.1.0

pub returns-clause-written_after : goal.returns-clause-written_after
returns-clause-written_after c =
    let g = export_gives _ _ _ c.export-exported.ensures.value _ c.export-exported.ensures.out_after _ c.number_of.ensures _ c.length_of.ensures in
    g.1.1

pub returns-clause-bytes : goal.returns-clause-bytes
returns-clause-bytes c = search all_bytes
