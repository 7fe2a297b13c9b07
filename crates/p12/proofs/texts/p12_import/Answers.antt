-- What `pem` returned and wrote.
use Rattle.der.proofs.Promised.{all_bytes}
use Rattle.p12.proofs.Wrapping.{import_gives}
use Rattle.p12.proofs.texts.p12_import.Goals as goal

pub returns-clause-value : goal.returns-clause-value
returns-clause-value c =
    let g = import_gives _ _ _ c.import-imported.ensures.value _ c.import-imported.ensures.out_after _ c.number_of.ensures _ c.length_of.ensures _ c.offset_of.ensures in
    g.0

pub returns-clause-out_after : goal.returns-clause-out_after
returns-clause-out_after c =
    let g = import_gives _ _ _ c.import-imported.ensures.value _ c.import-imported.ensures.out_after _ c.number_of.ensures _ c.length_of.ensures _ c.offset_of.ensures in
    g.1.0

pub returns-clause-written_after : goal.returns-clause-written_after
returns-clause-written_after c =
    let g = import_gives _ _ _ c.import-imported.ensures.value _ c.import-imported.ensures.out_after _ c.number_of.ensures _ c.length_of.ensures _ c.offset_of.ensures in
    g.1.1.0

pub returns-clause-offset_after : goal.returns-clause-offset_after
returns-clause-offset_after c =
    let g = import_gives _ _ _ c.import-imported.ensures.value _ c.import-imported.ensures.out_after _ c.number_of.ensures _ c.length_of.ensures _ c.offset_of.ensures in
    g.1.1.1

pub returns-clause-bytes : goal.returns-clause-bytes
returns-clause-bytes c = search all_bytes
