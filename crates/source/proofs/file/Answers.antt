-- By what import answered.
use Rattle.source.proofs.Sources.{file_text, file_bytes_lem}
use Rattle.source.proofs.file.Goals as goal

pub returns-in-Ok : goal.returns-in-Ok
returns-in-Ok c =
    file_text c.args.read.now c.args.out.now _ c.import.ensures.value _ _ _ c.in-Ok.is
    c.import.ensures.out_after c.part.ensures

pub returns-in-Err : goal.returns-in-Err
returns-in-Err c =
    file_bytes_lem c.args.read.now c.args.out.now _ c.import.ensures.value _ c.in-Err.is
