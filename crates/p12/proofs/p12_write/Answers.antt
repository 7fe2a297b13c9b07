-- Words that are too few; else what writing wrote, of the table that was loaded.
use Rattle.der.proofs.Promised.{all_bytes}
use Rattle.p12.proofs.Gives.{write_short, write_wrote}
use Rattle.p12.proofs.p12_write.Goals as goal

pub returns-then-is_short-clause-value : goal.returns-then-is_short-clause-value
returns-then-is_short-clause-value c = (write_short _ _ _ c.is_short.ensures c.if-is_short.true _).0

pub returns-then-is_short-clause-out_after : goal.returns-then-is_short-clause-out_after
returns-then-is_short-clause-out_after c = (write_short _ _ _ c.is_short.ensures c.if-is_short.true _).1.0

pub returns-then-is_short-clause-written_after : goal.returns-then-is_short-clause-written_after
returns-then-is_short-clause-written_after c = (write_short _ _ _ c.is_short.ensures c.if-is_short.true _).1.1

pub returns-then-is_short-clause-bytes : goal.returns-then-is_short-clause-bytes
returns-then-is_short-clause-bytes c = search all_bytes

pub returns-clause-value : goal.returns-clause-value
returns-clause-value c = (write_wrote _ _ _ c.is_short.ensures c.if-is_short.false _ c.table.ensures _ _ _
    c.write-file.ensures.value c.write-file.ensures.out_after _ c.number_of.ensures _ c.length_of.ensures).0

pub returns-clause-out_after : goal.returns-clause-out_after
returns-clause-out_after c = (write_wrote _ _ _ c.is_short.ensures c.if-is_short.false _ c.table.ensures _ _ _
    c.write-file.ensures.value c.write-file.ensures.out_after _ c.number_of.ensures _ c.length_of.ensures).1.0

pub returns-clause-written_after : goal.returns-clause-written_after
returns-clause-written_after c = (write_wrote _ _ _ c.is_short.ensures c.if-is_short.false _ c.table.ensures _ _ _
    c.write-file.ensures.value c.write-file.ensures.out_after _ c.number_of.ensures _ c.length_of.ensures).1.1

pub returns-clause-bytes : goal.returns-clause-bytes
returns-clause-bytes c = search all_bytes
