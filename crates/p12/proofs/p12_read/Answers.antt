-- Number, memory and offset are those of reading into memory.
use Rattle.p12.proofs.Gives.{read_given}
use Rattle.p12.proofs.p12_read.Goals as goal

pub returns-clause-value : goal.returns-clause-value
returns-clause-value c = (read_given _ _ _ c.read_into-answer.ensures.value _ c.number_of.ensures _ c.read_into-answer.ensures.memory_after _
    c.offset_of.ensures).0

pub returns-clause-table_after : goal.returns-clause-table_after
returns-clause-table_after c = (read_given _ _ _ c.read_into-answer.ensures.value _ c.number_of.ensures _ c.read_into-answer.ensures.memory_after _
    c.offset_of.ensures).1.0

pub returns-clause-offset_after : goal.returns-clause-offset_after
returns-clause-offset_after c = (read_given _ _ _ c.read_into-answer.ensures.value _ c.number_of.ensures _ c.read_into-answer.ensures.memory_after _
    c.offset_of.ensures).1.1

pub returns-clause-bytes : goal.returns-clause-bytes
returns-clause-bytes c = c.read_into-answer.ensures.bytes
