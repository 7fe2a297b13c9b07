-- What listing wrote, of what reading returned.
use Rattle.der.proofs.Promised.{all_bytes}
use Rattle.p12.proofs.Gives.{list_wrote}
use Rattle.p12.proofs.p12_list.Goals as goal

pub returns-clause-value : goal.returns-clause-value
returns-clause-value c = (list_wrote _ _ _ c.read.ensures.value _ _ c.list-answer.ensures.value c.list-answer.ensures.out_after _
    c.number_of.ensures _ c.length_of.ensures).0

pub returns-clause-out_after : goal.returns-clause-out_after
returns-clause-out_after c = (list_wrote _ _ _ c.read.ensures.value _ _ c.list-answer.ensures.value c.list-answer.ensures.out_after _
    c.number_of.ensures _ c.length_of.ensures).1.0

pub returns-clause-written_after : goal.returns-clause-written_after
returns-clause-written_after c = (list_wrote _ _ _ c.read.ensures.value _ _ c.list-answer.ensures.value c.list-answer.ensures.out_after _
    c.number_of.ensures _ c.length_of.ensures).1.1

pub returns-clause-bytes : goal.returns-clause-bytes
returns-clause-bytes c = search all_bytes
