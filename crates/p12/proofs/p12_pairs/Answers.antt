-- What pairing wrote, of what reading returned.
use Rattle.der.proofs.Promised.{all_bytes}
use Rattle.p12.proofs.Gives.{pairs_wrote}
use Rattle.p12.proofs.p12_pairs.Goals as goal

pub returns-clause-value : goal.returns-clause-value
returns-clause-value c = (pairs_wrote _ _ _ c.read.ensures.value _ _ c.list-text.ensures.value c.list-text.ensures.out_after
    _ c.number_of.ensures _ c.length_of.ensures).0

pub returns-clause-out_after : goal.returns-clause-out_after
returns-clause-out_after c = (pairs_wrote _ _ _ c.read.ensures.value _ _ c.list-text.ensures.value c.list-text.ensures.out_after
    _ c.number_of.ensures _ c.length_of.ensures).1.0

pub returns-clause-written_after : goal.returns-clause-written_after
returns-clause-written_after c = (pairs_wrote _ _ _ c.read.ensures.value _ _ c.list-text.ensures.value c.list-text.ensures.out_after
    _ c.number_of.ensures _ c.length_of.ensures).1.1

pub returns-clause-bytes : goal.returns-clause-bytes
returns-clause-bytes c = search all_bytes
