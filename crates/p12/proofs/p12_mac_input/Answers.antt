-- The range in the table that reading returned.
use Rattle.der.proofs.Promised.{all_bytes}
use Rattle.p12.proofs.Gives.{input_gives}
use Rattle.p12.proofs.p12_mac_input.Goals as goal

pub returns-clause-value : goal.returns-clause-value
returns-clause-value c = (input_gives _ _ c.read-reading.ensures.value _ c.number_of.ensures).0

pub returns-clause-start_after : goal.returns-clause-start_after
returns-clause-start_after c = (input_gives _ _ c.read-reading.ensures.value _ c.number_of.ensures).1.0

pub returns-clause-end_after : goal.returns-clause-end_after
returns-clause-end_after c = (input_gives _ _ c.read-reading.ensures.value _ c.number_of.ensures).1.1

pub returns-clause-bytes : goal.returns-clause-bytes
returns-clause-bytes c = search all_bytes
