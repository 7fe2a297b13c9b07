-- By the case of what is due.
use Rattle.stream.specs.Bulk.{bulk_of}
use Rattle.stream.proofs.Rules.{bulk_body, bulk_none}
use Rattle.stream.proofs.bulk.Goals as goal

pub returns-in-Body : goal.returns-in-Body
returns-in-Body c = search bulk_body

pub returns-in-Refused : goal.returns-in-Refused
unfolding bulk_of
returns-in-Refused c = rw c.in-Refused.is

pub returns-in_default : goal.returns-in_default
returns-in_default c = bulk_none _ _ c.in_default.not-Body c.in_default.not-Refused
