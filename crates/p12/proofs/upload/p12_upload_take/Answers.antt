-- What `cells` answered and stored.
use Rattle.p12.proofs.Uploads.{status_number}
use Rattle.der.proofs.Promised.{all_bytes}
use Rattle.p12.proofs.upload.p12_upload_take.Goals as goal

pub returns-clause-value : goal.returns-clause-value
returns-clause-value c = status_number _ _ _ c.take.ensures.value c.status_reported-so_far.ensures

pub returns-clause-state_after : goal.returns-clause-state_after
returns-clause-state_after c = c.take.ensures.cells_after

pub returns-clause-bytes : goal.returns-clause-bytes
returns-clause-bytes c = search all_bytes
