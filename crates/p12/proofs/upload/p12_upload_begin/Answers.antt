-- What `cells` answered and stored.
use Rattle.p12.proofs.Uploads.{status_number}
use Rattle.p12.proofs.upload.p12_upload_begin.Goals as goal

pub returns-clause-value : goal.returns-clause-value
returns-clause-value c = status_number _ _ _ c.begin-status.ensures.value c.status_reported.ensures

pub returns-clause-state_after : goal.returns-clause-state_after
returns-clause-state_after c = c.begin-status.ensures.cells_after
