-- What `cells` answered.
use Rattle.p12.proofs.Uploads.{status_gives}
use Rattle.p12.proofs.upload.p12_upload_status.Goals as goal

pub returns-clause-value : goal.returns-clause-value
returns-clause-value c = (status_gives _ _ _ c.status.ensures.value c.status_reported-reported.ensures).0

pub returns-clause-offset_after : goal.returns-clause-offset_after
returns-clause-offset_after c = (status_gives _ _ _ c.status.ensures.value c.status_reported-reported.ensures).1.0

pub returns-clause-after_after : goal.returns-clause-after_after
returns-clause-after_after c = (status_gives _ _ _ c.status.ensures.value c.status_reported-reported.ensures).1.1
