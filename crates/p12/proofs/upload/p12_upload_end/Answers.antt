-- What `cells` answered.
use Rattle.p12.proofs.Uploads.{end_gives}
use Rattle.p12.proofs.upload.p12_upload_end.Goals as goal

pub returns-clause-value : goal.returns-clause-value
returns-clause-value c = (end_gives _ _ _ c.end.ensures.value c.end_reported-answer.ensures).0

pub returns-clause-offset_after : goal.returns-clause-offset_after
returns-clause-offset_after c = (end_gives _ _ _ c.end.ensures.value c.end_reported-answer.ensures).1.0

pub returns-clause-after_after : goal.returns-clause-after_after
returns-clause-after_after c = (end_gives _ _ _ c.end.ensures.value c.end_reported-answer.ensures).1.1.0

pub returns-clause-elements_after : goal.returns-clause-elements_after
returns-clause-elements_after c = (end_gives _ _ _ c.end.ensures.value c.end_reported-answer.ensures).1.1.1.0

pub returns-clause-level_after : goal.returns-clause-level_after
returns-clause-level_after c = (end_gives _ _ _ c.end.ensures.value c.end_reported-answer.ensures).1.1.1.1
