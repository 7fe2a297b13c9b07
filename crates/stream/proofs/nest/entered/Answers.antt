-- As the definition says.
use Rattle.der.proofs.Choices.{choices}
use Rattle.stream.specs.Upload.{entered}
use Rattle.stream.proofs.Rules.{entered_body, entered_open}
use Rattle.stream.proofs.nest.entered.Goals as goal

pub returns-then-depth-ge-UPLOAD_LEVELS : goal.returns-then-depth-ge-UPLOAD_LEVELS
unfolding entered
returns-then-depth-ge-UPLOAD_LEVELS c = search (choices, entered_body, entered_open) depth 14

pub returns-then-tag-eq0 : goal.returns-then-tag-eq0
unfolding entered
returns-then-tag-eq0 c = search (choices, entered_body, entered_open) depth 14

pub returns : goal.returns
unfolding entered
returns c = search (choices, entered_body, entered_open) depth 14
