-- As the definition says.
use Rattle.der.proofs.Choices.{choices}
use Rattle.stream.specs.Upload.{begun}
use Rattle.stream.proofs.Upload.begin.Goals as goal

pub returns-then-length-gt-FILE_BYTES : goal.returns-then-length-gt-FILE_BYTES
unfolding begun
returns-then-length-gt-FILE_BYTES c = search choices depth 14

pub returns-then-length-eq0 : goal.returns-then-length-eq0
unfolding begun
returns-then-length-eq0 c = search choices depth 14

pub returns : goal.returns
unfolding begun
returns c = search choices depth 14
