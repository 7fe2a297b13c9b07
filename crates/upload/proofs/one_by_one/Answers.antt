-- A portion of one byte is a step.
use Rattle.stream.specs.Upload.{taken}
use Rattle.stream.proofs.Taken.{taking_start, taking_byte, taking_end}
use Rattle.upload.proofs.one_by_one.Goals as goal

pub loop-b-init : goal.loop-b-init
loop-b-init c = taking_start _ _

pub loop-b-preserved : goal.loop-b-preserved
unfolding taken
loop-b-preserved c = taking_byte _ _ _ _ _ c.loop-b.invariant c.loop-b-test.true c.take-upload.ensures.value

pub returns : goal.returns
returns c = taking_end _ _ _ _ c.loop-b.invariant c.loop-b-test.false
