-- A portion of one byte is a step, and the steps come to what one portion of all the bytes does.
use Rattle.stream.proofs.Taken.{Taking}
use Rattle.upload.proofs.one_by_one.Given as goal

abbrev pub invariant-loop-b : goal.invariant-loop-b
invariant-loop-b l = Taking l.bytes l.initial.upload l.upload l.b-index
