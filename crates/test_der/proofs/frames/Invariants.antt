-- A frame ends behind where it begins.
use Rattle.std.proofs.Common.{◌-◌, length}
use Rattle.test_der.proofs.frames.Given as goal

abbrev pub decreases-loop-at : goal.decreases-loop-at
decreases-loop-at g l = length l.initial.s - l.at
