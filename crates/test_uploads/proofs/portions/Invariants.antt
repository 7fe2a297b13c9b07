-- The loop over portions ends: each leaves fewer bytes.
use Rattle.std.proofs.Common.{◌-◌, length}
use Rattle.test_uploads.proofs.portions.Given as goal

abbrev pub decreases-loop-at : goal.decreases-loop-at
decreases-loop-at g l = length l.initial.s - l.at
