-- One byte is stored behind another.
use Rattle.buffer.proofs.Writes.{storing_start, storing_turn, storing_end}
use Rattle.buffer.proofs.write.store.Goals as goal

pub loop-i-init : goal.loop-i-init
loop-i-init c = search storing_start

pub loop-i-preserved : goal.loop-i-preserved
loop-i-preserved c = search storing_turn

pub returns : goal.returns
returns c = search storing_end
