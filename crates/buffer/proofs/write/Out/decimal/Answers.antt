-- All digits of the number.
use Rattle.buffer.specs.Text.{decimal}
use Rattle.buffer.proofs.write.Out.decimal.Goals as goal

pub returns : goal.returns
unfolding decimal
returns c = c.digits.ensures
