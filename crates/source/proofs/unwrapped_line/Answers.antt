-- The parts one behind another.
use Rattle.buffer.specs.Text.{ascii}
use Rattle.buffer.proofs.Wrote.{◌then◌}
use Rattle.source.specs.Source.{unwrapped_line}
use Rattle.source.proofs.unwrapped_line.Goals as goal

pub returns : goal.returns
unfolding ascii unwrapped_line
returns c = c.number.ensures then c.bytes.ensures
