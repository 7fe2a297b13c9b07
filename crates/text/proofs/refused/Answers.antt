-- The parts one behind another.
use Rattle.buffer.specs.Text.{ascii}
use Rattle.text.specs.Text.{refused_line}
use Rattle.buffer.proofs.Wrote.{◌then◌}
use Rattle.text.proofs.refused.Goals as goal

pub returns : goal.returns
unfolding ascii refused_line
returns c = c.number.ensures then c.number-2.ensures then c.bytes.ensures
