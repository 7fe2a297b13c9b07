-- The parts one behind another.
use Rattle.buffer.specs.Text.{ascii}
use Rattle.buffer.proofs.Wrote.{◌then◌}
use Rattle.pair_lines.specs.Lines.{pair_line}
use Rattle.pair_lines.proofs.pair_line.Goals as goal

pub returns : goal.returns
unfolding ascii pair_line
returns c =
    c.number.ensures then c.answer_text.ensures then c.bytes.ensures
