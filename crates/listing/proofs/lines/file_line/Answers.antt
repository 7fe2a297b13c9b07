-- The parts one behind another.
use Rattle.buffer.specs.Text.{ascii}
use Rattle.listing.specs.Lines.{file_line}
use Rattle.buffer.proofs.Wrote.{◌then◌}
use Rattle.listing.proofs.lines.file_line.Goals as goal

pub returns : goal.returns
unfolding ascii file_line
returns c =
    c.number.ensures then c.number-2.ensures then c.bytes.ensures
