-- The parts one behind another.
use Rattle.buffer.specs.Text.{ascii}
use Rattle.listing.specs.Lines.{mac_line}
use Rattle.buffer.proofs.Wrote.{◌then◌}
use Rattle.listing.proofs.lines.mac_line.Goals as goal

pub returns : goal.returns
unfolding ascii mac_line
returns c =
    c.range.ensures then c.range-2.ensures then c.range-3.ensures then c.number.ensures then c.bytes.ensures
