-- The parts one behind another.
use Rattle.buffer.specs.Text.{ascii}
use Rattle.listing.specs.Lines.{safe_line}
use Rattle.buffer.proofs.Wrote.{◌then◌}
use Rattle.listing.proofs.lines.safe_line.Goals as goal

pub returns : goal.returns
unfolding ascii safe_line
returns c =
    c.number.ensures then c.safe_kind.ensures then c.bytes.ensures
