-- The parts one behind another.
use Rattle.buffer.specs.Text.{ascii}
use Rattle.listing.specs.Lines.{bag_line}
use Rattle.buffer.proofs.Wrote.{◌then◌}
use Rattle.listing.proofs.lines.bag_line.Goals as goal

pub returns : goal.returns
unfolding ascii bag_line
returns c =
    c.bag_start.ensures then c.bag_parts.ensures then c.bag_set.ensures then c.bytes.ensures
