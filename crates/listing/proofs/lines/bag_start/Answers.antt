-- The parts one behind another.
use Rattle.buffer.specs.Text.{ascii}
use Rattle.listing.specs.Lines.{bag_start}
use Rattle.buffer.proofs.Wrote.{◌then◌}
use Rattle.listing.proofs.lines.bag_start.Goals as goal

pub returns : goal.returns
unfolding ascii bag_start
returns c =
    c.number.ensures then c.bag_kind.ensures then c.number-2.ensures then c.enclosing.ensures
