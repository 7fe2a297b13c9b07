-- The rows behind the three lines.
use Rattle.listing.specs.Lines.{accepted_lines}
use Rattle.buffer.proofs.Wrote.{◌then◌}
use Rattle.listing.proofs.accepted.Goals as goal

pub returns : goal.returns
unfolding accepted_lines
returns c =
    c.head.ensures then c.safe_lines.ensures then c.bag_lines.ensures then c.attribute_lines.ensures
