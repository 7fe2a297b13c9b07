-- The parts one behind another.
use Rattle.buffer.specs.Text.{ascii}
use Rattle.listing.specs.Lines.{attribute_line}
use Rattle.buffer.proofs.Wrote.{◌then◌}
use Rattle.listing.proofs.lines.attribute_line.Goals as goal

pub returns : goal.returns
unfolding ascii attribute_line
returns c =
    c.number.ensures then c.number-2.ensures then c.range.ensures then c.range-2.ensures
    then c.bytes.ensures
