-- The parts one behind another.
use Rattle.buffer.specs.Text.{ascii}
use Rattle.listing.specs.Lines.{counts_line}
use Rattle.buffer.proofs.Wrote.{◌then◌}
use Rattle.listing.proofs.lines.counts_line.Goals as goal

pub returns : goal.returns
unfolding ascii counts_line
returns c =
    c.number.ensures then c.number-2.ensures then c.number-3.ensures then c.bytes.ensures
