-- Two numbers.
use Rattle.buffer.specs.Text.{ascii}
use Rattle.listing.specs.Lines.{range_text}
use Rattle.buffer.proofs.Wrote.{◌then◌}
use Rattle.listing.proofs.out.range.Goals as goal

pub returns : goal.returns
unfolding ascii range_text
returns c = c.number.ensures then c.number-2.ensures
