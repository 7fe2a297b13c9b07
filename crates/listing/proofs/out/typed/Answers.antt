-- Two ranges.
use Rattle.buffer.specs.Text.{ascii}
use Rattle.listing.specs.Lines.{typed_text}
use Rattle.buffer.proofs.Wrote.{◌then◌}
use Rattle.listing.proofs.out.typed.Goals as goal

pub returns : goal.returns
unfolding ascii typed_text
returns c = c.range.ensures then c.range-2.ensures
