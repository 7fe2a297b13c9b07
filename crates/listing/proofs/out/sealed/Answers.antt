-- Three ranges.
use Rattle.buffer.specs.Text.{ascii}
use Rattle.listing.specs.Lines.{sealed_text}
use Rattle.buffer.proofs.Wrote.{◌then◌}
use Rattle.listing.proofs.out.sealed.Goals as goal

pub returns : goal.returns
unfolding ascii sealed_text
returns c =
    c.range.ensures then c.range-2.ensures then c.range-3.ensures
