-- By whether the bag has a set.
use Rattle.buffer.specs.Text.{ascii}
use Rattle.listing.specs.Lines.{set_text}
use Rattle.listing.proofs.lines.bag_set.Goals as goal

pub returns-then-has_set : goal.returns-then-has_set
unfolding ascii set_text
returns-then-has_set c = rw c.if-has_set.true c.number.ensures

pub returns-else-has_set : goal.returns-else-has_set
unfolding ascii set_text
returns-else-has_set c = rw c.if-has_set.false c.bytes.ensures
