-- By the enclosing bag.
use Rattle.buffer.specs.Text.{ascii}
use Rattle.listing.specs.Lines.{enclosing_text}
use Rattle.listing.proofs.lines.enclosing.Goals as goal

pub returns-in-None : goal.returns-in-None
unfolding ascii enclosing_text
returns-in-None c = rw c.in-None.is c.bytes.ensures

pub returns-in-Some : goal.returns-in-Some
unfolding ascii enclosing_text
returns-in-Some c = rw c.in-Some.is c.number.ensures
