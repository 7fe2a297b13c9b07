-- One more than the number of the enclosing bag, as a count.
use Rattle.words.proofs.number.enclosing.Goals as goal

pub returns-in-Some : goal.returns-in-Some
returns-in-Some c = cc
