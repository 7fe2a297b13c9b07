-- Nothing where the memory is short, else zeros.
use Rattle.words.proofs.InPlace.{kept_short, part_stored}
use Rattle.words.specs.InPlace.{cleared}
use Rattle.words.proofs.put.clear.Goals as goal

pub returns-then-memory-lt-TABLE_WORDS : goal.returns-then-memory-lt-TABLE_WORDS
unfolding cleared
returns-then-memory-lt-TABLE_WORDS c = kept_short _ _ c.if-memory-lt-TABLE_WORDS.true

pub returns : goal.returns
unfolding cleared
returns c = part_stored c.if-memory-lt-TABLE_WORDS.false c.zeros.ensures
