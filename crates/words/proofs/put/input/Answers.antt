-- Nothing where the memory is short, else the range.
use Rattle.words.proofs.InPlace.{kept_short, part_stored}
use Rattle.words.specs.InPlace.{input_stored}
use Rattle.words.proofs.put.input.Goals as goal

pub returns-then-memory-lt-TABLE_WORDS : goal.returns-then-memory-lt-TABLE_WORDS
unfolding input_stored
returns-then-memory-lt-TABLE_WORDS c = kept_short _ _ c.if-memory-lt-TABLE_WORDS.true

pub returns : goal.returns
unfolding input_stored
returns c = part_stored c.if-memory-lt-TABLE_WORDS.false c.range.ensures
