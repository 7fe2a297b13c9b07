-- Nothing where the memory is short, else the counts, the MAC, and zeros behind the rows.
use Rattle.words.proofs.InPlace.{kept_short, end_stored}
use Rattle.words.specs.InPlace.{finished}
use Rattle.words.proofs.put.finish.Goals as goal

pub returns-then-memory-lt-TABLE_WORDS : goal.returns-then-memory-lt-TABLE_WORDS
unfolding finished
returns-then-memory-lt-TABLE_WORDS c = kept_short _ _ c.if-memory-lt-TABLE_WORDS.true

pub returns : goal.returns
returns c =
    end_stored _ _ _ _ _ _ c.if-memory-lt-TABLE_WORDS.false
    c.min-safes.ensures c.min-bags.ensures c.min-attributes.ensures
    c.count_words.ensures c.mac.ensures c.zeros.ensures c.zeros-2.ensures c.zeros-3.ensures
