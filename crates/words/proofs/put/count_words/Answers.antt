-- The counts one behind another.
use Rattle.words.proofs.Stores.{word_then, word_last}
use native.Mathlib.Omega.{arith}
use Rattle.words.proofs.put.count_words.Goals as goal

pub returns : goal.returns
returns c =
    word_then c.count.ensures c.word.ensures
    (word_then c.count-2.ensures c.word-2.ensures
    (word_then c.count-3.ensures c.word-3.ensures
    (word_last c.count-4.ensures c.word-4.ensures)
    (omega arith)) (omega arith)) (omega arith)
