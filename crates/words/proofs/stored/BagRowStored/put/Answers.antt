-- Its words one behind another.
use Rattle.words.proofs.Stores.{stored_then, word_then, word_last}
use mathlib.Core.Path.{refl}
use native.Mathlib.Omega.{arith}
use Rattle.words.proofs.stored.BagRowStored.put.Goals as goal

pub returns : goal.returns
returns c =
    word_then c.bag.ensures c.word.ensures
    (word_then refl c.word-2.ensures
    (word_then c.enclosing.ensures c.word-3.ensures
    (stored_then c.parts.ensures (word_last c.set.ensures c.word-4.ensures)
    (omega arith)) (omega arith)) (omega arith)) (omega arith)
