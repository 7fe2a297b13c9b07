-- The parts, the salt, and the two halves.
use Rattle.words.proofs.Stores.{stored_then}
use native.Mathlib.Omega.{arith}
use Rattle.words.proofs.put.mac.Goals as goal

pub returns : goal.returns
returns c =
    stored_then c.parts.ensures
    (stored_then c.range.ensures (stored_then c.word.ensures c.word-2.ensures (omega arith)) (omega arith))
    (omega arith)
