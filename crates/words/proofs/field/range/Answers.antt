-- The words one behind another.
use Rattle.words.proofs.Stores.{stored_then}
use native.Mathlib.Omega.{arith}
use Rattle.words.proofs.field.range.Goals as goal

pub returns : goal.returns
returns c =
    stored_then c.word.ensures c.word-2.ensures (omega arith)
