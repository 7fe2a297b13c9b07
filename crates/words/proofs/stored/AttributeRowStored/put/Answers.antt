-- The bag before the ranges.
use Rattle.words.proofs.Stores.{stored_then}
use native.Mathlib.Omega.{arith}
use Rattle.words.proofs.stored.AttributeRowStored.put.Goals as goal

pub returns : goal.returns
returns c =
    stored_then c.word.ensures (stored_then c.range.ensures c.range-2.ensures (omega arith)) (omega arith)
