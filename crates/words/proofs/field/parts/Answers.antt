-- The ranges one behind another.
use Rattle.words.proofs.Stores.{stored_then}
use native.Mathlib.Omega.{arith}
use Rattle.words.proofs.field.parts.Goals as goal

pub returns : goal.returns
returns c =
    stored_then c.range.ensures (stored_then c.range-2.ensures c.range-3.ensures (omega arith)) (omega arith)
