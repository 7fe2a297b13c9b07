-- The kind before the parts.
use Rattle.words.proofs.Stores.{word_then}
use native.Mathlib.Omega.{arith}
use Rattle.words.proofs.stored.SafeRowStored.put.Goals as goal

pub returns : goal.returns
returns c = word_then c.safe.ensures c.word.ensures c.parts.ensures (omega arith)
