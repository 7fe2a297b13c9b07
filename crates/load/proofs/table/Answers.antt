-- Each part at its offset.
use Rattle.load.proofs.Loading.{table_read}
use native.Mathlib.Omega.{arith}
use Rattle.load.proofs.table.Goals as goal

pub returns : goal.returns
returns c =
    table_read _ _ (omega (arith, c.word-safe_count.ensures)) (omega (arith, c.word-bag_count.ensures))
    (omega (arith, c.word-attribute_count.ensures)) (omega (arith, c.word.ensures)) c.rows.ensures c.rows-2.ensures
    c.rows-3.ensures c.mac.ensures c.range.ensures
