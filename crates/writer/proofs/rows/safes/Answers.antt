-- The loop writes the safes that it sees.
use Rattle.writer.proofs.RowingSafes.{safes_begin, safes_done, safes_no_safe, safes_one_more}
use Rattle.writer.proofs.rows.safes.Goals as goal

pub loop-k-init : goal.loop-k-init
loop-k-init c = safes_begin _ _ _ _ c.min-end.ensures

pub returns-then-is_empty_safe : goal.returns-then-is_empty_safe
returns-then-is_empty_safe c =
    safes_no_safe _ _ _ _ _ _ _ c.loop-k.invariant c.loop-k-test.true _ c.is_empty_safe.ensures
    c.if-is_empty_safe.true

pub loop-k-preserved : goal.loop-k-preserved
loop-k-preserved c =
    safes_one_more _ _ _ _ _ _ _ c.loop-k.invariant c.loop-k-test.true _ c.is_empty_safe.ensures _ _
    c.if-is_empty_safe.false c.safe-so_far.ensures

pub returns : goal.returns
returns c = safes_done _ _ _ _ _ _ _ c.loop-k.invariant c.loop-k-test.false
