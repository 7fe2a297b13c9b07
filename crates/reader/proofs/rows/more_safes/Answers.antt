-- Each turn of the loop is one of the walk, and each way out is the walk's.
use borrow.Author.Rules.{rules}
use Rattle.der.proofs.Choices.{handed}
use Rattle.reader.proofs.OneSafe.{safes_start, safes_end_lem, safe_stops, safe_on, safe_less}
use Rattle.reader.proofs.rows.more_safes.Goals as goal

pub loop-at-init : goal.loop-at-init
loop-at-init c = search safes_start

pub safe-requires : goal.safe-requires
safe-requires c = c.loop-at.invariant.ready

pub returns-in_err-one : goal.returns-in_err-one
returns-in_err-one c =
    safe_stops _ _ _ _ _ _ _ c.loop-at.invariant _ (search rules) _ c.loop-at-test.true c.safe.ensures _ _
    c.in_err-one.was (handed _ _ c.from_residual.ensures)

pub loop-at-smaller : goal.loop-at-smaller
loop-at-smaller c =
    safe_less _ _ _ _ _ _ _ c.loop-at.invariant _ (search rules) _ c.loop-at-test.true c.safe.ensures _
    c.in_ok-one.was

pub loop-at-preserved : goal.loop-at-preserved
loop-at-preserved c =
    safe_on _ _ _ _ _ _ _ c.loop-at.invariant _ (search rules) _ c.loop-at-test.true c.safe.ensures _
    c.in_ok-one.was

pub returns : goal.returns
returns c = safes_end_lem _ _ _ _ _ _ _ c.loop-at.invariant c.loop-at-test.false
