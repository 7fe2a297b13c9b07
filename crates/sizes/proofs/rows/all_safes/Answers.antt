-- The loop adds the sizes of the safes that it sees.
use mathlib.Core.Path.{◌≡◌}
use native.Mathlib.Omega.{arith}
use Rattle.sizes.proofs.MeasuresSafes.{safes_starts, safes_ends, safes_nots, safes_goes}
use Rattle.sizes.proofs.rows.all_safes.Goals as goal

pub loop-k-init : goal.loop-k-init
loop-k-init c = safes_starts _ _ _ c.min-end.ensures

pub returns-in_default : goal.returns-in_default
returns-in_default c =
    safes_nots _ _ _ _ _ c.loop-k.invariant c.loop-k-test.true _ c.safe.ensures _
    c.in_default.is c.all.ensures

pub loop-k-preserved : goal.loop-k-preserved
loop-k-preserved c =
    safes_goes _ _ _ _ _ c.loop-k.invariant c.loop-k-test.true _ c.safe.ensures _ _
    c.in-Some.is c.joined-taken.ensures

pub returns : goal.returns
returns c =
    let last : c.min-end.result ≡ c.loop-k.k = omega arith in
    safes_ends _ _ _ _ _ c.loop-k.invariant _ c.loop-k-test.false (rw last at c.all-2.ensures)
