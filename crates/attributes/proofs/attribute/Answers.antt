-- The calls are made one by one; where every further call returns the same, the rest are left out.
use Rattle.std.proofs.Common.{◌∙◌, ◌≡◌, ◌+◌, ◌-◌, suc, ap, arith}
use Rattle.attributes.specs.Report.{item_report}
use Rattle.attributes.proofs.Runs.{calling_start, calling_stops, calling_on, calling_ends, first_call}
use Rattle.attributes.proofs.attribute.Goals as goal

pub loop-init : goal.loop-init
loop-init c = calling_start _ _ _ _ (omega arith) c.next-position.ensures.value

pub returns-then-is_last-clause-value : goal.returns-then-is_last-clause-value
returns-then-is_last-clause-value c =
    calling_stops _ _ _ _ c.loop.invariant _ c.is_last.ensures c.if-is_last.true
    ∙ first_call _ _ _ (rw c.opening.ensures.value at c.next-position.ensures.value)

pub returns-then-is_last-clause-report : goal.returns-then-is_last-clause-report
returns-then-is_last-clause-report c = ap item_report (returns-then-is_last-clause-value c)

pub loop-preserved : goal.loop-preserved
loop-preserved c =
    let one : c.args.i - c.loop.counter ≡ suc (c.args.i - (c.loop.counter + 1)) = omega arith in
    calling_on _ _ _ _ c.loop.invariant _ _ one c.next-position-in-loop.ensures.value

pub returns-clause-value : goal.returns-clause-value
returns-clause-value c =
    calling_ends _ _ _ _ c.loop.invariant (omega arith)
    ∙ first_call _ _ _ (rw c.opening.ensures.value at c.next-position.ensures.value)

pub returns-clause-report : goal.returns-clause-report
returns-clause-report c = ap item_report (returns-clause-value c)
