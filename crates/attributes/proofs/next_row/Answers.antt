-- The loop looks for the next row that names the bag (First).
use Rattle.std.proofs.Common.{arith, ◌∙◌, ◌≡◌}
use Rattle.attributes.proofs.First.{at_most, next_start, next_found, next_on, next_end}
use Rattle.attributes.proofs.next_row.Goals as goal

pub loop-i-init : goal.loop-i-init
loop-i-init c = (
  next_start c.args.p _ _ (omega arith) c.fewer-end.ensures,
  at_most _ _ _ c.fewer-end.ensures,
  omega arith,
)

pub returns-then-p-i : goal.returns-then-p-i
returns-then-p-i c =
    next_found c.args.p _ _ _ c.loop-i.invariant.0 c.loop-i-test.true c.if-p-i.true

pub loop-i-preserved : goal.loop-i-preserved
loop-i-preserved c = (
  next_on c.args.p _ _ _ c.loop-i.invariant.0 c.loop-i-test.true c.if-p-i.false,
  c.loop-i.invariant.1,
  omega arith,
)

pub returns : goal.returns
returns c =
    let last : c.max.result ≡ c.loop-i.i = omega arith in
    last ∙ next_end c.args.p _ _ c.loop-i.invariant.0 c.loop-i-test.false
