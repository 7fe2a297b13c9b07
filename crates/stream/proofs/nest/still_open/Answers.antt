-- The elements that do not end at p: the innermost one is looked at first.
use mathlib.Core.Path.{◌≡◌, refl, ◌∙◌}
use Prim.Native.Nat.{◌+◌, ◌-◌}
use native.Mathlib.Omega.{arith}
use Rattle.stream.proofs.Rules.{still_stop, still_turn, still_end}
use Rattle.stream.proofs.nest.still_open.Goals as goal

pub loop-i-init : goal.loop-i-init
loop-i-init c = refl

pub returns-then-p-end_at : goal.returns-then-p-end_at
returns-then-p-end_at c =
    let here : c.loop-i.i - 1 + 1 ≡ c.loop-i.i = omega arith in
    here ∙ (still_stop _ _ _ c.loop-i-test.true (omega (arith, c.end_at.ensures)) ∙ c.loop-i.invariant)

pub loop-i-preserved : goal.loop-i-preserved
loop-i-preserved c =
    still_turn _ _ _ c.loop-i-test.true (omega (arith, c.end_at.ensures)) ∙ c.loop-i.invariant

pub returns : goal.returns
returns c =
    let none : 0 ≡ c.loop-i.i = omega arith in
    none ∙ (still_end _ _ _ (omega arith) ∙ c.loop-i.invariant)
