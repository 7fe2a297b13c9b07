-- None where there is no number below it.
use mathlib.Core.Path.{◌≡◌, refl, ap}
use Prim.Native.Nat.{ℕ, ◌-◌, ◌≤◌}
use native.Mathlib.Omega.{arith}
use lib.Dec.{eqb}
use Rattle.std.specs.Prelude.{if◌then◌else◌, None, Option, Some, SomeIff}
use Rattle.der.proofs.Choices.{at_eq, at_ne, either}
use Rattle.load.specs.Loaded.{enclosing_of}
use Rattle.load.proofs.get.enclosing_of.Goals as goal

one_less : (w : ℕ) (r : Option ℕ) → SomeIff r (1 ≤ w) (w - 1) → r ≡ (if eqb w 0 then None else Some (w - 1))
one_less w None h = at_eq w 0 _ _ _ (either w 1 (λ k. omega (arith, k)) (λ k. absurd (h k))) refl
one_less w (Some x) h = at_ne w 0 _ _ _ (λ e. omega (arith, e, h.0)) (ap Some h.1)

pub returns : goal.returns
unfolding enclosing_of
returns c = one_less _ _ c.checked_sub.ensures
