-- Each word fits 16 bits, or does not.
use Prim.Native.Nat.{ℕ, ◌<◌}
use mathlib.Core.Path.{◌≡◌, refl}
use native.Mathlib.Omega.{arith}
use Rattle.range.specs.Range.{range, nowhere, word_range}
use Rattle.der.proofs.Choices.{at_lt, at_not_lt}
use Rattle.range.proofs.Range.of_words.Goals as goal

module _ (a b : ℕ) where
  first_past : (a < 65536 → ⊥) → nowhere ≡ word_range a b
  unfolding word_range
  first_past h = at_lt 65535 a _ _ _ (omega (arith, h)) refl

  second_past : a < 65536 → (b < 65536 → ⊥) → nowhere ≡ word_range a b
  unfolding word_range
  second_past g h = at_not_lt 65535 a _ _ _ (omega (arith, g)) (at_lt 65535 b _ _ _ (omega (arith, h)) refl)

  both_fit : (x y : ℕ) → (a < 65536) × (x ≡ a) → (b < 65536) × (y ≡ b) → range x y ≡ word_range a b
  unfolding word_range
  both_fit x y g h = at_not_lt 65535 a _ _ _ (omega (arith, g.0)) (at_not_lt 65535 b _ _ _ (omega (arith, h.0)) (rw (g.1, h.1) refl))

pub returns-in_default : goal.returns-in_default
returns-in_default c = first_past _ _ c.in_default.ensures

pub returns-in_default-try_from : goal.returns-in_default-try_from
returns-in_default-try_from c = second_past _ _ c.in-Ok.ensures.0 c.in_default-try_from.ensures

pub returns : goal.returns
returns c = both_fit _ _ _ _ c.in-Ok.ensures c.in-Ok-try_from.ensures
