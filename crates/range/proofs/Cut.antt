-- The part of the bytes that a range names, as the code takes it and as definitions name it.
use mathlib.Core.Path.{◌≡◌, refl, sym, ap, ◌∙◌}
use mathlib.Core.List.{List, [], ◌∷◌}
use mathlib.Core.Logic.{◌⊎◌, inl, inr}
use Prim.Native.Nat.{ℕ, zero, suc, ◌+◌, ◌-◌, ◌≤◌, ◌<◌, min}
use native.Mathlib.Omega.{arith}
use native.Mathlib.Numerals.{unary_clauses}
use lib.ListN.{length, take, drop, length-take, drop_of_length-le}
use lib.Seq.{slice, take_all, take-take}
use denote.Bor.{Bor}
use Rattle.std.specs.Prelude.{Option, Some, None}
use Rattle.std.specs.Option.{MatchOption, unwrap_or}
use Rattle.der.proofs.Choices.{either}

take_none : {A : Type 0} (n : ℕ) → take {A = A} n [] ≡ []
take_none zero = refl
take_none (suc n) = refl

-- a part of a slice as the code takes it, and as definitions name it
pub part_slice : {A : Type 0} (a e : ℕ) (l : List A) → take (e - a) (drop a l) ≡ slice a e l
part_slice zero e l = simp unary_clauses
part_slice (suc a) zero l = let z : 0 - suc a ≡ 0 = omega arith in rw z
part_slice (suc a) (suc e) [] = take_none (suc e - suc a)
part_slice (suc a) (suc e) (x ∷ l) = simp unary_clauses (part_slice a e l)

-- ---- of a range a..e over bytes l, as the code cuts it

module _ (l : List ℕ) (a e : ℕ) where
  pub cut_backward : e ≤ a → [] ≡ slice a e l
  cut_backward h = sym (drop_of_length-le (take e l) {i = a} (simp length-take (omega arith)))

  -- both ends cut: at the end of the bytes, and at the end of the range
  pub cut_part : (t f : ℕ) → t ≡ min e (length l) → f ≡ min a t → take (t - f) (drop f l) ≡ slice a e l
  cut_part t f p q =
      part_slice f t l ∙ either a t
      (λ h. let z : f ≡ a = omega (arith, q, h) in rw (z, front) refl)
      (λ h. drop_of_length-le (take t l) {i = f} (simp length-take (omega (arith, q, h))) ∙ sym (drop_of_length-le (take e l) {i = a} (simp length-take (omega (arith, p, h)))))
    where
      front : take t l ≡ take e l
      front =
          either e (length l)
          (λ h. let z : t ≡ e = omega (arith, p, h) in rw z refl)
          (λ h. take_all t l (omega (arith, p, h)) ∙ sym (take_all e l h))

-- ---- as the code cuts it: the bytes before the end, where so many are there, and else all of them;
-- ---- of these the bytes from the start on

module _ (l : List ℕ) (e : ℕ) where
  abbrev pub Before : Option (Bor (List ℕ)) → Type 0
  Before o =
      MatchOption o ((e < 0) ⊎ (length l < e))
      (λ x. (0 ≤ e) × (e ≤ length l) × (x.now ≡ take (e - 0) (drop 0 l)) × (length x.now + 0 ≡ e))

  pub cut_before : (o : Option (Bor (List ℕ))) → Before o → (d r : Bor (List ℕ)) → r ≡ unwrap_or o d → d.now ≡ l
      → r.now ≡ take e l
  cut_before (Some x) b d r p q = ap (λ (y : Bor (List ℕ)). y.now) p ∙ b.2 ∙ part_slice 0 e l
  cut_before None b d r p q = ap (λ (y : Bor (List ℕ)). y.now) p ∙ q ∙ sym (take_all e l (short b))
    where
      short : (e < 0) ⊎ (length l < e) → length l ≤ e
      short (inl h) = omega (arith, h)
      short (inr h) = omega (arith, h)

  pub cut_from : (a : ℕ) (m : List ℕ) → m ≡ take e l → (f : ℕ) → f ≡ min a (length m)
      → take (length m - f) (drop f m) ≡ slice a e l
  cut_from a m p f q =
      cut_part m a e (length m) f (omega (arith, size)) q ∙ ap (drop a) (ap (take e) p ∙ take-take e e l (omega arith))
    where
      size : length m ≡ min e (length l)
      size = ap length p ∙ length-take e l
