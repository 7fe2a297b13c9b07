-- The test of two strings of bytes is true if and only if they are the same.
use mathlib.Core.Bool.{Bool, true, false, ◌&&◌}
use mathlib.Core.Path.{◌≡◌, refl, ◌∙◌}
use mathlib.Core.List.{List, [], ◌∷◌}
use Prim.Native.Nat.{ℕ}
use lib.Dec.{eqb}
use lib.Pointwise.{pointwise}
use borrow.Author.Tests.{eq-eqb}
use Rattle.std.specs.Prelude.{if◌then◌else◌}
use Rattle.der.proofs.Choices.{never, by_eq}
use Rattle.range.specs.Bytes.{same_bytes}

pub same_self : (x : List ℕ) → same_bytes x x ≡ true
unfolding same_bytes
same_self [] = refl
same_self (a ∷ x) = rw (eq-eqb a a refl) (same_self x)

pub same_is : (x y : List ℕ) → same_bytes x y ≡ true → x ≡ y
unfolding same_bytes
same_is [] [] e = refl
same_is [] (b ∷ y) e = never e
same_is (a ∷ x) [] e = never e
same_is (a ∷ x) (b ∷ y) e =
    by_eq (λ u. u ≡ true → a ∷ x ≡ b ∷ y) _ _ a b
    (λ h q. let p = same_is x y q in cc)
    (λ h q. never q)
    e

same_pointwise : (x y : List ℕ) → pointwise eqb x y ≡ same_bytes x y
unfolding same_bytes
same_pointwise [] [] = refl
same_pointwise [] (b ∷ y) = refl
same_pointwise (a ∷ x) [] = refl
same_pointwise (a ∷ x) (b ∷ y) = go (eqb a b) (same_pointwise x y)
  where
    go : (u : Bool) → pointwise eqb x y ≡ same_bytes x y → (u && pointwise eqb x y) ≡ (if u then same_bytes x y else false)
    go true e = e
    go false e = refl

-- the library's test of two slices
pub same_told : (x y : List ℕ) (r : Bool) → r ≡ pointwise eqb x y → r ≡ same_bytes x y
same_told x y r e = e ∙ same_pointwise x y
