-- Rules by which `search` follows a definition's tests as the code's own tests decided them. Each
-- proves that an answer r is the value of a choice, from the fact that the code learnt and from
-- the value of the chosen side.
use mathlib.Core.Path.{◌≡◌, refl, sym, ◌∙◌, ap}
use mathlib.Core.Bool.{Bool, true, false, not}
use Prim.Native.Nat.{ℕ, ◌<◌, ◌≤◌}
use native.Mathlib.Omega.{arith}
use native.Mathlib.Decide.{dec_lt}
use lib.Dec.{leb, ltb, eqb}
use borrow.Author.Tests.{not-true, not-false, lt-ltb, le-ltb, le-leb, lt-leb, eq-eqb, ne_eqb}
use borrow.Author.Tests.{ltb-true, ltb-false, leb-true, leb-false, eqb-true, eqb-false}
use Rattle.std.specs.Prelude.{if◌then◌else◌}
use Rattle.der.specs.Element.{on_result}
use Rattle.der.specs.declared.Fault.{Fault}
use Rattle.std.specs.Prelude.{Err, IsErr, IsErrAnd, Ok, Result}

-- a bool is not both
pub never : {A : Type 0} → false ≡ true → A
never e = let z : ◌≡◌ {A = ℕ} 0 1 = cc in absurd (omega arith)

module _ {A : Type 0} where
  -- a test that is a bool: u is what the code learnt of it, its own value or a callee's answer
  pub told_true : (t u : Bool) (r x y : A) → u ≡ t → u ≡ true → r ≡ x → r ≡ (if t then x else y)
  told_true t u r x y p q e = rw (sym p ∙ q) e

  pub told_false : (t u : Bool) (r x y : A) → u ≡ t → u ≡ false → r ≡ y → r ≡ (if t then x else y)
  told_false t u r x y p q e = rw (sym p ∙ q) e

  -- the same where the code tests its opposite
  pub denied : (t u : Bool) (r x y : A) → u ≡ t → not u ≡ true → r ≡ y → r ≡ (if t then x else y)
  denied t u r x y p q e = rw (sym p ∙ not-true u q) e

  pub granted : (t u : Bool) (r x y : A) → u ≡ t → not u ≡ false → r ≡ x → r ≡ (if t then x else y)
  granted t u r x y p q e = rw (sym p ∙ not-false u q) e

  pub at_lt : (a b : ℕ) (r x y : A) → a < b → r ≡ x → r ≡ (if ltb a b then x else y)
  at_lt a b r x y h e = rw (lt-ltb a b h) e

  pub at_not_lt : (a b : ℕ) (r x y : A) → b ≤ a → r ≡ y → r ≡ (if ltb a b then x else y)
  at_not_lt a b r x y h e = rw (le-ltb a b h) e

  pub at_le : (a b : ℕ) (r x y : A) → a ≤ b → r ≡ x → r ≡ (if leb a b then x else y)
  at_le a b r x y h e = rw (le-leb a b h) e

  pub at_not_le : (a b : ℕ) (r x y : A) → b < a → r ≡ y → r ≡ (if leb a b then x else y)
  at_not_le a b r x y h e = rw (lt-leb a b h) e

  pub at_eq : (a b : ℕ) (r x y : A) → a ≡ b → r ≡ x → r ≡ (if eqb a b then x else y)
  at_eq a b r x y h e = rw (eq-eqb a b h) e

  pub at_ne : (a b : ℕ) (r x y : A) → (a ≡ b → ⊥) → r ≡ y → r ≡ (if eqb a b then x else y)
  at_ne a b r x y h e = rw (ne_eqb a b h) e

  pub same : (x : A) → x ≡ x
  same x = refl

  -- an answer of a callee, taken apart: v is what the definition names, w what the code matched on
  pub result_refused : {T : Type 0} (v w : Result T Fault) (f : Fault) (r : A) (bad : Fault → A) (good : T → A)
      → w ≡ v → w ≡ Err f → r ≡ bad f → r ≡ on_result v bad good
  result_refused v w f r bad good p q e = rw (sym p ∙ q) e

  pub result_found : {T : Type 0} (v w : Result T Fault) (x : T) (r : A) (bad : Fault → A) (good : T → A)
      → w ≡ v → w ≡ Ok x → r ≡ good x → r ≡ on_result v bad good
  result_found v w x r bad good p q e = rw (sym p ∙ q) e

-- what `?` returns for a refusal: the same one
pub handed : {A : Type 0} (r : Result A Fault) (f : Fault) → IsErr r × IsErrAnd r (λ g. g ≡ f) → r ≡ Err f
handed (Ok x) f h = never h.0
handed (Err g) f h = ap Err h.1

pub handed_as : {A : Type 0} (r : Result A Fault) (f : Fault) (x : Result A Fault) → Err f ≡ x → IsErr r × IsErrAnd r (λ g. g ≡ f) → r ≡ x
handed_as r f x e h = handed r f h ∙ e

-- what holds of either side of a choice, each with its fact, holds of the choice
module _ {A : Type 0} (P : A → Type 0) (x y : A) where
  pub by_test : (t : Bool) → (t ≡ true → P x) → (t ≡ false → P y) → P (if t then x else y)
  by_test true f g = f refl
  by_test false f g = g refl

  pub by_lt : (a b : ℕ) → (a < b → P x) → (b ≤ a → P y) → P (if ltb a b then x else y)
  by_lt a b f g = by_test (ltb a b) (λ h. f (ltb-true a b h)) (λ h. g (ltb-false a b h))

  pub by_le : (a b : ℕ) → (a ≤ b → P x) → (b < a → P y) → P (if leb a b then x else y)
  by_le a b f g = by_test (leb a b) (λ h. f (leb-true a b h)) (λ h. g (leb-false a b h))

  pub by_eq : (a b : ℕ) → (a ≡ b → P x) → ((a ≡ b → ⊥) → P y) → P (if eqb a b then x else y)
  by_eq a b f g = by_test (eqb a b) (λ h. f (eqb-true a b h)) (λ h. g (eqb-false a b h))

pub ruleset choices = (
  at_lt,
  at_not_lt,
  at_le,
  at_not_le,
  at_eq,
  at_ne,
  result_refused,
  result_found,
  same,
  handed,
)

-- a choice by an order that is known, and a proof by cases of an order
pub chosen_lt : {A : Type 0} (n m : ℕ) (x y : A) → n < m → (if ltb n m then x else y) ≡ x
chosen_lt n m x y h = rw (lt-ltb n m h)

pub chosen_le : {A : Type 0} (n m : ℕ) (x y : A) → m ≤ n → (if ltb n m then x else y) ≡ y
chosen_le n m x y h = rw (le-ltb n m h)

pub either : {A : Type 0} (n m : ℕ) → (n < m → A) → (m ≤ n → A) → A
either {A} n m f g = go (dec_lt n m)
  where
    go : Dec (n < m) → A
    go (yes h) = f h
    go (no h) = g (omega arith)
