-- What an answer and the memory say of the walk.
use mathlib.Core.Path.{◌≡◌, sym, ap, subst, ◌∙◌}
use mathlib.Core.List.{List}
use Prim.Native.Nat.{ℕ}
use native.Mathlib.Omega.{arith}
use Rattle.der.specs.Element.{on_result}
use Rattle.der.specs.declared.Fault.{Fault}
use Rattle.pkcs12.specs.Walk.{Walked, Refused, Went}
use Rattle.std.specs.Prelude.{Err, Ok, Result}
use Rattle.load.specs.Holds.{Holds, rows_at}
use Rattle.reader.specs.Memory.{Shown}
use Rattle.reader.specs.declared.rows.Progress.{Progress}

module _ {A : Type 0} where
  -- no answer is both
  pub not_both : (r : Result A Fault) (f : Fault) (y : A) → r ≡ Err f → r ≡ Ok y → ⊥
  not_both r f y p q =
      let z : ◌≡◌ {A = ℕ} 0 1 = ap (λ (x : Result A Fault). on_result x (λ g. 0) (λ v. 1)) (sym p ∙ q) in
      omega (arith, z)

  -- two values of one answer are the same
  pub same_value : (x y : A) → ◌≡◌ {A = Result A Fault} (Ok x) (Ok y) → x ≡ y
  same_value x y e = ap (λ (r : Result A Fault). on_result r (λ g. x) (λ v. v)) e

module _ (m : List ℕ) (x : Walked) where
  module _ (r : Result Progress Fault) where
    pub shown_refused : (f : Fault) → x ≡ Refused f → r ≡ Err f → Shown m r x
    shown_refused f e i = record { walk = e ∙ rw i; held = λ y h. absurd (not_both r f y i h) }

    pub walk_went : (y : Progress) → Shown m r x → r ≡ Ok y → x ≡ Went (rows_at m y.counts) y.next
    walk_went y t a = t.walk ∙ rw a

    pub walk_refused : (f : Fault) → Shown m r x → r ≡ Err f → x ≡ Refused f
    walk_refused f t a = t.walk ∙ rw a

  pub shown_went : (y : Progress) → Holds m (rows_at m y.counts) → x ≡ Went (rows_at m y.counts) y.next
      → Shown m (Ok y) x
  shown_went y h e =
      record {
        walk = e;
        held = λ z q. subst (λ (v : Progress). Holds m (rows_at m v.counts)) (same_value y z q) h;
      }
