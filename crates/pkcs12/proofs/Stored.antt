-- A row that is stored behind the others, in an array that is longer.
use mathlib.Core.Path.{◌≡◌, refl, sym, ap, ◌∙◌}
use mathlib.Core.List.{List, [], ◌∷◌, ◌++◌, append_assoc}
use Prim.Native.Nat.{ℕ, suc, ◌-◌, ◌<◌}
use native.Mathlib.Omega.{arith}
use lib.ListN.{length, set, replicate, length-append}
use Rattle.pkcs12.specs.Table.{padded}

set_behind : {A : Type 0} (xs ys : List A) (y r : A) → set (xs ++ (y ∷ ys)) (length xs) r ≡ xs ++ (r ∷ ys)
set_behind [] ys y r = refl
set_behind (x ∷ xs) ys y r = ap (λ l. x ∷ l) (set_behind xs ys y r)

pub stored : {A : Type 0} (n : ℕ) (none : A) (xs : List A) (r : A) → length xs < n → set (padded n none xs) (length xs) r ≡ padded n none (xs ++ (r ∷ []))
stored n none xs r h =
    let left : n - length xs ≡ suc (n - length (xs ++ (r ∷ []))) = omega (arith, length-append xs (r ∷ [])) in
    rw left (set_behind xs (replicate (n - length (xs ++ (r ∷ []))) none) none r) ∙ sym (append_assoc xs (r ∷ []) _)
