-- Parts that are stored in any order at offsets where they don't meet, and the whole of a table.
use mathlib.Core.Path.{◌≡◌, refl, sym, ap, ◌∙◌}
use mathlib.Core.List.{List, [], ◌∷◌, ◌++◌}
use Prim.Native.Nat.{ℕ, suc, ◌+◌, ◌≤◌, ◌<◌}
use native.Mathlib.Omega.{arith}
use lib.ListN.{length, set, length-append}
use lib.Seq.{sets, set_comm}
use Rattle.buffer.proofs.Placing.{sets_then}

set_apart : (x m : List ℕ) (q p w : ℕ) → p < q → set (sets m q x) p w ≡ sets (set m p w) q x
set_apart [] m q p w h = refl
set_apart (a ∷ x) m q p w h =
    set_apart x (set m q a) (suc q) p w (omega (arith, h))
    ∙ ap (λ (l : List ℕ). sets l (suc q) x) (set_comm m q p a w (λ e. omega (arith, e, h)))

-- y is stored before x: then it might have been stored first
pub sets_apart : (y x m : List ℕ) (q p : ℕ) → p + length y ≤ q → sets (sets m q x) p y ≡ sets (sets m p y) q x
sets_apart [] x m q p h = refl
sets_apart (w ∷ y) x m q p h =
    ap (λ (l : List ℕ). sets l (suc p) y) (set_apart x m q p w (omega (arith, h)))
    ∙ sets_apart y x (set m p w) q (suc p) (omega (arith, h))

-- y is stored right behind x
joined : (x y m : List ℕ) (p q : ℕ) → q ≡ p + length x → sets (sets m p x) q y ≡ sets m p (x ++ y)
joined x y m p q e = rw e (sym (sets_then x y m p))

-- x is grown by y, which is stored before z
grown : (x y z m : List ℕ) (p q r : ℕ) → q ≡ p + length x → q + length y ≤ r
    → sets (sets (sets m p x) r z) q y ≡ sets (sets m p (x ++ y)) r z
grown x y z m p q r e h =
    sets_apart y z (sets m p x) r q h ∙ ap (λ (l : List ℕ). sets l r z) (joined x y m p q e)

-- Of a head c ++ (i ++ x) the part i is stored first, then the rows s, b and a, then the other
-- parts of the head, and at last zeros y, z and v behind the rows.
module _ (m c i x s y b z a v : List ℕ) (i₀ x₀ s₀ y₀ b₀ z₀ a₀ v₀ : ℕ) (ei : i₀ ≡ length c) (ex : x₀ ≡ i₀ + length i)
    (es : s₀ ≡ x₀ + length x) (ey : y₀ ≡ s₀ + length s) (eb : b₀ ≡ y₀ + length y) (ez : z₀ ≡ b₀ + length b)
    (ea : a₀ ≡ z₀ + length z) (ev : v₀ ≡ a₀ + length a) where
  abbrev rows : List ℕ → List ℕ
  rows l = sets (sets (sets l s₀ s) b₀ b) a₀ a

  -- what is before the rows is stored first
  under : (w l : List ℕ) (p : ℕ) → p + length w ≤ s₀ → sets (rows l) p w ≡ rows (sets l p w)
  under w l p h =
      sets_apart w a (sets (sets l s₀ s) b₀ b) a₀ p (omega (arith, h, ey, eb, ez, ea))
      ∙ ap (λ (k : List ℕ). sets k a₀ a) (sets_apart w b (sets l s₀ s) b₀ p (omega (arith, h, ey, eb))
      ∙ ap (λ (k : List ℕ). sets k b₀ b) (sets_apart w s l s₀ p h))

  head : sets (sets (sets m i₀ i) 0 c) x₀ x ≡ sets m 0 (c ++ (i ++ x))
  head =
      ap (λ (k : List ℕ). sets k x₀ x) (sets_apart c i m i₀ 0 (omega (arith, ei)))
      ∙ joined i x (sets m 0 c) i₀ x₀ ex
      ∙ joined c (i ++ x) m 0 i₀ (omega (arith, ei))

  head_first : sets (sets (rows (sets m i₀ i)) 0 c) x₀ x ≡ rows (sets m 0 (c ++ (i ++ x)))
  head_first =
      ap (λ (k : List ℕ). sets k x₀ x) (under c (sets m i₀ i) 0 (omega (arith, ei, ex, es)))
      ∙ under x (sets (sets m i₀ i) 0 c) x₀ (omega (arith, es))
      ∙ ap rows head

  -- zeros behind the rows of each kind
  filled : (l : List ℕ) → sets (sets (sets (rows l) y₀ y) z₀ z) v₀ v
      ≡ sets (sets (sets l s₀ (s ++ y)) b₀ (b ++ z)) a₀ (a ++ v)
  filled l =
      ap (λ (k : List ℕ). sets (sets k z₀ z) v₀ v)
      (sets_apart y a (sets (sets l s₀ s) b₀ b) a₀ y₀ (omega (arith, eb, ez, ea))
      ∙ ap (λ (k : List ℕ). sets k a₀ a) (grown s y b l s₀ y₀ b₀ ey (omega (arith, eb))))
      ∙ ap (λ (k : List ℕ). sets k v₀ v) (grown b z a (sets l s₀ (s ++ y)) b₀ z₀ a₀ ez (omega (arith, ea)))
      ∙ joined a v (sets (sets l s₀ (s ++ y)) b₀ (b ++ z)) a₀ v₀ ev

  pub all_stored : sets (sets (sets (sets (sets (rows (sets m i₀ i)) 0 c) x₀ x) y₀ y) z₀ z) v₀ v
      ≡ sets m 0 ((c ++ (i ++ x)) ++ ((s ++ y) ++ ((b ++ z) ++ (a ++ v))))
  all_stored =
      let f = length-append c (i ++ x) in
      let g = length-append i x in
      let h = length-append s y in
      let k = length-append b z in
      let l = sets m 0 (c ++ (i ++ x)) in
      ap (λ (w : List ℕ). sets (sets (sets w y₀ y) z₀ z) v₀ v) head_first
      ∙ filled l
      ∙ joined (b ++ z) (a ++ v) (sets l s₀ (s ++ y)) b₀ a₀ (omega (arith, k, ez, ea))
      ∙ joined (s ++ y) ((b ++ z) ++ (a ++ v)) l s₀ b₀ (omega (arith, h, ey, eb))
      ∙ joined (c ++ (i ++ x)) ((s ++ y) ++ ((b ++ z) ++ (a ++ v))) m 0 s₀ (omega (arith, f, g, ei, ex, es))
