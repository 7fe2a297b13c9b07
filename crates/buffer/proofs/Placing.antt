-- The algebra of writing into a buffer: one part behind another, the whole at the front, and the
-- same under a condition.
use mathlib.Core.Path.{◌≡◌, refl, sym, ap, ◌∙◌}
use mathlib.Core.List.{List, [], ◌∷◌, ◌++◌}
use Prim.Native.Nat.{ℕ, zero, suc, ◌+◌, ◌-◌, ◌≤◌}
use native.Mathlib.Numerals.{add-one}
use native.Mathlib.Omega.{arith}
use lib.ListN.{length, set, take, drop, length-append, length-set, length-take}
use lib.Seq.{sets, set_out, length-sets, sets-eq, take_all, take-nil}
use Rattle.buffer.specs.Placed.{greatest, counted, behind, Placed, Short, each}

-- ---- a run of stores

pub sets_then : (x y d : List ℕ) (at : ℕ) → sets d at (x ++ y) ≡ sets (sets d at x) (at + length x) y
sets_then [] y d at = let z : at + 0 ≡ at = omega arith in rw z refl
sets_then (a ∷ x) y d at =
    let z : suc at + length x ≡ at + suc (length x) = omega arith in
    rw (← z) (sets_then x y (set d at a) (suc at))

-- past the end nothing is stored
pub sets_out : (x d : List ℕ) (at : ℕ) → length d ≤ at → sets d at x ≡ d
sets_out [] d at h = refl
sets_out (a ∷ x) d at h = rw (set_out d at a h) (sets_out x d (suc at) (omega arith))

-- of x those bytes count that the buffer has
pub sets_cut : (k : ℕ) (x d : List ℕ) (at : ℕ) → length d ≤ at + k → sets d at (take k x) ≡ sets d at x
sets_cut zero [] d at h = refl
sets_cut (suc k) [] d at h = refl
sets_cut zero (a ∷ x) d at h = sym (sets_out (a ∷ x) d at (omega (arith, h)))
sets_cut (suc k) (a ∷ x) d at h = sets_cut k x (set d at a) (suc at) (omega (arith, h, length-set d at a))

-- ---- one part

-- nothing is written
pub placed_nothing : (d : List ℕ) (at : ℕ) → Placed d at [] d at
placed_nothing d at = record { bytes = rw (take-nil {A = ℕ} (greatest - at)) refl; next = omega arith }

-- x is stored in a buffer, as far as that goes; no buffer is longer than the greatest offset
pub placed_of : (d : List ℕ) (at : ℕ) (x e : List ℕ) (r : ℕ) → length d ≤ greatest → e ≡ sets d at x
    → r ≡ behind at (length x) → Placed d at x e r
placed_of d at x e r h p q = record { bytes = p ∙ sym (sets_cut (greatest - at) x d at (omega (arith, h))); next = q }

-- the buffer keeps its length
pub placed_length : {d : List ℕ} {at : ℕ} {x e : List ℕ} {r : ℕ} → Placed d at x e r → length e ≡ length d
placed_length {d} {at} {x} p = ap length p.bytes ∙ length-sets d at (counted at x)

-- what is written is the same by another name
pub placed_as : {d : List ℕ} {at : ℕ} {x y e : List ℕ} {r : ℕ} → x ≡ y → Placed d at x e r → Placed d at y e r
placed_as q p = rw (← q) p

-- ---- y behind x

-- those of x and y that lie below an offset
take_both : (n : ℕ) (x y : List ℕ) → take n (x ++ y) ≡ take n x ++ take (n - length x) y
take_both n [] y = let z : n - 0 ≡ n = omega arith in rw (take-nil {A = ℕ} n, z) refl
take_both zero (a ∷ x) y = let z : 0 - length (a ∷ x) ≡ 0 = omega arith in rw z refl
take_both (suc n) (a ∷ x) y =
    let z : suc n - length (a ∷ x) ≡ n - length x = omega arith in
    rw z (ap (λ (l : List ℕ). a ∷ l) (take_both n x y))

infixl 5 ◌then◌
pub ◌then◌ : {d : List ℕ} {at : ℕ} {x m : List ℕ} {p : ℕ} {y e : List ℕ} {r : ℕ}
    → Placed d at x m p → Placed m p y e r → Placed d at (x ++ y) e r
◌then◌ {d} {at} {x} {m} {p} {y} {e} {r} f g =
    let n : ℕ = greatest - at in
    let left : greatest - p ≡ n - length x = omega (arith, f.next) in
    let p_is : p ≡ at + length (take n x) = f.next ∙ rw (length-take n x) refl in
    let m_is : m ≡ sets d at (take n x) = f.bytes in
    let e_is : e ≡ sets m p (take (n - length x) y) = rw left at g.bytes in
    record {
      bytes = e_is ∙ rw (m_is, p_is, take_both n x y) (sym (sets_then (take n x) (take (n - length x) y) d at));
      next = omega (arith, f.next, g.next, length-append x y);
    }

-- ---- the whole

-- the offset behind what is written from 0 on is its length, if that is an offset
pub placed_end : {d x e : List ℕ} {r : ℕ} → Placed d 0 x e r → length x ≤ greatest → r ≡ length x
placed_end p h = omega (arith, p.next, h)

-- the whole at the front of a buffer that is long enough
pub placed_whole : {d x e : List ℕ} {r : ℕ} → Placed d 0 x e r → length x ≤ length d → length x ≤ greatest
    → e ≡ x ++ drop (length x) d
placed_whole {d} {x} p h k =
    p.bytes ∙ ap (λ (l : List ℕ). sets d 0 l) (take_all (greatest - 0) x (omega (arith, k))) ∙ sets-eq x d 0 (omega (arith, h))
    ∙ rw (zero_plus (length x)) refl
  where
    zero_plus : (n : ℕ) → 0 + n ≡ n
    zero_plus n = omega arith

-- ---- under a condition that holds of the parts if it holds of the whole

pub record Parted (C : List ℕ → Type 0) : Type 0 where
  pub front : (x y : List ℕ) → C (x ++ y) → C x
  pub back : (x y : List ℕ) → C (x ++ y) → C y

pub short_parted : Parted Short
short_parted =
    record {
      front = λ x y h. record { short = omega (arith, h.short, length-append x y) };
      back = λ x y h. record { short = omega (arith, h.short, length-append x y) };
    }

-- ---- rows

pub each_more : {A : Type 0} (f : ℕ → List A) (i : ℕ) → each f (i + 1) ≡ each f i ++ f i
unfolding each
each_more f i = rw add-one
