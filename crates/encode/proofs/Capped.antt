-- Sizes that are capped at one byte more than the longest file has: sums and elements of them, and
-- the rules by which `search` follows the code's sums.
use mathlib.Core.Path.{◌≡◌, refl, sym, ◌∙◌}
use mathlib.Core.List.{List, ◌++◌}
use Prim.Native.Nat.{ℕ, ◌+◌, ◌≤◌, ◌<◌, min}
use native.Mathlib.Omega.{arith}
use lib.ListN.{length, length-append}
use borrow.Author.Tests.{le-leb, lt-leb}
use Rattle.der.specs.Octets.{tlv}
use Rattle.der.proofs.Choices.{either}
use Rattle.der.proofs.Octets.{octets_short, octets_one, octets_two, octets_some, length_tlv}
use Rattle.buffer.specs.Numbers.{file_bytes}
use Rattle.encode.specs.Sizes.{capped, element_size}

pub capped_small : (n : ℕ) → n ≤ file_bytes → capped n ≡ n
unfolding capped
capped_small n h = rw (le-leb n file_bytes h)

pub capped_past : (n : ℕ) → file_bytes < n → capped n ≡ file_bytes + 1
unfolding capped
capped_past n h = rw (lt-leb n file_bytes h)

pub by_size : {P : Type 0} (n : ℕ) → (n ≤ file_bytes → capped n ≡ n → P)
    → (file_bytes < n → capped n ≡ file_bytes + 1 → P) → P
by_size n small past = either file_bytes n (λ h. past h (capped_past n h)) (λ h. small h (capped_small n h))

-- a capped size that a file can have is the size itself
pub capped_told : (n : ℕ) → capped n ≤ file_bytes → capped n ≡ n
capped_told n h = by_size n (λ l e. e) (λ l e. absurd (omega (arith, h, e)))

-- two numbers that are equal once they are capped
pub record Near (a b : ℕ) : Type 0 where
  pub alike : capped a ≡ capped b

pub near_cases : {P : Type 0} (a b : ℕ) → Near a b → (a ≡ b → P) → (file_bytes < a → file_bytes < b → P) → P
near_cases a b n same past =
    by_size a
    (λ h e. by_size b (λ k f. same (sym e ∙ n.alike ∙ f)) (λ k f. absurd (omega (arith, h, e, f, n.alike))))
    (λ h e. by_size b (λ k f. absurd (omega (arith, k, e, f, n.alike))) (λ k f. past h k))

both_past : (a b : ℕ) → file_bytes < a → file_bytes < b → Near a b
both_past a b h k = record { alike = capped_past a h ∙ sym (capped_past b k) }

pub near_same : (a : ℕ) → Near a a
near_same a = record { alike = refl }

pub near_is : (a b : ℕ) → a ≡ b → Near a b
near_is a b e = rw e (near_same b)

-- a capped number is near the number itself
pub near_told : (r n : ℕ) → r ≡ capped n → Near r n
near_told r n e =
    by_size n (λ h f. near_is r n (e ∙ f)) (λ h f. both_past r n (omega (arith, e, f)) h)

pub near_plus : (a b c d : ℕ) → Near a c → Near b d → Near (a + b) (c + d)
near_plus a b c d p q =
    near_cases a c p
    (λ e. near_cases b d q (λ f. rw (e, f) (near_same (c + d)))
    (λ h k. both_past (a + b) (c + d) (omega (arith, h)) (omega (arith, k))))
    (λ h k. both_past (a + b) (c + d) (omega (arith, h)) (omega (arith, k)))

-- an element is longer than its body
pub element_more : (n : ℕ) → n + 2 ≤ element_size n
unfolding element_size
element_more n = omega (arith, octets_some n)

pub near_element : (n m : ℕ) → Near n m → Near (element_size n) (element_size m)
near_element n m p =
    near_cases n m p
    (λ e. rw e (near_same (element_size m)))
    (λ h k. both_past _ _ (omega (arith, h, element_more n)) (omega (arith, k, element_more m)))

pub near_then : (a b c : ℕ) → Near a b → Near b c → Near a c
near_then a b c p q = record { alike = p.alike ∙ q.alike }

-- ---- rules: r is what a callee returned

pub by_element : (r n m : ℕ) → r ≡ capped (element_size n) → Near n m → Near r (element_size m)
by_element r n m e p = near_then _ _ _ (near_told r (element_size n) e) (near_element n m p)

-- where r is the capped size of a number, it is that of every number near it
pub told : (r a c : ℕ) → r ≡ capped a → Near a c → r ≡ capped c
told r a c e p = e ∙ p.alike

pub sum_told : (r a b c d : ℕ) → r ≡ capped (a + b) → Near a c → Near b d → r ≡ capped (c + d)
sum_told r a b c d e p q = told r (a + b) (c + d) e (near_plus a b c d p q)

pub element_told : (r n m : ℕ) → r ≡ capped (element_size n) → Near n m → r ≡ capped (element_size m)
element_told r n m e p = told r (element_size n) (element_size m) e (near_element n m p)

-- ---- and of bytes: a number that is near their length

abbrev pub Sized : ℕ → List ℕ → Type 0
Sized n x = Near n (length x)

pub length_element : (t : ℕ) (b : List ℕ) → length (tlv t b) ≡ element_size (length b)
unfolding element_size
length_element t b = length_tlv t b

pub sized_told : (r : ℕ) (x : List ℕ) → r ≡ capped (length x) → Sized r x
sized_told r x e = near_told r (length x) e

pub sized_is : (r : ℕ) (x : List ℕ) → r ≡ length x → Sized r x
sized_is r x e = near_is r (length x) e

pub sized_element : (r n t : ℕ) (b : List ℕ) → r ≡ capped (element_size n) → Sized n b → Sized r (tlv t b)
sized_element r n t b e p = rw (length_element t b) (by_element r n (length b) e p)

pub sum_is : (r a b : ℕ) (x y : List ℕ) → r ≡ capped (a + b) → Sized a x → Sized b y → r ≡ capped (length (x ++ y))
sum_is r a b x y e p q = rw (length-append x y) (sum_told r a b (length x) (length y) e p q)

pub element_is : (r n t : ℕ) (b : List ℕ) → r ≡ capped (element_size n) → Sized n b → r ≡ capped (length (tlv t b))
element_is r n t b e p = rw (length_element t b) (element_told r n (length b) e p)

pub ruleset sizing = (
  by_element,
  near_told,
  near_same,
  sum_told,
  element_told,
  sized_told,
  sized_is,
  sized_element,
  sum_is,
  element_is,
)

-- ---- the leaves, as the code computes them

-- a sum that stops at the greatest number, and is then cut
pub sum_cut : (a b s r : ℕ) → s ≡ min (a + b) 18446744073709551615 → r ≡ min s 65536 → r ≡ capped (a + b)
sum_cut a b s r p q =
    by_size (a + b)
    (λ h e. let z : r ≡ a + b = omega (arith, p, q, h) in z ∙ sym e)
    (λ h e. let z : r ≡ file_bytes + 1 = omega (arith, p, q, h) in z ∙ sym e)

module _ (n : ℕ) where
  pub element_short : n < 128 → n + 2 ≡ capped (element_size n)
  unfolding element_size
  element_short h = rw (octets_short n h, capped_small (2 + n) (omega (arith, h))) (omega arith)

  pub element_one : 128 ≤ n → n < 256 → n + 3 ≡ capped (element_size n)
  unfolding element_size
  element_one h k = rw (octets_one n h k, capped_small (3 + n) (omega (arith, k))) (omega arith)

  pub element_more_told : (r : ℕ) → 256 ≤ n → r ≡ capped (n + 4) → r ≡ capped (element_size n)
  unfolding element_size
  element_more_told r h e =
      either n 65536
      (λ k. rw (octets_two n h k) (e ∙ (near_is (n + 4) (4 + n) (omega arith)).alike))
      (λ k. e ∙ (both_past (n + 4) _ (omega (arith, k)) (omega (arith, k))).alike)
