-- Digits, headers and INTEGERs, by the ways through the code that measures and writes them.
use mathlib.Core.Path.{◌≡◌, refl, sym, ◌∙◌}
use mathlib.Core.List.{List, [], ◌∷◌}
use Prim.Native.Nat.{ℕ, zero, suc, ◌+◌, ◌*◌, ◌/◌, ◌%◌, ◌≤◌, ◌<◌}
use native.Mathlib.Omega.{arith}
use lib.ListN.{length, get_or, length-append, get_or-append}
use Rattle.der.specs.Octets.{digits, tlv, integer_octets}
use Rattle.der.proofs.Choices.{chosen_lt, chosen_le, either}
use Rattle.der.proofs.Octets.{digits_small, digits_more, digits_some, octets_short, octets_long}
use Rattle.buffer.specs.declared.write.Out.{Out}
use Rattle.buffer.specs.Wrote.{Wrote}
use Rattle.buffer.proofs.Wrote.{◌then◌}
use Rattle.encode.specs.Header.{header}

-- ---- how many digits a number has, and the first of them

module _ (n : ℕ) where
  pub count_small : n < 256 → 1 ≡ length (digits n)
  count_small h = rw (digits_small n h) refl

  pub count_more : (r : ℕ) → 256 ≤ n → r ≡ length (digits (n / 256)) → r + 1 ≡ length (digits n)
  count_more r h e = rw (digits_more n h, length-append (digits (n / 256)) (n % 256 ∷ []), e) refl

  pub first_small : n < 256 → n ≡ get_or (digits n) 0 0
  first_small h = rw (digits_small n h) refl

  pub first_more : (r : ℕ) → 256 ≤ n → r ≡ get_or (digits (n / 256)) 0 0 → r ≡ get_or (digits n) 0 0
  first_more r h e =
      rw (digits_more n h) (e ∙ sym (get_or-append (digits (n / 256)) (n % 256 ∷ []) 0 0 (digits_some (n / 256))))

-- a number below 256^(k + 1) has at most k + 1 digits
power : ℕ → ℕ
power zero = 256
power (suc k) = 256 * power k

few : (k n : ℕ) → n < power k → length (digits n) ≤ suc k
unfolding power
few zero n h = rw (digits_small n h) (omega arith)
few (suc k) n h =
    either n 256
    (λ l. rw (digits_small n l) (omega arith))
    (λ l.
    let r : length (digits (n / 256)) ≤ suc k = few k (n / 256) (omega (arith, h)) in
    rw (digits_more n l, length-append (digits (n / 256)) (n % 256 ∷ [])) (omega (arith, r)))

-- a number of 64 bits has at most eight
pub count_few : (r n : ℕ) → r ≡ length (digits n) → n < 18446744073709551616 → r ≤ 8
unfolding power
count_few r n e h = omega (arith, e, few 7 n h)

-- ---- written

module _ (n : ℕ) (d e : Out) where
  pub digits_last : n < 256 → Wrote d (n % 256 ∷ []) e → Wrote d (digits n) e
  digits_last h f = let z : n % 256 ≡ n = omega (arith, h) in rw (digits_small n h) (rw z at f)

  pub digits_then : (m : Out) → 256 ≤ n → Wrote d (digits (n / 256)) m → Wrote m (n % 256 ∷ []) e → Wrote d (digits n) e
  digits_then m h f g = rw (digits_more n h) (f then g)

module _ (d : Out) (t n : ℕ) (m : Out) (f : Wrote d (t ∷ []) m) (e : Out) where
  pub header_short : n < 128 → Wrote m (n ∷ []) e → Wrote d (header t n) e
  unfolding header
  header_short h g = rw (octets_short n h) (f then g)

  pub header_long : (k : ℕ) (m2 : Out) → 128 ≤ n → k ≡ length (digits n) → Wrote m ((128 + k) ∷ []) m2
      → Wrote m2 (digits n) e → Wrote d (header t n) e
  unfolding header
  header_long k m2 h c g w = rw (octets_long n h) (f then ((rw c at g) then w))

-- an element is its header and its body
pub element_then : (d : Out) (t : ℕ) (m : Out) (b : List ℕ) (e : Out)
    → Wrote d (header t (length b)) m → Wrote m b e → Wrote d (tlv t b) e
unfolding tlv header
element_then d t m b e f g = f then g

-- the same by a size that is the body's
pub element_by : (n : ℕ) (d : Out) (t : ℕ) (m : Out) (b : List ℕ) (e : Out) → n ≡ length b
    → Wrote d (header t n) m → Wrote m b e → Wrote d (tlv t b) e
element_by n d t m b e q f g = element_then d t m b e (rw q at f) g

-- ---- an INTEGER, by its first digit

module _ (n k : ℕ) (h : k ≡ get_or (digits n) 0 0) where
  plain : k < 128 → integer_octets n ≡ digits n
  unfolding integer_octets
  plain l = chosen_lt (get_or (digits n) 0 0) 128 _ _ (omega (arith, h, l))

  led : 128 ≤ k → integer_octets n ≡ 0 ∷ digits n
  unfolding integer_octets
  led l = chosen_le (get_or (digits n) 0 0) 128 _ _ (omega (arith, h, l))

  pub integer_plain : (r : ℕ) → k < 128 → r ≡ length (digits n) → r ≡ length (integer_octets n)
  integer_plain r l e = rw (plain l) e

  pub integer_led : (r : ℕ) → 128 ≤ k → r ≡ length (digits n) → r + 1 ≡ length (integer_octets n)
  integer_led r l e = rw (led l) (omega (arith, e))

  module _ (d e : Out) where
    pub octets_plain : k < 128 → Wrote d (digits n) e → Wrote d (integer_octets n) e
    octets_plain l f = rw (plain l) f

    pub octets_led : (m : Out) → 128 ≤ k → Wrote d (0 ∷ []) m → Wrote m (digits n) e → Wrote d (integer_octets n) e
    octets_led m l f g = rw (led l) (f then g)
