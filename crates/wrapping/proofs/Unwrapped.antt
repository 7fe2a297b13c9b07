-- The bytes that the text of bytes wraps are these bytes.
use mathlib.Core.Path.{◌≡◌, refl, sym, ap, ◌∙◌}
use mathlib.Core.List.{List, ◌∷◌}
use Prim.Native.Nat.{ℕ, zero, suc, ◌+◌, ◌*◌, ◌/◌, ◌%◌, ◌≤◌, ◌<◌}
use native.Mathlib.Omega.{arith}
use lib.ListN.{length, get_or, take, drop, take-append-drop, drop_of_length-le}
use lib.Seq.{take-add, get_or-drop}
use Rattle.der.specs.Span.{Bytes}
use Rattle.der.proofs.Placed.{byte_at}
use Rattle.buffer.specs.Placed.{each}
use Rattle.base64_chars.specs.Alphabet.{value_of}
use Rattle.base64_chars.specs.Encoded.{three_of}
use Rattle.base64_chars.proofs.Encoded.{three_of_four, three_of_two, three_of_one}
use Rattle.pem.specs.Wrap.{wrap}
use Rattle.pem.specs.Calls.{four_at, three_at, threes_in, left_in, unwrapped}
use Rattle.pem.proofs.Lines.{by_thirds, drop_three, drop_two, drop_one, four_in_lem, four_two, four_one}

-- the three bytes of four characters that are known
three_at_lem : (t : List ℕ) (at p q r s : ℕ) (l : List ℕ) → drop at t ≡ p ∷ q ∷ r ∷ s ∷ l
    → three_at t at ≡ three_of (value_of p) (value_of q) (value_of r) (value_of s)
unfolding three_at
three_at_lem t at p q r s l e =
    let z : at + 0 ≡ at = omega arith in
    let n : get_or t at 0 ≡ p = ap (λ (k : ℕ). get_or t k 0) (sym z) ∙ is 0 in
    cc (is 1, is 2, is 3)
  where
    is : (j : ℕ) → get_or t (at + j) 0 ≡ get_or (p ∷ q ∷ r ∷ s ∷ l) j 0
    is j = sym (get_or-drop at t j 0) ∙ ap (λ (k : List ℕ). get_or k j 0) e

module _ (x : List ℕ) (b : Bytes x) where
  three_is : (i : ℕ) → suc i * 3 ≤ length x → three_at (wrap x) (four_at i) ≡ take 3 (drop (i * 3) x)
  three_is i h =
      three_at_lem (wrap x) (four_at i) _ _ _ _ _ (four_in_lem i x h)
      ∙ three_of_four _ _ _ (byte_at x b (i * 3)) (byte_at x b (i * 3 + 1)) (byte_at x b (i * 3 + 2))
      ∙ sym (ap (take 3) (drop_three (i * 3) x (omega arith)))

  two_is : (i : ℕ) → length x ≡ i * 3 + 2 → take 2 (three_at (wrap x) (four_at i)) ≡ drop (i * 3) x
  two_is i e =
      ap (take 2) (three_at_lem (wrap x) (four_at i) _ _ _ _ _ (four_two i x e))
      ∙ three_of_two _ _ (byte_at x b (i * 3)) (byte_at x b (i * 3 + 1)) _
      ∙ sym (drop_two (i * 3) x e)

  one_is : (i : ℕ) → length x ≡ i * 3 + 1 → take 1 (three_at (wrap x) (four_at i)) ≡ drop (i * 3) x
  one_is i e =
      ap (take 1) (three_at_lem (wrap x) (four_at i) _ _ _ _ _ (four_one i x e))
      ∙ three_of_one _ (byte_at x b (i * 3)) _ _
      ∙ sym (drop_one (i * 3) x e)

  none_is : (i : ℕ) → length x ≡ i * 3 → take 0 (three_at (wrap x) (four_at i)) ≡ drop (i * 3) x
  none_is i e = sym (drop_of_length-le x {i = i * 3} (omega (arith, e)))

  -- whole threes
  threes_are : (i : ℕ) → i * 3 ≤ length x → threes_in (wrap x) i ≡ take (i * 3) x
  unfolding threes_in each
  threes_are zero h = refl
  threes_are (suc i) h =
      let z : suc i * 3 ≡ i * 3 + 3 = omega arith in
      rw (z, take-add (i * 3) 3 x, threes_are i (omega arith), three_is i h)

  -- and what is left, n bytes
  left_is : (i n : ℕ) → length x ≡ i * 3 + n → n < 3 → take n (three_at (wrap x) (four_at i)) ≡ drop (i * 3) x
      → unwrapped (wrap x) (length x) ≡ x
  unfolding unwrapped left_in
  left_is i n e h f =
      let y : length x / 3 ≡ i = omega (arith, e, h) in
      let z : length x % 3 ≡ n = omega (arith, e, h) in
      rw (y, z, threes_are i (omega (arith, e)), f) (take-append-drop (i * 3) x)

  pub unwrapped_wrap : unwrapped (wrap x) (length x) ≡ x
  unwrapped_wrap =
      by_thirds (length x)
      (λ i e. left_is i 0 (omega (arith, e)) (omega arith) (none_is i e))
      (λ i e. left_is i 1 e (omega arith) (one_is i e))
      (λ i e. left_is i 2 e (omega arith) (two_is i e))
