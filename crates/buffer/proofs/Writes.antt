-- What the functions that write do, by the ways through their code.
use mathlib.Core.Path.{◌≡◌, refl, ap, ◌∙◌}
use mathlib.Core.List.{List, [], ◌∷◌}
use Prim.Native.Nat.{ℕ, zero, suc, ◌+◌, ◌-◌, ◌/◌, ◌%◌, ◌≤◌, ◌<◌, min}
use native.Mathlib.Omega.{arith}
use lib.ListN.{length, get_or, set, take, length-take}
use lib.Seq.{sets, set_out, length-sets, take-suc, take_all}
use mir.Syntax.{w16, w32}
use Rattle.std.specs.Int.{to_be_bytes}
use Rattle.buffer.specs.BigEndian.{u16_octets, u32_octets}
use borrow.Author.Tests.{lt-ltb, le-ltb}
use Rattle.der.proofs.Choices.{either}
use Rattle.buffer.specs.Placed.{greatest, behind, Placed}
use Rattle.buffer.specs.declared.write.Out.{Out}
use Rattle.buffer.specs.Wrote.{Wrote}
use Rattle.buffer.specs.Text.{digit, digits}
use Rattle.buffer.proofs.Placing.{sets_out, sets_cut, sets_then, placed_of}
use Rattle.buffer.proofs.Wrote.{wrote_nothing, ◌then◌}

-- ---- one byte

module _ (d : List ℕ) (at b : ℕ) (f : length d ≤ greatest) where
  pub byte_past : (r : ℕ) → length d ≤ at → r ≡ behind at 1 → Placed d at (b ∷ []) d r
  byte_past r h e = placed_of d at (b ∷ []) d r f (rw (set_out d at b h) refl) e

  pub byte_put : (r : ℕ) → r ≡ behind at 1 → Placed d at (b ∷ []) (set d at b) r
  byte_put r e = placed_of d at (b ∷ []) (set d at b) r f refl e

  pub byte_here : at < length d → Placed d at (b ∷ []) (set d at b) (at + 1)
  byte_here h = placed_of d at (b ∷ []) (set d at b) (at + 1) f refl (omega (arith, h, f))

-- ---- bytes

module _ (d : List ℕ) (at : ℕ) (x : List ℕ) where
  pub bytes_past : (r : ℕ) → length d ≤ greatest → length d ≤ at → r ≡ behind at (length x) → Placed d at x d r
  bytes_past r f h e = placed_of d at x d r f (rw (sets_out x d at h) refl) e

  -- the first i bytes are stored
  pub record Storing (e : List ℕ) (i : ℕ) : Type 0 where
    pub bytes : e ≡ sets d at (take i x)
    pub long : length e ≡ length d

  pub storing_start : Storing d 0
  storing_start = record { bytes = refl; long = refl }

  module _ (e : List ℕ) (i : ℕ) (g : Storing e i) where
    pub storing_turn : i < length x → Storing (set e (at + i) (get_or x i 0)) (i + 1)
    storing_turn h =
        let l : length (take i x) ≡ i = length-take i x ∙ omega (arith, h) in
        let s : i + 1 ≡ suc i = omega arith in
        let b : set e (at + i) (get_or x i 0) ≡ sets d at (take (suc i) x) =
        rw (take-suc x i 0 h, sets_then (take i x) (get_or x i 0 ∷ []) d at, l, ← g.bytes) refl in
        record { bytes = rw s b; long = ap length b ∙ length-sets d at (take (suc i) x) }

    pub storing_end : length x ≤ i → e ≡ sets d at x
    storing_end h = g.bytes ∙ rw (take_all i x h) refl

  -- those that the buffer has are stored
  module _ (count : ℕ) (h : at < length d) (c : count ≡ min (length x) (length d - at)) where
    all_kept : sets d at (take count x) ≡ sets d at x
    all_kept =
        either (length d - at) (length x)
        (λ l. sets_cut count x d at (omega (arith, c, l, h)))
        (λ l. rw (take_all count x (omega (arith, c, l))) refl)

    pub bytes_put : (e : List ℕ) (r : ℕ) → length d ≤ greatest → e ≡ sets d at (take count x)
        → r ≡ behind at (length x) → Placed d at x e r
    bytes_put e r f q p = placed_of d at x e r f (q ∙ all_kept) p

-- ---- numbers of two and four bytes

pub two_octets : (n : ℕ) (x : List ℕ) → n < 65536 → x ≡ to_be_bytes w16 n → x ≡ u16_octets n
unfolding u16_octets
two_octets n x h e = e ∙ (let a : n / 256 % 256 ≡ n / 256 = omega arith in rw a refl)

pub four_octets : (n : ℕ) (x : List ℕ) → n < 4294967296 → x ≡ to_be_bytes w32 n → x ≡ u32_octets n
unfolding u32_octets u16_octets
four_octets n x h e =
    let a : n / 16777216 % 256 ≡ n / 65536 / 256 = omega arith in
    let b : n / 256 % 256 ≡ n % 65536 / 256 = omega arith in
    let c : n % 256 ≡ n % 65536 % 256 = omega arith in
    e ∙ rw (a, b, c) refl

-- ---- numbers in decimal

pub digits_none : (n : ℕ) (d : Out) (k : ℕ) → k ≡ 0 → Wrote d (digits k n) d
unfolding digits
digits_none n d zero h = wrote_nothing d
digits_none n d (suc k) h = absurd (omega (arith, h))

module _ (n : ℕ) (d e : Out) where
  pub digits_last : (k : ℕ) → (k ≡ 0 → ⊥) → n < 10 → Wrote d (digit (n % 10)) e → Wrote d (digits k n) e
  unfolding digits
  digits_last zero p h w = absurd (p refl)
  digits_last (suc k) p h w = let z : n % 10 ≡ n = omega (arith, h) in rw (lt-ltb n 10 h) (rw z at w)

  pub digits_more : (k : ℕ) (m : Out) → (k ≡ 0 → ⊥) → 10 ≤ n
      → Wrote d (digits (k - 1) (n / 10)) m → Wrote m (digit (n % 10)) e → Wrote d (digits k n) e
  unfolding digits
  digits_more zero m c h v w = absurd (c refl)
  digits_more (suc k) m c h v w =
      let z : suc k - 1 ≡ k = omega arith in
      rw (le-ltb n 10 h) ((rw z at v) then w)
