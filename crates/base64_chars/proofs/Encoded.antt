-- Bytes and their characters: what `encoded` returns, and which characters it returns.
use mathlib.Core.Path.{◌≡◌, refl, ap}
use mathlib.Core.List.{List, [], ◌∷◌, ◌++◌}
use mathlib.Core.Logic.{◌⊎◌, inl, inr}
use Prim.Native.Nat.{ℕ, suc, ◌+◌, ◌*◌, ◌/◌, ◌%◌, ◌<◌, ◌≤◌}
use native.Mathlib.Omega.{arith}
use lib.Dec.{ltb}
use lib.ListN.{length, take}
use borrow.Author.Tests.{lt-ltb, le-ltb}
use Rattle.std.specs.Prelude.{if◌then◌else◌}
use Rattle.der.specs.Span.{Bytes}
use Rattle.der.proofs.Octets.{bytes_append}
use Rattle.der.proofs.Spans.{bytes_take}
use Rattle.base64_chars.specs.Alphabet.{letter_of, value_of}
use Rattle.base64_chars.specs.Encoded.{pad, encoded, three_of}
use Rattle.base64_chars.proofs.Alphabet.{value_letter, letter_value, pad_none}
use Rattle.base64_chars.specs.Coded.{Going, Coded}

-- ---- four values and three bytes

-- the four values of three bytes make these bytes
three_of_values : (a b c p q r s : ℕ) → a < 256 → b < 256 → c < 256 → p ≡ a / 4 → q ≡ a % 4 * 16 + b / 16
    → r ≡ b % 16 * 4 + c / 64 → s ≡ c % 64 → three_of p q r s ≡ a ∷ b ∷ c ∷ []
unfolding three_of
three_of_values a b c p q r s ha hb hc hp hq hr hs =
    let e : p % 64 * 4 + q / 16 % 4 ≡ a = omega arith in
    let f : q % 16 * 16 + r / 4 % 16 ≡ b = omega arith in
    let g : r % 4 * 64 + s % 64 ≡ c = omega arith in
    cc

pub three_of_four : (a b c : ℕ) → a < 256 → b < 256 → c < 256
    → three_of (value_of (letter_of (a / 4))) (value_of (letter_of (a % 4 * 16 + b / 16)))
    (value_of (letter_of (b % 16 * 4 + c / 64))) (value_of (letter_of (c % 64))) ≡ a ∷ b ∷ c ∷ []
three_of_four a b c ha hb hc =
    three_of_values a b c _ _ _ _ ha hb hc (omega (arith, value_letter (a / 4)))
    (omega (arith, value_letter (a % 4 * 16 + b / 16))) (omega (arith, value_letter (b % 16 * 4 + c / 64)))
    (omega (arith, value_letter (c % 64)))

-- two bytes need no fourth value, one byte no third
pub three_of_two : (a b : ℕ) → a < 256 → b < 256 → (s : ℕ)
    → take 2 (three_of (value_of (letter_of (a / 4))) (value_of (letter_of (a % 4 * 16 + b / 16)))
    (value_of (letter_of (b % 16 * 4))) s) ≡ a ∷ b ∷ []
unfolding three_of
three_of_two a b ha hb s =
    ap (take 2) (three_of_values a b 0 _ _ _ 0 ha hb (omega arith) (omega (arith, value_letter (a / 4)))
    (omega (arith, value_letter (a % 4 * 16 + b / 16))) (omega (arith, value_letter (b % 16 * 4))) refl)

pub three_of_one : (a : ℕ) → a < 256 → (r s : ℕ)
    → take 1 (three_of (value_of (letter_of (a / 4))) (value_of (letter_of (a % 4 * 16))) r s) ≡ a ∷ []
unfolding three_of
three_of_one a ha r s =
    ap (take 1) (three_of_values a 0 0 _ _ 0 0 ha (omega arith) (omega arith) (omega (arith, value_letter (a / 4)))
    (omega (arith, value_letter (a % 4 * 16))) refl refl)

pub three_bytes : (p q r s : ℕ) → Bytes (three_of p q r s)
unfolding three_of
three_bytes p q r s = (omega arith, (omega arith, (omega arith, tt)))

-- ---- characters of bytes complete fours

-- the character of a value, and what goes on
letter_goes : {N Z : Type 0} (v : ℕ) → N → Going N (letter_of v) ⊎ Z
letter_goes v n = inl (record { letter = omega (arith, value_letter v); rest = n })

pub encoded_coded : (x : List ℕ) (v : ℕ) → Coded 0 v (encoded x)
unfolding encoded
encoded_coded [] v = refl
encoded_coded (a ∷ []) v =
    let u : value_of (letter_of (a % 4 * 16)) % 16 ≡ 0 = omega (arith, value_letter (a % 4 * 16)) in
    letter_goes (a / 4) (letter_goes (a % 4 * 16)
    (inr (inl (record { column = refl; unused = u; first = refl; behind = refl }))))
encoded_coded (a ∷ b ∷ []) v =
    let u : value_of (letter_of (b % 16 * 4)) % 4 ≡ 0 = omega (arith, value_letter (b % 16 * 4)) in
    letter_goes (a / 4) (letter_goes (a % 4 * 16 + b / 16) (letter_goes (b % 16 * 4)
    (inr (inr (record { column = refl; unused = u; first = refl; behind = refl })))))
encoded_coded (a ∷ b ∷ c ∷ x) v =
    letter_goes (a / 4) (letter_goes (a % 4 * 16 + b / 16) (letter_goes (b % 16 * 4 + c / 64) (letter_goes (c % 64)
    (encoded_coded x (value_of (letter_of (c % 64)))))))

-- ---- characters that complete fours are those of bytes

-- a character is that of its value
letter_is : (n c : ℕ) (xs ys : List ℕ) → value_of c < 64 → n ≡ value_of c → xs ≡ ys → letter_of n ∷ xs ≡ c ∷ ys
letter_is n c xs ys h e f = rw e (cc (letter_value c h))

-- the bytes of two, three and four characters have these characters, if the unused bits are zero
pub one_encoded : (c1 c2 : ℕ) → value_of c1 < 64 → value_of c2 < 64 → value_of c2 % 16 ≡ 0 → (r s : ℕ)
    → encoded (take 1 (three_of (value_of c1) (value_of c2) r s)) ≡ c1 ∷ c2 ∷ pad ∷ pad ∷ []
unfolding encoded three_of
one_encoded c1 c2 h1 h2 u r s = letter_is _ c1 _ _ h1 (omega arith) (letter_is _ c2 _ _ h2 (omega arith) refl)

pub two_encoded : (c1 c2 c3 : ℕ) → value_of c1 < 64 → value_of c2 < 64 → value_of c3 < 64 → value_of c3 % 4 ≡ 0 → (s : ℕ)
    → encoded (take 2 (three_of (value_of c1) (value_of c2) (value_of c3) s)) ≡ c1 ∷ c2 ∷ c3 ∷ pad ∷ []
unfolding encoded three_of
two_encoded c1 c2 c3 h1 h2 h3 u s =
    letter_is _ c1 _ _ h1 (omega arith) (letter_is _ c2 _ _ h2 (omega arith)
    (letter_is _ c3 _ _ h3 (omega arith) refl))

pub three_encoded : (c1 c2 c3 c4 : ℕ) (x : List ℕ)
    → value_of c1 < 64 → value_of c2 < 64 → value_of c3 < 64 → value_of c4 < 64
    → encoded (three_of (value_of c1) (value_of c2) (value_of c3) (value_of c4) ++ x) ≡ c1 ∷ c2 ∷ c3 ∷ c4 ∷ encoded x
unfolding encoded three_of
three_encoded c1 c2 c3 c4 x h1 h2 h3 h4 =
    letter_is _ c1 _ _ h1 (omega arith) (letter_is _ c2 _ _ h2 (omega arith) (letter_is _ c3 _ _ h3 (omega arith)
    (letter_is _ c4 _ _ h4 (omega arith) refl)))

-- some bytes whose characters are cs
pub record EncodedOf (cs : List ℕ) : Type 0 where
  pub bytes : List ℕ
  pub fit : Bytes bytes
  pub is : encoded bytes ≡ cs

-- what comes next: a letter, or padding
by_coded : {P : Type 0} (q v c : ℕ) (cs : List ℕ) → Coded q v (c ∷ cs)
    → (value_of c < 64 → Coded (suc q % 4) (value_of c) cs → P)
    → (q ≡ 2 → v % 16 ≡ 0 → c ≡ pad → cs ≡ pad ∷ [] → P)
    → (q ≡ 3 → v % 4 ≡ 0 → c ≡ pad → cs ≡ [] → P) → P
by_coded q v c cs (inl g) f two one = f g.letter g.rest
by_coded q v c cs (inr (inl p)) f two one = two p.column p.unused p.first p.behind
by_coded q v c cs (inr (inr p)) f two one = one p.column p.unused p.first p.behind

-- the first two characters of four are letters
letter_then : {P : Type 0} (q v c : ℕ) (cs : List ℕ) → q < 2 → Coded q v (c ∷ cs)
    → (value_of c < 64 → Coded (suc q % 4) (value_of c) cs → P) → P
letter_then q v c cs h k f =
    by_coded q v c cs k f (λ e u p b. absurd (omega arith)) (λ e u p b. absurd (omega arith))

module _ (c1 c2 : ℕ) (h1 : value_of c1 < 64) (h2 : value_of c2 < 64) where
  one_of_lem : (c3 : ℕ) (cs : List ℕ) → value_of c2 % 16 ≡ 0 → c3 ≡ pad → cs ≡ pad ∷ [] → EncodedOf (c1 ∷ c2 ∷ c3 ∷ cs)
  one_of_lem c3 cs u p b =
      let t = three_of (value_of c1) (value_of c2) 0 0 in
      record {
        bytes = take 1 t;
        fit = bytes_take t 1 (three_bytes _ _ _ _);
        is = cc (one_encoded c1 c2 h1 h2 u 0 0);
      }

  two_of : (c3 c4 : ℕ) (cs : List ℕ) → value_of c3 < 64 → value_of c3 % 4 ≡ 0 → c4 ≡ pad → cs ≡ []
      → EncodedOf (c1 ∷ c2 ∷ c3 ∷ c4 ∷ cs)
  two_of c3 c4 cs h3 u p b =
      let t = three_of (value_of c1) (value_of c2) (value_of c3) 0 in
      record {
        bytes = take 2 t;
        fit = bytes_take t 2 (three_bytes _ _ _ _);
        is = cc (two_encoded c1 c2 c3 h1 h2 h3 u 0);
      }

  three_of_lem : (c3 c4 : ℕ) (cs : List ℕ) → value_of c3 < 64 → value_of c4 < 64 → EncodedOf cs
      → EncodedOf (c1 ∷ c2 ∷ c3 ∷ c4 ∷ cs)
  three_of_lem c3 c4 cs h3 h4 e =
      let t = three_of (value_of c1) (value_of c2) (value_of c3) (value_of c4) in
      record {
        bytes = t ++ e.bytes;
        fit = bytes_append t e.bytes (three_bytes _ _ _ _) e.fit;
        is = cc (three_encoded c1 c2 c3 c4 e.bytes h1 h2 h3 h4);
      }

pub coded_encoded : (cs : List ℕ) (v : ℕ) → Coded 0 v cs → EncodedOf cs
unfolding encoded
coded_encoded [] v k = record { bytes = []; fit = tt; is = refl }
coded_encoded (c1 ∷ []) v k = letter_then 0 v c1 [] (omega arith) k (λ h1 k1. absurd (omega arith))
coded_encoded (c1 ∷ c2 ∷ []) v k =
    letter_then 0 v c1 (c2 ∷ []) (omega arith) k (λ h1 k1. letter_then 1 (value_of c1) c2 [] (omega arith) k1
    (λ h2 k2. absurd (omega arith)))
coded_encoded (c1 ∷ c2 ∷ c3 ∷ []) v k =
    letter_then 0 v c1 (c2 ∷ c3 ∷ []) (omega arith) k (λ h1 k1.
    letter_then 1 (value_of c1) c2 (c3 ∷ []) (omega arith) k1 (λ h2 k2.
    by_coded 2 (value_of c2) c3 [] k2 (λ h3 k3. absurd (omega arith)) (λ e u p b. one_of_lem c1 c2 h1 h2 c3 [] u p b)
    (λ e u p b. absurd (omega arith))))
coded_encoded (c1 ∷ c2 ∷ c3 ∷ c4 ∷ cs) v k =
    letter_then 0 v c1 (c2 ∷ c3 ∷ c4 ∷ cs) (omega arith) k (λ h1 k1.
    letter_then 1 (value_of c1) c2 (c3 ∷ c4 ∷ cs) (omega arith) k1 (λ h2 k2.
    by_coded 2 (value_of c2) c3 (c4 ∷ cs) k2
    (λ h3 k3.
    by_coded 3 (value_of c3) c4 cs k3
    (λ h4 k4. three_of_lem c1 c2 h1 h2 c3 c4 cs h3 h4 (coded_encoded cs (value_of c4) k4))
    (λ e u p b. absurd (omega arith)) (λ e u p b. two_of c1 c2 h1 h2 c3 c4 cs h3 u p b))
    (λ e u p b. one_of_lem c1 c2 h1 h2 c3 (c4 ∷ cs) u p b) (λ e u p b. absurd (omega arith))))

-- ---- how many there are

pub encoded_length : (x : List ℕ) → length (encoded x) ≡ (length x + 2) / 3 * 4
unfolding encoded
encoded_length [] = refl
encoded_length (a ∷ []) = refl
encoded_length (a ∷ b ∷ []) = refl
encoded_length (a ∷ b ∷ c ∷ x) = omega (arith, encoded_length x)

-- only no bytes have no characters
pub encoded_nonempty : (x : List ℕ) → encoded x ≡ [] → x ≡ []
unfolding encoded
encoded_nonempty [] e = refl
encoded_nonempty (a ∷ []) e = cc
encoded_nonempty (a ∷ b ∷ []) e = cc
encoded_nonempty (a ∷ b ∷ c ∷ x) e = cc

-- how many of the characters have a value: those that aren't padding
unfoldable pub letter_count : List ℕ → ℕ
letter_count [] = 0
letter_count (c ∷ cs) = (if ltb (value_of c) 64 then 1 else 0) + letter_count cs

pub count_letter : (c : ℕ) (cs : List ℕ) → value_of c < 64 → letter_count (c ∷ cs) ≡ 1 + letter_count cs
unfolding letter_count
count_letter c cs h = rw (lt-ltb (value_of c) 64 h)

pub count_none : (c : ℕ) (cs : List ℕ) → 64 ≤ value_of c → letter_count (c ∷ cs) ≡ letter_count cs
unfolding letter_count
count_none c cs h = rw (le-ltb (value_of c) 64 h) (omega arith)

letter_one : (v : ℕ) (cs : List ℕ) → letter_count (letter_of v ∷ cs) ≡ 1 + letter_count cs
letter_one v cs = count_letter (letter_of v) cs (omega (arith, value_letter v))

pad_zero : (cs : List ℕ) → letter_count (pad ∷ cs) ≡ letter_count cs
pad_zero cs = count_none pad cs (omega (arith, pad_none))

none_zero : letter_count [] ≡ 0
unfolding letter_count
none_zero = refl

pub encoded_count : (x : List ℕ) → letter_count (encoded x) * 3 / 4 ≡ length x
unfolding encoded
encoded_count [] = rw none_zero
encoded_count (a ∷ []) = simp (letter_one, pad_zero, none_zero)
encoded_count (a ∷ b ∷ []) = simp (letter_one, pad_zero, none_zero)
encoded_count (a ∷ b ∷ c ∷ x) = simp letter_one (omega (arith, encoded_count x))

pub coded_count : (cs : List ℕ) (e : EncodedOf cs) → letter_count cs * 3 / 4 ≡ length e.bytes
coded_count cs e = rw (← e.is) (encoded_count e.bytes)

-- ---- one list of bytes

-- the bytes of the values, four at a time
threes : List ℕ → List ℕ
threes [] = []
threes (c1 ∷ []) = []
threes (c1 ∷ c2 ∷ []) = []
threes (c1 ∷ c2 ∷ c3 ∷ []) = []
threes (c1 ∷ c2 ∷ c3 ∷ c4 ∷ cs) = three_of (value_of c1) (value_of c2) (value_of c3) (value_of c4) ++ threes cs

-- of the characters of bytes they begin with these bytes
threes_encoded : (x : List ℕ) → Bytes x → take (length x) (threes (encoded x)) ≡ x
unfolding threes encoded three_of
threes_encoded [] h = refl
threes_encoded (a ∷ []) h = three_of_one a h.0 (value_of pad) (value_of pad)
threes_encoded (a ∷ b ∷ []) h = three_of_two a b h.0 h.1.0 (value_of pad)
threes_encoded (a ∷ b ∷ c ∷ x) h =
    let r = threes_encoded x h.1.1.1 in
    cc (three_of_four a b c h.0 h.1.0 h.1.1.0)

pub encoded_one : (x y : List ℕ) → Bytes x → Bytes y → encoded x ≡ encoded y → x ≡ y
encoded_one x y p q e =
    let l : length x ≡ length y = cc (encoded_count x, encoded_count y) in
    cc (threes_encoded x p, threes_encoded y q)
