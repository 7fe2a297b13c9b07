-- The laws of what X.690 writes: digits to the base 256, length octets, an element, the contents of
-- an INTEGER.
use mathlib.Core.Path.{◌≡◌, refl, sym, ap, ◌∙◌}
use mathlib.Core.List.{List, [], ◌∷◌, ◌++◌, append_assoc, append-nil}
use Prim.Native.Nat.{ℕ, zero, suc, ◌+◌, ◌*◌, ◌/◌, ◌%◌, ◌≤◌, ◌<◌}
use native.Mathlib.Omega.{arith}
use lib.ListN.{length, get_or, length-append, get_or-append}
use Rattle.der.specs.Numbers.{length_bound, integer_bound}
use Rattle.der.specs.Octets.{digits_from, digits, length_octets, tlv, integer_octets}
use Rattle.der.specs.Octets.{number_from, number, IntegerRule}
use Rattle.der.specs.Span.{Bytes}
use Rattle.der.proofs.Choices.{chosen_lt, chosen_le, either}

-- the digits are the same with any fuel above the number
enough : (f g n : ℕ) → n < f → n < g → digits_from f n ≡ digits_from g n
unfolding digits_from
enough zero g n h k = absurd (omega arith)
enough (suc f) zero n h k = absurd (omega arith)
enough (suc f) (suc g) n h k =
    either n 256
    (λ l. chosen_lt n 256 _ _ l ∙ sym (chosen_lt n 256 _ _ l))
    (λ l. chosen_le n 256 _ _ l ∙ ap (λ (d : List ℕ). d ++ (n % 256 ∷ []))
    (enough f g (n / 256) (omega arith) (omega arith)) ∙ sym (chosen_le n 256 _ _ l))

pub digits_small : (n : ℕ) → n < 256 → digits n ≡ n ∷ []
unfolding digits digits_from
digits_small n h = chosen_lt n 256 _ _ h

pub digits_more : (n : ℕ) → 256 ≤ n → digits n ≡ digits (n / 256) ++ (n % 256 ∷ [])
unfolding digits digits_from
digits_more n h = chosen_le n 256 _ _ h
    ∙ ap (λ (d : List ℕ). d ++ (n % 256 ∷ [])) (enough n (suc (n / 256)) (n / 256) (omega arith) (omega arith))

-- what holds of one digit, and of more digits if of all but the last, holds of all digits
pub digits_induction : (P : ℕ → List ℕ → Type 0) → ((n : ℕ) → n < 256 → P n (n ∷ []))
    → ((n : ℕ) → 256 ≤ n → P (n / 256) (digits (n / 256)) → P n (digits (n / 256) ++ (n % 256 ∷ [])))
    → (n : ℕ) → P n (digits n)
digits_induction P one more n = go (suc n) n (omega arith)
  where
    go : (f m : ℕ) → m < f → P m (digits m)
    go zero m h = absurd (omega arith)
    go (suc f) m h =
        either m 256
        (λ l. rw (digits_small m l) (one m l))
        (λ l. rw (digits_more m l) (more m l (go f (m / 256) (omega arith))))

-- lists that are equal, and appended lists of bytes
pub cons_same : (a b : ℕ) (x y : List ℕ) → a ∷ x ≡ b ∷ y → (a ≡ b) × (x ≡ y)
cons_same a b x y e = (cc, cc)

pub append_same : (a b x y : List ℕ) → length a ≡ length b → a ++ x ≡ b ++ y → (a ≡ b) × (x ≡ y)
append_same [] [] x y l e = (refl, e)
append_same [] (c ∷ b) x y l e = absurd (omega arith)
append_same (c ∷ a) [] x y l e = absurd (omega arith)
append_same (c ∷ a) (d ∷ b) x y l e =
    let h = cons_same c d (a ++ x) (b ++ y) e in
    let r = append_same a b x y (omega arith) h.1 in
    (cc, r.1)

pub bytes_append : (a b : List ℕ) → Bytes a → Bytes b → Bytes (a ++ b)
bytes_append [] b p q = q
bytes_append (c ∷ a) b p q = (p.0, bytes_append a b p.1 q)

-- digits: bytes, of the number itself, at least one, no leading zero; and the digits of a number of
-- digits
pub digits_bytes : (n : ℕ) → Bytes (digits n)
digits_bytes = digits_induction (λ n l. Bytes l) (λ n h. (h, tt))
    (λ n h b. bytes_append (digits (n / 256)) (n % 256 ∷ []) b (omega arith, tt))

number_snoc : (v d : ℕ) (ds : List ℕ) → number_from v (ds ++ (d ∷ [])) ≡ number_from v ds * 256 + d
unfolding number_from
number_snoc v d [] = refl
number_snoc v d (c ∷ ds) = number_snoc (v * 256 + c) d ds

pub number_digits : (n : ℕ) → number (digits n) ≡ n
unfolding number number_from
number_digits = digits_induction (λ n l. number l ≡ n) (λ n h. omega arith)
    (λ n h e. rw (number_snoc 0 (n % 256) (digits (n / 256)), e) (omega arith))

pub digits_some : (n : ℕ) → 1 ≤ length (digits n)
digits_some = digits_induction (λ n l. 1 ≤ length l) (λ n h. omega arith) (λ n h e. simp length-append (omega arith))

pub digits_lead : (n : ℕ) → 1 ≤ n → get_or (digits n) 0 0 ≡ 0 → ⊥
digits_lead = digits_induction (λ n l. 1 ≤ n → get_or l 0 0 ≡ 0 → ⊥) (λ n h k e. omega arith)
    (λ n h r k e. r (omega arith)
    (rw (← get_or-append (digits (n / 256)) (n % 256 ∷ []) 0 0 (digits_some (n / 256))) e))

digits_from_lem : (v : ℕ) (ds : List ℕ) → 1 ≤ v → Bytes ds → digits (number_from v ds) ≡ digits v ++ ds
unfolding number_from
digits_from_lem v [] h b = sym (append-nil (digits v))
digits_from_lem v (d ∷ ds) h b =
    let q : (v * 256 + d) / 256 ≡ v = omega arith in
    let r : (v * 256 + d) % 256 ≡ d = omega arith in
    digits_from_lem (v * 256 + d) ds (omega arith) b.1 ∙ rw (digits_more (v * 256 + d) (omega arith), q, r, append_assoc)

pub digits_number : (d : ℕ) (ds : List ℕ) → (d ≡ 0 → ⊥) → Bytes (d ∷ ds) → digits (number (d ∷ ds)) ≡ d ∷ ds
unfolding number number_from
digits_number d ds h b =
    let z : 0 * 256 + d ≡ d = omega arith in
    rw z (digits_from_lem d ds (omega arith) b.1 ∙ rw (digits_small d b.0))

-- length octets: the three short forms, and that they encode one number only
pub octets_short : (n : ℕ) → n < 128 → length_octets n ≡ n ∷ []
unfolding length_octets
octets_short n h = chosen_lt n 128 _ _ h

pub octets_long : (n : ℕ) → 128 ≤ n → length_octets n ≡ (128 + length (digits n)) ∷ digits n
unfolding length_octets
octets_long n h = chosen_le n 128 _ _ h

pub octets_one : (n : ℕ) → 128 ≤ n → n < 256 → length_octets n ≡ 129 ∷ n ∷ []
octets_one n h k = rw (octets_long n h, digits_small n k)

pub octets_two : (n : ℕ) → 256 ≤ n → n < length_bound → length_octets n ≡ 130 ∷ (n / 256) ∷ (n % 256) ∷ []
octets_two n h k = rw (octets_long n (omega arith), digits_more n h, digits_small (n / 256) (omega arith))

pub octets_some : (n : ℕ) → 1 ≤ length (length_octets n)
octets_some n = either n 128 (λ h. rw (octets_short n h) (omega arith)) (λ h. rw (octets_long n h) (omega arith))

pub octets_unique : (n m : ℕ) (x y : List ℕ) → length_octets n ++ x ≡ length_octets m ++ y → (n ≡ m) × (x ≡ y)
octets_unique n m x y e =
    either n 128
    (λ h. either m 128
    (λ k. cons_same n m x y (rw (octets_short n h, octets_short m k) at e))
    (λ k. absurd (far n (length (digits m)) x (digits m ++ y) h (rw (octets_short n h, octets_long m k) at e))))
    (λ h. either m 128
    (λ k. absurd (far m (length (digits n)) y (digits n ++ x) k (sym (rw (octets_long n h, octets_short m k) at e))))
    (λ k. both (cons_same (128 + length (digits n)) (128 + length (digits m)) (digits n ++ x) (digits m ++ y)
    (rw (octets_long n h, octets_long m k) at e))))
  where
    far : (a l : ℕ) (u v : List ℕ) → a < 128 → a ∷ u ≡ (128 + l) ∷ v → ⊥
    far a l u v h e = let p = cons_same a (128 + l) u v e in omega arith

    both : (128 + length (digits n) ≡ 128 + length (digits m)) × (digits n ++ x ≡ digits m ++ y) → (n ≡ m) × (x ≡ y)
    both p =
        let r = append_same (digits n) (digits m) x y (omega arith) p.1 in
        (sym (number_digits n) ∙ ap number r.0 ∙ number_digits m, r.1)

-- an element: it is unique, its length, and its bytes
pub tlv_unique : (t u : ℕ) (a b x y : List ℕ) → tlv t a ++ x ≡ tlv u b ++ y → (t ≡ u) × (a ≡ b) × (x ≡ y)
unfolding tlv
tlv_unique t u a b x y e =
    let h = cons_same t u ((length_octets (length a) ++ a) ++ x) ((length_octets (length b) ++ b) ++ y) e in
    let k = octets_unique (length a) (length b) (a ++ x) (b ++ y) (simp append_assoc at h.1) in
    let r = append_same a b x y k.0 k.1 in
    (h.0, r.0, r.1)

-- its first byte is its tag
pub tlv_first : (t : ℕ) (a : List ℕ) → get_or (tlv t a) 0 0 ≡ t
unfolding tlv
tlv_first t a = refl

pub length_tlv : (t : ℕ) (a : List ℕ) → length (tlv t a) ≡ 1 + length (length_octets (length a)) + length a
unfolding tlv
length_tlv t a = simp length-append (omega arith)

pub tlv_long : (t : ℕ) (a : List ℕ) → 2 + length a ≤ length (tlv t a)
tlv_long t a = omega (arith, length_tlv t a, octets_some (length a))

octets_bytes : (n : ℕ) → n < length_bound → Bytes (length_octets n)
octets_bytes n h =
    either n 128
    (λ k. rw (octets_short n k) (omega arith, tt))
    (λ k. either n 256 (λ l. rw (octets_one n k l) (omega arith, (omega arith, tt)))
    (λ l. rw (octets_two n l h) (omega arith, (omega arith, (omega arith, tt)))))

pub tlv_bytes : (t : ℕ) (a : List ℕ) → t < 256 → length a < length_bound → Bytes a → Bytes (tlv t a)
unfolding tlv
tlv_bytes t a h k b = (h, bytes_append (length_octets (length a)) a (octets_bytes (length a) k) b)

-- the contents of an INTEGER: the digits, behind a zero if the first is 128 or more
integer_plain : (n : ℕ) → get_or (digits n) 0 0 < 128 → integer_octets n ≡ digits n
unfolding integer_octets
integer_plain n h = chosen_lt (get_or (digits n) 0 0) 128 _ _ h

integer_padded : (n : ℕ) → 128 ≤ get_or (digits n) 0 0 → integer_octets n ≡ 0 ∷ digits n
unfolding integer_octets
integer_padded n h = chosen_le (get_or (digits n) 0 0) 128 _ _ h

number_zero : (ds : List ℕ) → number (0 ∷ ds) ≡ number ds
unfolding number number_from
number_zero ds = refl

number_grows : (v : ℕ) (ds : List ℕ) → v ≤ number_from v ds
unfolding number_from
number_grows v [] = omega arith
number_grows v (d ∷ ds) = omega (arith, number_grows (v * 256 + d) ds)

pub integer_number : (n : ℕ) → number (integer_octets n) ≡ n
integer_number n =
    either (get_or (digits n) 0 0) 128
    (λ h. rw (integer_plain n h) (number_digits n))
    (λ h. rw (integer_padded n h, number_zero) (number_digits n))

-- digits without a leading zero, of a number below 2^31: at most four, and at most three if the
-- first is 128 or more
few : (l : List ℕ) → number l < integer_bound → (1 < length l → get_or l 0 0 ≡ 0 → ⊥) → (length l ≤ 4) × (128 ≤ get_or l 0 0 → length l ≤ 3)
unfolding number number_from
few [] h k = omega arith
few (a ∷ []) h k = omega arith
few (a ∷ b ∷ []) h k = omega arith
few (a ∷ b ∷ c ∷ []) h k = omega arith
few (a ∷ b ∷ c ∷ d ∷ []) h k = omega arith
few (a ∷ b ∷ c ∷ d ∷ e ∷ l) h k = absurd
    (omega (arith, number_grows (((((0 * 256 + a) * 256 + b) * 256 + c) * 256 + d) * 256 + e) l, k (omega arith)))

digits_first : (n : ℕ) → 1 < length (digits n) → get_or (digits n) 0 0 ≡ 0 → ⊥
digits_first n h e = either n 1 (λ k. omega (arith, ap length (digits_small n (omega arith)))) (λ k. digits_lead n k e)

pub integer_rule : (n : ℕ) → n < integer_bound → IntegerRule (integer_octets n)
integer_rule n h =
    let f = few (digits n) (rw (number_digits n) h) (digits_first n) in
    either (get_or (digits n) 0 0) 128
    (λ k. rw (integer_plain n k)
    record { some = digits_some n; four = f.0; positive = k; minimal = λ l e. absurd (digits_first n l e) })
    (λ k. rw (integer_padded n k)
    record { some = omega arith; four = omega (arith, f.1 k); positive = omega arith; minimal = λ l e. k })

-- and back: a body that keeps the rule is what its number is written as, and that is below 2^31
pub integer_octets_lem : (body : List ℕ) → Bytes body → IntegerRule body → integer_octets (number body) ≡ body
unfolding integer_octets digits digits_from number number_from
integer_octets_lem [] b r = absurd (omega arith)
integer_octets_lem (zero ∷ []) b r = refl
integer_octets_lem (zero ∷ c ∷ l) b r =
    let k : 128 ≤ c = r.minimal (omega arith) refl in
    let e = digits_number c l (omega arith) b.1 in
    integer_padded (number (c ∷ l)) (rw e k) ∙ ap (λ (d : List ℕ). 0 ∷ d) e
integer_octets_lem (suc a ∷ l) b r =
    let e = digits_number (suc a) l (omega arith) b in
    integer_plain (number (suc a ∷ l)) (rw e r.positive) ∙ e

pub integer_below : (body : List ℕ) → Bytes body → IntegerRule body → number body < integer_bound
unfolding number number_from
integer_below [] b r = omega arith
integer_below (a ∷ []) b r = omega arith
integer_below (a ∷ b ∷ []) p r = omega arith
integer_below (a ∷ b ∷ c ∷ []) p r = omega arith
integer_below (a ∷ b ∷ c ∷ d ∷ []) p r = omega arith
integer_below (a ∷ b ∷ c ∷ d ∷ e ∷ l) p r = absurd (omega (arith, r.four))
