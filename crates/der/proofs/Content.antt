-- The laws of the bodies of OBJECT IDENTIFIER and INTEGER: the tests against the rules of X.690,
-- and the number that an INTEGER holds.
use mathlib.Core.Bool.{Bool, true, false}
use mathlib.Core.Path.{◌≡◌, refl, sym, ap, ◌∙◌}
use mathlib.Core.List.{List, [], ◌∷◌}
use Prim.Native.Nat.{ℕ, zero, suc, ◌+◌, ◌-◌, ◌*◌, ◌≤◌, ◌<◌}
use native.Mathlib.Nat.{add-zero, zero-add}
use native.Mathlib.Numerals.{add-one}
use native.Mathlib.Omega.{arith}
use mir.Val.{Fits}
use mir.Syntax.{w8}
use lib.Dec.{leb, ltb, eqb}
use lib.ListN.{length, get_or, take, length-take, drop_of_length-le}
use lib.Seq.{slice, slice-cons, length-slice, take-length, get_or-take, get_or-drop}
use borrow.Author.Tests.{ltb-true, ltb-false, leb-true, leb-false, eqb-true, eqb-false}
use borrow.Author.Tests.{lt-ltb, le-ltb, le-leb, lt-leb, eq-eqb, ne_eqb}
use Rattle.std.specs.Prelude.{if◌then◌else◌}
use Rattle.der.proofs.Choices.{never}
use Rattle.std.specs.Prelude.{Ok, Result}
use Rattle.der.specs.Element.{valued}
use Rattle.der.specs.declared.Fault.{Fault}
use Rattle.der.specs.declared.Integer.{Integer}
use Rattle.der.specs.Content.{breaks, parts, identifier_body, bytes_of, integer_body}
use Rattle.der.specs.Content.{and_digit, integer_value, IntegerAt}
use Rattle.der.specs.Octets.{number, number_from, IntegerRule, IdentifierRule}
use Rattle.der.specs.Content.{begins_at}
use Rattle.der.specs.declared.Cursor.{Cursor}

-- What a choice with a constant arm implies of its test and of its other arm.
both : (t v : Bool) → (if t then false else v) ≡ true → (t ≡ false) × (v ≡ true)
both true v e = never e
both false v e = (refl, e)

either : (t v : Bool) → (if t then true else v) ≡ true → t ≡ false → v ≡ true
either true v e f = never (sym f)
either false v e f = e

if_so : (t v : Bool) → (if t then v else true) ≡ true → t ≡ true → v ≡ true
if_so true v e f = e
if_so false v e f = never f

-- The bytes bs behind the byte p: the last of p and bs is below 128, and a byte behind one below
-- 128 is not 128.
record Tail (p : ℕ) (bs : List ℕ) : Type 0 where
  last : get_or (p ∷ bs) (length bs) 0 < 128
  later : (i : ℕ) → i < length bs → get_or (p ∷ bs) i 0 < 128 → get_or bs i 0 ≡ 128 → ⊥

unbroken : (p b : ℕ) → breaks (ltb p 128) b ≡ false → p < 128 → b ≡ 128 → ⊥
unbroken p b e h q = let z : false ≡ true = sym e ∙ rw (lt-ltb p 128 h, eq-eqb b 128 q) in never z

breaks_not : (p b : ℕ) (t : Bool) → ltb p 128 ≡ t → (p < 128 → b ≡ 128 → ⊥) → breaks t b ≡ false
breaks_not p b true e h = ne_eqb b 128 (h (ltb-true p 128 e))
breaks_not p b false e h = refl

longer : (p b : ℕ) (bs : List ℕ) → (p < 128 → b ≡ 128 → ⊥) → Tail b bs → Tail p (b ∷ bs)
longer p b bs h t = record { last = t.last; later = later_of }
  where
    later_of : (i : ℕ) → i < suc (length bs) → get_or (p ∷ b ∷ bs) i 0 < 128 → get_or (b ∷ bs) i 0 ≡ 128 → ⊥
    later_of zero k = h
    later_of (suc i) k = t.later i (omega arith)

shorter : (p b : ℕ) (bs : List ℕ) → Tail p (b ∷ bs) → Tail b bs
shorter p b bs t = record { last = t.last; later = λ i k. t.later (suc i) (omega arith) }

tail_of : (p : ℕ) (bs : List ℕ) → parts (ltb p 128) bs ≡ true → Tail p bs
unfolding parts
tail_of p [] e = record { last = ltb-true p 128 e; later = λ i k. absurd (omega arith) }
tail_of p (b ∷ bs) e =
    let q = both (breaks (ltb p 128) b) (parts (ltb b 128) bs) e in
    longer p b bs (unbroken p b q.0) (tail_of b bs q.1)

parts_of : (p : ℕ) (bs : List ℕ) → Tail p bs → parts (ltb p 128) bs ≡ true
unfolding parts
parts_of p [] t = lt-ltb p 128 t.last
parts_of p (b ∷ bs) t =
    rw (breaks_not p b (ltb p 128) refl (t.later 0 (omega arith))) (parts_of b bs (shorter p b bs t))

-- The rule of an identifier's body: its first byte is not 128, and the others are its `Tail`.
pub identifier_rule : (body : List ℕ) → identifier_body body ≡ true → IdentifierRule body
unfolding identifier_body parts
identifier_rule [] e = never e
identifier_rule (b ∷ bs) e =
    let q = both (eqb b 128) (parts (ltb b 128) bs) e in
    let t = tail_of b bs q.1 in
    let n : suc (length bs) - 1 ≡ length bs = omega arith in
    record {
      some = omega arith;
      last = rw n t.last;
      first = eqb-false b 128 q.0;
      later = λ i k. rw add-one (t.later i (omega arith));
    }

pub identifier_body_lem : (body : List ℕ) → IdentifierRule body → identifier_body body ≡ true
unfolding identifier_body parts
identifier_body_lem [] r = absurd (omega arith)
identifier_body_lem (b ∷ bs) r =
    let n : suc (length bs) - 1 ≡ length bs = omega arith in
    let t : Tail b bs = record { last = rw n at r.last; later = λ i k. rw add-one at (r.later i (omega arith)) } in
    rw (ne_eqb b 128 r.first) (parts_of b bs t)

-- The bytes of a slice.
get_d_slice : (s : List ℕ) (a e i : ℕ) → a + i < e → get_or (slice a e s) i 0 ≡ get_or s (a + i) 0
get_d_slice s a e i h = rw (get_or-drop, get_or-take)

slice_past : (s : List ℕ) (a e : ℕ) → e ≤ a → slice a e s ≡ []
slice_past s a e h = drop_of_length-le (take e s) {i = a} (simp length-take (omega arith))

-- The rule of an integer's body, read at the offsets of the file.
record Held (s : List ℕ) (a e : ℕ) : Type 0 where
  some : a < e
  four : e ≤ a + 4
  positive : get_or s a 0 < 128
  minimal : a + 1 < e → get_or s a 0 ≡ 0 → 128 ≤ get_or s (a + 1) 0

held_of : (s : List ℕ) (b : Cursor) → integer_body s b ≡ true → Held s b.at b.end
unfolding integer_body
held_of s b e =
    let p = both (leb b.end b.at) _ e in
    let q = both (ltb (b.at + 4) b.end) _ p.1 in
    let r = both (leb 128 (get_or s b.at 0)) _ q.1 in
    record {
      some = leb-false _ _ p.0;
      four = ltb-false _ _ q.0;
      positive = leb-false _ _ r.0;
      minimal = λ k z. leb-true _ _ (if_so _ _ (either _ _ r.1 (lt-leb _ _ k)) (eq-eqb _ _ z));
    }

minimal_of : (x y : ℕ) (t : Bool) → eqb x 0 ≡ t → (x ≡ 0 → 128 ≤ y) → (if t then leb 128 y else true) ≡ true
minimal_of x y true e h = le-leb _ _ (h (eqb-true _ _ e))
minimal_of x y false e h = refl

rest_of : (s : List ℕ) (a e : ℕ) (t : Bool) → leb e (a + 1) ≡ t → Held s a e
    → (if t then true else (if eqb (get_or s a 0) 0 then leb 128 (get_or s (a + 1) 0) else true)) ≡ true
rest_of s a e true q r = refl
rest_of s a e false q r = minimal_of _ _ _ refl (r.minimal (leb-false _ _ q))

of_held : (s : List ℕ) (b : Cursor) → Held s b.at b.end → integer_body s b ≡ true
unfolding integer_body
of_held s b r = rw (lt-leb _ _ r.some, le-ltb _ _ r.four, lt-leb _ _ r.positive)
    (rest_of s b.at b.end _ refl r)

-- A digit more, and the number of a body of at most four bytes.
module _ (s : List ℕ) (e : ℕ) (inside : e ≤ length s) where
  digit_more : (a v : ℕ) → a < e → number_from v (slice a e s) ≡ number_from (v * 256 + get_or s a 0) (slice (a + 1) e s)
  unfolding number_from
  digit_more a v h = rw (add-one, slice-cons a e s 0)

  and_digit_lem : (a v : ℕ) (t : Bool) → ltb a e ≡ t
      → number_from v (slice a e s) ≡ number_from (if t then v * 256 + get_or s a 0 else v) (slice (a + 1) e s)
  and_digit_lem a v true q = digit_more a v (ltb-true _ _ q)
  and_digit_lem a v false q = let h : e ≤ a = ltb-false _ _ q in
      rw (slice_past s a e h, slice_past s (a + 1) e (omega arith))

  digits_of : (a i v : ℕ)
      → number_from v (slice (a + i) e s) ≡ number_from (and_digit s e (a + i) v) (slice (a + (i + 1)) e s)
  unfolding and_digit
  digits_of a i v = let n : a + i + 1 ≡ a + (i + 1) = omega arith in rw (← n) (and_digit_lem (a + i) v _ refl)

-- The rules of an INTEGER's body, and its number.
module _ (s : List ℕ) (b : Cursor) (inside : b.end ≤ length s) where
  size : length (bytes_of s b) ≡ b.end - b.at
  size = length-slice b.at b.end s inside

  first_byte : b.at < b.end → get_or (bytes_of s b) 0 0 ≡ get_or s b.at 0
  first_byte h = get_d_slice s b.at b.end 0 (omega arith) ∙ rw add-zero

  second_byte : b.at + 1 < b.end → get_or (bytes_of s b) 1 0 ≡ get_or s (b.at + 1) 0
  second_byte h = get_d_slice s b.at b.end 1 h

  rule_of_held : Held s b.at b.end → IntegerRule (bytes_of s b)
  rule_of_held r = record {
    some = rw size (omega arith);
    four = rw size (omega arith);
    positive = rw (first_byte r.some) r.positive;
    minimal = λ k z. rw (second_byte (omega (arith, size)))
        (r.minimal (omega (arith, size)) (sym (first_byte r.some) ∙ z));
  }

  held_of_rule : IntegerRule (bytes_of s b) → Held s b.at b.end
  held_of_rule r =
      let h : b.at < b.end = omega (arith, size) in
      record {
        some = h;
        four = omega (arith, size);
        positive = rw (first_byte h) at r.positive;
        minimal = λ k z. rw (second_byte k) at (r.minimal (omega (arith, size)) (first_byte h ∙ z));
      }

  pub integer_rule_of : integer_body s b ≡ true → IntegerRule (bytes_of s b)
  integer_rule_of e = rule_of_held (held_of s b e)

  pub integer_body_of : IntegerRule (bytes_of s b) → integer_body s b ≡ true
  integer_body_of r = of_held s b (held_of_rule r)

  value_of : Held s b.at b.end → integer_value s b ≡ number (bytes_of s b)
  unfolding integer_value number number_from
  value_of r =
      let more = digits_of s b.end inside b.at in
      let one = digit_more s b.end inside b.at 0 r.some in
      sym (rw zero-add at one ∙ more 1 _ ∙ more 2 _ ∙ more 3 _ ∙ rw (slice_past s (b.at + 4) b.end r.four))

  pub integer_value_of : IntegerRule (bytes_of s b) → integer_value s b ≡ number (bytes_of s b)
  integer_value_of r = value_of (held_of_rule r)

-- A digit more is 256 times as much at most.
below : (x v k : ℕ) (t : Bool) → v < k → x < 256 → (if t then v * 256 + x else v) < k * 256
below x v k true h g = omega arith
below x v k false h g = omega arith

pub and_digit_below : (s : List ℕ) (end i v k : ℕ) → v < k → get_or s i 0 < 256 → and_digit s end i v < k * 256
unfolding and_digit
and_digit_below s end i v k h g = below (get_or s i 0) v k (ltb i end) h g

-- the same of a digit that the code read and the number that it made
pub and_digit_next : (s : List ℕ) (end i v k r : ℕ) → r ≡ and_digit s end i v → v < k → Fits w8 (get_or s i 0) → r < k * 256
and_digit_next s end i v k r e h f = rw e (and_digit_below s end i v k h f.fits)

-- what the code requires of a body before it reads the number, once the test u has passed
pub integer_at_lem : (s : List ℕ) (b : Cursor) (u : Bool) → u ≡ integer_body s b → u ≡ true
    → b.end ≤ length s → IntegerAt s b
integer_at_lem s b u p q h =
    let r = held_of s b (sym p ∙ q) in
    record { inside = h; some = r.some; first = r.positive }

-- an INTEGER by the number that was read
pub same_valued : (v w : ℕ) (n : Cursor) → v ≡ w → ◌≡◌ {A = Result Integer Fault} (Ok (valued v n)) (Ok (valued w n))
same_valued v w n e = ap {B = Result Integer Fault} (λ (i : ℕ). Ok (valued i n)) e

-- whether a byte breaks an identifier, as the code tests it: first the byte, then where it is
pub breaks_there : (begins u : Bool) (b : ℕ) → b ≡ 128 → u ≡ begins → u ≡ breaks begins b
breaks_there true u b e p = p ∙ sym (eq-eqb b 128 e)
breaks_there false u b e p = p

pub breaks_nowhere : (begins : Bool) (b : ℕ) → (b ≡ 128 → ⊥) → false ≡ breaks begins b
breaks_nowhere true b h = sym (ne_eqb b 128 h)
breaks_nowhere false b h = refl

-- a part begins at the first byte; behind another byte, if that is below 128
begins_first : (s : List ℕ) (from : ℕ) → begins_at s from from ≡ true
unfolding begins_at
begins_first s from = rw (le-leb from from (omega arith)) refl

begins_behind : (s : List ℕ) (from i : ℕ) → from ≤ i → begins_at s from (i + 1) ≡ ltb (get_or s i 0) 128
unfolding begins_at
begins_behind s from i h =
    let e : i + 1 - 1 ≡ i = omega arith in
    rw (lt-leb (i + 1) from (omega arith), e) refl

-- the loop over an identifier's bytes: no byte, a last byte that ends no part, and the first byte
module _ (s : List ℕ) (from to : ℕ) where
  pub parts_empty : to ≤ from → false ≡ identifier_body (slice from to s)
  unfolding identifier_body
  parts_empty h = rw (slice_past s from to h)

  last_byte : from < to → to ≤ length s
      → get_or (slice from to s) (length (slice from to s) - 1) 0 ≡ get_or s (to - 1) 0
  last_byte h k =
      let n : from + (to - from - 1) ≡ to - 1 = omega arith in
      rw (length-slice from to s k, get_d_slice s from to (to - from - 1) (omega arith), n) refl

  pub parts_open : from < to → to ≤ length s → 128 ≤ get_or s (to - 1) 0 → false ≡ identifier_body (slice from to s)
  parts_open h k l = go (identifier_body (slice from to s)) refl
    where
      go : (u : Bool) → identifier_body (slice from to s) ≡ u → false ≡ identifier_body (slice from to s)
      go false e = sym e
      go true e =
          let r = identifier_rule (slice from to s) e in
          absurd (omega (arith, rw (last_byte h k) at r.last))

  pub parts_start : from < to → to ≤ length s
      → identifier_body (slice from to s) ≡ parts (begins_at s from from) (slice from to s)
  unfolding identifier_body
  parts_start h k = rw (slice-cons from to s 0 h k, begins_first s from)

-- its two ways out and its turn; `whole` is the answer that is due
module _ (s : List ℕ) (from to i : ℕ) (whole : Bool) (e : whole ≡ parts (begins_at s from i) (slice i to s)) where
  pub parts_break : (u : Bool) → i < to - 1 → to ≤ length s → u ≡ breaks (begins_at s from i) (get_or s i 0) → u ≡ true
      → false ≡ whole
  unfolding parts
  parts_break u h k p q = sym (e ∙ rw (slice-cons i to s 0 (omega arith) k, sym p ∙ q))

  pub parts_more : (u : Bool) → from ≤ i → i < to - 1 → to ≤ length s → u ≡ breaks (begins_at s from i) (get_or s i 0)
      → u ≡ false → whole ≡ parts (begins_at s from (i + 1)) (slice (i + 1) to s)
  unfolding parts
  parts_more u l h k p q = e ∙ rw (begins_behind s from i l, slice-cons i to s 0 (omega arith) k, sym p ∙ q, add-one)

  pub parts_end : from < to → to ≤ length s → i ≤ to - 1 → to - 1 ≤ i → get_or s (to - 1) 0 < 128 → true ≡ whole
  unfolding parts
  parts_end f k l m b =
      let n : i ≡ to - 1 = omega arith in
      let d : get_or s i 0 < 128 = rw n b in
      let p = breaks_nowhere (begins_at s from i) (get_or s i 0) (λ z. omega arith) in
      sym (e ∙ rw (
        slice-cons i to s 0 (omega arith) k,
        sym p,
        lt-ltb (get_or s i 0) 128 d,
        slice_past s (suc i) to (omega arith),
      ) refl)

-- all the bytes, as the code names them
pub whole_body_lem : (r : Bool) (s : List ℕ) → r ≡ identifier_body (slice 0 (length s) s) → r ≡ identifier_body s
whole_body_lem r s e = rw (take-length s) at e
