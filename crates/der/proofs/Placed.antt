-- Where an accepted element is: its body behind its header and within its parent, and the
-- header's bytes. Why an element is refused by 1 or 15. Each fact is proved of the definition once,
-- by cases on its answer.
use mathlib.Core.Logic.{◌⊎◌, inl, inr}
use mathlib.Core.Path.{◌≡◌, refl, sym, ◌∙◌}
use mathlib.Core.Bool.{Bool, true, false}
use mathlib.Core.List.{List, [], ◌∷◌, ◌++◌}
use Prim.Native.Nat.{ℕ, zero, suc, ◌+◌, ◌*◌, ◌-◌, ◌/◌, ◌%◌, ◌≤◌, ◌<◌}
use native.Mathlib.Omega.{arith}
use lib.Dec.{ltb, eqb}
use lib.ListN.{length, get_or, drop}
use lib.Seq.{drop-cons}
use Rattle.std.specs.Prelude.{if◌then◌else◌}
use borrow.Author.Tests.{lt-ltb, le-ltb, le-leb, lt-leb, eq-eqb, leb-false, eqb-false}
use Rattle.der.specs.Numbers.{missing, tag_form, length_form, overrun, length_bound}
use Rattle.der.specs.Element.{cursor, fault, no_byte_left, within, one_octet, two_octets, extent_at}
use Rattle.der.specs.Element.{element_at, expect_at, on_result, on_element}
use Rattle.der.specs.Octets.{length_octets}
use Rattle.der.specs.Span.{Bytes}
use Rattle.der.specs.Overrun.{ByteLeft, HeaderCut, no_length, after_81, after_82, BodyPast, RunsPast}
use Rattle.der.specs.declared.Fault.{Fault}
use Rattle.der.specs.declared.Cursor.{Cursor}
use Rattle.der.specs.Element.{element}
use Rattle.der.specs.declared.Element.{Element}
use Rattle.std.specs.Prelude.{Err, Ok, Result}
use Rattle.der.proofs.Choices.{never, by_test, by_lt, by_le, by_eq}
use Rattle.der.proofs.Octets.{octets_short, octets_one, octets_two}
use Rattle.der.proofs.Spans.{span_of}

pub byte_at : (s : List ℕ) → Bytes s → (i : ℕ) → get_or s i 0 < 256
byte_at [] b i = omega arith
byte_at (x ∷ s) b zero = b.0
byte_at (x ∷ s) b (suc i) = byte_at s b.1 i

-- a byte is left exactly if the cursor is before its end and the bytes reach so far
pub left_is : (s : List ℕ) (c : Cursor) → c.at < c.end → c.end ≤ length s → no_byte_left s c ≡ false
unfolding no_byte_left
left_is s c h i = rw (le-ltb (length s) c.end i, lt-leb c.end c.at h)

pub left_none : (s : List ℕ) (c : Cursor) → c.end ≤ c.at → no_byte_left s c ≡ true
unfolding no_byte_left
left_none s c h = by_test (λ u. u ≡ true) _ _ (ltb (length s) c.end) (λ k. refl) (λ k. le-leb c.end c.at h)

left_of : (s : List ℕ) (c : Cursor) → no_byte_left s c ≡ false → (c.at < c.end) × (c.end ≤ length s)
unfolding no_byte_left
left_of s c = by_lt (λ u. u ≡ false → (c.at < c.end) × (c.end ≤ length s)) _ _ _ _ (λ k e. never (sym e))
    (λ k e. (leb-false _ _ e, k))

pub none_of : (s : List ℕ) (c : Cursor) → no_byte_left s c ≡ true → ByteLeft s c → ⊥
none_of s c e l = never (sym (left_is s c l.some l.inside) ∙ e)

pub none_is : (s : List ℕ) (c : Cursor) → (ByteLeft s c → ⊥) → no_byte_left s c ≡ true
none_is s c h = go (no_byte_left s c) refl
  where
    go : (u : Bool) → no_byte_left s c ≡ u → no_byte_left s c ≡ true
    go true e = e
    go false e = absurd (h (record { some = (left_of s c e).0; inside = (left_of s c e).1 }))

-- the same of a test u that the code made
pub left_within : (s : List ℕ) (c : Cursor) (u : Bool) → u ≡ no_byte_left s c → u ≡ false
    → (c.at < c.end) × (c.end ≤ length s)
left_within s c u p q = left_of s c (sym p ∙ q)

pub left_inside : (s : List ℕ) (c : Cursor) (u : Bool) → u ≡ no_byte_left s c → u ≡ false → c.end ≤ length s
left_inside s c u p q = (left_within s c u p q).1

-- the body b of the element at `at`, within a parent that ends at `end`
pub record BodyOf (s : List ℕ) (at end : ℕ) (b : Cursor) : Type 0 where
  pub past : at + 2 ≤ b.at
  pub size : b.at ≤ b.end
  pub within : b.end ≤ end
  pub small : Bytes s → b.end < b.at + length_bound
  pub octets : Bytes s → drop (at + 1) s ≡ length_octets (b.end - b.at) ++ drop b.at s

-- a refusal by the length of the element at `at`: never 1, and 15 only where the header has a byte
-- missing, or the body ends past the parent
record Late (s : List ℕ) (at end : ℕ) (f : Fault) : Type 0 where
  offset : f.offset ≡ at
  not_missing : f.number ≡ 1 → ⊥
  past : Bytes s → f.number ≡ 15 → HeaderCut s (cursor at end) ⊎ BodyPast s (cursor at end)

abbrev OfExtent : List ℕ → ℕ → ℕ → Result Cursor Fault → Type 0
OfExtent s at end (Err f) = Late s at end f
OfExtent s at end (Ok b) = BodyOf s at end b

-- two numbers that are written out differ
apart : {A : Type 0} (n m : ℕ) → eqb n m ≡ false → n ≡ m → A
apart n m p e = absurd (eqb-false n m p e)

form_of : (s : List ℕ) (at end : ℕ) → OfExtent s at end (Err (fault length_form at))
form_of s at end = record { offset = refl; not_missing = apart 3 1 refl; past = λ b. apart 3 15 refl }

past_of : (s : List ℕ) (at end : ℕ) → (Bytes s → HeaderCut s (cursor at end) ⊎ BodyPast s (cursor at end))
    → OfExtent s at end (Err (fault overrun at))
past_of s at end p = record { offset = refl; not_missing = apart 15 1 refl; past = λ b e. p b }

-- a body of `size` bytes from `start`, whose length octets are before it and within the parent
within_of : (s : List ℕ) (at end start size : ℕ) → at + 2 ≤ start → start ≤ end → end ≤ length s
    → (Bytes s → size < length_bound) → (Bytes s → drop (at + 1) s ≡ length_octets size ++ drop start s)
    → OfExtent s at end (within at start size end)
unfolding within
within_of s at end start size p w i q o =
    by_lt (OfExtent s at end) _ _ end (start + size)
    (λ h.
    past_of s at end
    (λ b. inr (record {
      size = size;
      start = start;
      small = q b;
      octets = span_of s (at + 1) start (length_octets size) (o b) (omega arith) (omega arith);
      whole = w;
      past = h;
    })))
    (λ h.
    let e : start + size - start ≡ size = omega arith in
    record { past = p; size = omega arith; within = h; small = λ b. omega (arith, q b); octets = λ b. rw e (o b) })

-- the bytes from an offset on, one by one
one_more_lem : (s : List ℕ) (i j : ℕ) → i < length s → i + 1 ≡ j → drop i s ≡ get_or s i 0 ∷ drop j s
one_more_lem s i j h e =
    let q : suc i ≡ j = omega arith in
    drop-cons s i 0 h ∙ rw q

-- each form of the length, in a parent that lies within the bytes
module _ (s : List ℕ) (at end : ℕ) (inside : end ≤ length s) where
  short_of : at + 1 < end → get_or s (at + 1) 0 < 128 → OfExtent s at end (within at (at + 2) (get_or s (at + 1) 0) end)
  short_of h k =
      within_of s at end (at + 2) (get_or s (at + 1) 0) (omega arith) (omega arith) inside (λ b. omega arith)
      (λ b. rw (octets_short (get_or s (at + 1) 0) k, one_more_lem s (at + 1) (at + 2) (omega arith) (omega arith)))

  one_of_lem : get_or s (at + 1) 0 ≡ 129 → at + 2 < end → 128 ≤ get_or s (at + 2) 0
      → OfExtent s at end (within at (at + 3) (get_or s (at + 2) 0) end)
  one_of_lem f h k =
      within_of s at end (at + 3) (get_or s (at + 2) 0) (omega arith) (omega arith) inside
      (λ b. omega (arith, byte_at s b (at + 2)))
      (λ b. rw (
        octets_one (get_or s (at + 2) 0) k (byte_at s b (at + 2)),
        one_more_lem s (at + 1) (at + 2) (omega arith) (omega arith),
        one_more_lem s (at + 2) (at + 3) (omega arith) (omega arith),
        f,
      ))

  two_of : get_or s (at + 1) 0 ≡ 130 → at + 3 < end → (get_or s (at + 2) 0 ≡ 0 → ⊥)
      → OfExtent s at end (within at (at + 4) (get_or s (at + 2) 0 * 256 + get_or s (at + 3) 0) end)
  two_of f h k =
      within_of s at end (at + 4) (get_or s (at + 2) 0 * 256 + get_or s (at + 3) 0) (omega arith) (omega arith) inside
      (λ b. omega (arith, byte_at s b (at + 2), byte_at s b (at + 3)))
      (λ b.
      let high : (get_or s (at + 2) 0 * 256 + get_or s (at + 3) 0) / 256 ≡ get_or s (at + 2) 0 =
      omega (arith, byte_at s b (at + 3)) in
      let low : (get_or s (at + 2) 0 * 256 + get_or s (at + 3) 0) % 256 ≡ get_or s (at + 3) 0 =
      omega (arith, byte_at s b (at + 3)) in
      rw (
        octets_two (get_or s (at + 2) 0 * 256 + get_or s (at + 3) 0) (omega arith)
            (omega (arith, byte_at s b (at + 2), byte_at s b (at + 3))),
        high,
        low,
        one_more_lem s (at + 1) (at + 2) (omega arith) (omega arith),
        one_more_lem s (at + 2) (at + 3) (omega arith) (omega arith),
        one_more_lem s (at + 3) (at + 4) (omega arith) (omega arith),
        f,
      ))

  cut_of : HeaderCut s (cursor at end) → OfExtent s at end (Err (fault overrun at))
  cut_of h = past_of s at end (λ b. inl h)

  extent_of : at < end → OfExtent s at end (extent_at s at end)
  unfolding extent_at one_octet two_octets
  extent_of some =
      by_le (OfExtent s at end) _ _ _ _ (λ h. cut_of (no_length (omega arith)))
      (λ h. by_lt (OfExtent s at end) _ _ _ _ (short_of h)
      (λ k. by_eq (OfExtent s at end) _ _ _ _
      (λ f. by_le (OfExtent s at end) _ _ _ _ (λ i. cut_of (after_81 f (omega arith)))
      (λ i. by_lt (OfExtent s at end) _ _ _ _ (λ j. form_of s at end) (one_of_lem f i)))
      (λ l. by_eq (OfExtent s at end) _ _ _ _
      (λ f. by_le (OfExtent s at end) _ _ _ _ (λ i. cut_of (after_82 f (omega arith) i))
      (λ i. by_eq (OfExtent s at end) _ _ _ _ (λ j. form_of s at end) (two_of f i)))
      (λ m. form_of s at end))))

-- an element found at a cursor: its tag is of a form that is taken, and its body is behind its
-- header, within its parent
pub record Placed (s : List ℕ) (c : Cursor) (t : ℕ) (b n : Cursor) : Type 0 where
  pub some : c.at < c.end
  pub inside : c.end ≤ length s
  pub tag : t ≡ get_or s c.at 0
  pub not_zero : t ≡ 0 → ⊥
  pub low_bits : t % 32 ≡ 31 → ⊥
  pub body : BodyOf s c.at c.end b
  pub next : n ≡ cursor b.end c.end

-- why an element is refused by 1, and why by 15
pub record Why (s : List ℕ) (c : Cursor) (f : Fault) : Type 0 where
  pub missing : f.number ≡ 1 → (ByteLeft s c → ⊥) × (f.offset ≡ c.end)
  pub past : Bytes s → f.number ≡ 15 → RunsPast s c × (f.offset ≡ c.at)

abbrev pub OfElement : List ℕ → Cursor → Result Element Fault → Type 0
OfElement s c (Err f) = Why s c f
OfElement s c (Ok x) = Placed s c x.tag x.body x.next

-- what holds of a refusal and of a body holds of what is made of an extent
pub by_extent : {A : Type 0} (P : A → Type 0) (Q : Result Cursor Fault → Type 0) (bad : Fault → A) (good : Cursor → A)
    → ((f : Fault) → Q (Err f) → P (bad f)) → ((b : Cursor) → Q (Ok b) → P (good b))
    → (x : Result Cursor Fault) → Q x → P (on_result x bad good)
by_extent P Q bad good f g (Err e) q = f e q
by_extent P Q bad good f g (Ok b) q = g b q

placed_of : (s : List ℕ) (c : Cursor) → c.end ≤ length s → c.at < c.end → (get_or s c.at 0 ≡ 0 → ⊥)
    → (get_or s c.at 0 % 32 ≡ 31 → ⊥)
    → OfElement s c (on_result (extent_at s c.at c.end) Err
    (λ b. Ok (element (get_or s c.at 0) b (cursor b.end c.end))))
placed_of s c h k l m =
    by_extent (OfElement s c) (OfExtent s c.at c.end) _ _
    (λ f p.
    record {
      missing = λ e. absurd (p.not_missing e);
      past = λ b e. (
        record {
          left = record { some = k; inside = h };
          form = record { not_zero = l; low_bits = m };
          past = p.past b e;
        },
        p.offset,
      );
    })
    (λ b p. record { some = k; inside = h; tag = refl; not_zero = l; low_bits = m; body = p; next = refl })
    (extent_at s c.at c.end) (extent_of s c.at c.end h k)

pub element_of_lem : (s : List ℕ) (c : Cursor) → OfElement s c (element_at s c)
unfolding element_at
element_of_lem s c =
    by_test (OfElement s c) _ _ _
    (λ h. record { missing = λ e. (none_of s c h, refl); past = λ b. apart 1 15 refl })
    (λ h. by_eq (OfElement s c) _ _ _ _ (λ l. tag_of)
    (λ l. by_eq (OfElement s c) _ _ _ _ (λ m. tag_of) (placed_of s c (left_of s c h).1 (left_of s c h).0 l)))
  where
    tag_of : Why s c (fault tag_form c.at)
    tag_of = record { missing = apart 2 1 refl; past = λ b. apart 2 15 refl }

-- no element where the parent is longer than the bytes
pub element_missing : (s : List ℕ) (c : Cursor) → length s < c.end → element_at s c ≡ Err (fault missing c.end)
unfolding element_at no_byte_left
element_missing s c h = rw (lt-ltb (length s) c.end h)

-- the element where a byte is left, as the code tests it
abbrev pub present_step : List ℕ → ℕ → ℕ → Result Element Fault
present_step s at end =
    if eqb (get_or s at 0) 0 then Err (fault tag_form at) else
    if eqb (get_or s at 0 % 0x20) 0x1F then Err (fault tag_form at) else
    on_result (extent_at s at end) Err (λ b. Ok (element (get_or s at 0) b (cursor b.end end)))

pub present_is : (s : List ℕ) (at end : ℕ) (r : Result Element Fault) → at < end → end ≤ length s
    → r ≡ present_step s at end → r ≡ element_at s (cursor at end)
unfolding element_at
present_is s at end r h i e = rw (left_is s (cursor at end) h i) e

-- the facts of an element that was found
pub found : (s : List ℕ) (c : Cursor) (w : Result Element Fault) (t : ℕ) (b n : Cursor) → w ≡ element_at s c
    → w ≡ Ok (element t b n) → Placed s c t b n
found s c w t b n p q = rw (sym p ∙ q) at (element_of_lem s c)

-- what holds of a refusal and of an element that is found holds of what is made of them
pub by_element : {A : Type 0} (P : A → Type 0) (Q : Result Element Fault → Type 0) (bad : Fault → A) (good : ℕ → Cursor → Cursor → A)
    → ((f : Fault) → P (bad f)) → ((t : ℕ) (b n : Cursor) → Q (Ok (element t b n)) → P (good t b n)) → (x : Result Element Fault) → Q x
    → P (on_element x bad good)
by_element P Q bad good f g (Err e) q = f e
by_element P Q bad good f g (Ok x) q = g x.tag x.body x.next q

-- an element with the tag that is due is one that was found
abbrev OfExpected : ℕ → List ℕ → Cursor → Result Element Fault → Type 0
OfExpected due s c (Err f) = Unit {0}
OfExpected due s c (Ok x) = (x.tag ≡ due) × (element_at s c ≡ Ok (element x.tag x.body x.next))

expected_of : (due : ℕ) (s : List ℕ) (c : Cursor) → OfExpected due s c (expect_at due s c)
unfolding expect_at
expected_of due s c =
    by_element (OfExpected due s c) (λ x. element_at s c ≡ x) _ _ (λ f. tt)
    (λ t b n p. by_eq (OfExpected due s c) _ _ t due (λ h. (h, p)) (λ h. tt))
    (element_at s c) refl

pub expected : (due : ℕ) (s : List ℕ) (c : Cursor) (w : Result Element Fault) (t : ℕ) (b n : Cursor)
    → w ≡ expect_at due s c → w ≡ Ok (element t b n) → (t ≡ due) × (element_at s c ≡ Ok (element t b n))
expected due s c w t b n p q = rw (sym p ∙ q) at (expected_of due s c)

-- a body that was found reaches no further than the bytes
pub expected_inside : (due : ℕ) (s : List ℕ) (c : Cursor) (w : Result Element Fault) (x : Element)
    → w ≡ expect_at due s c → w ≡ Ok x → x.body.end ≤ length s
expected_inside due s c w x p q =
    let o = found s c (element_at s c) x.tag x.body x.next refl (expected due s c w x.tag x.body x.next p q).1 in
    omega (arith, o.body.within, o.inside)

pub expect_is : (s : List ℕ) (c : Cursor) (t : ℕ) (b n : Cursor) → element_at s c ≡ Ok (element t b n)
    → expect_at t s c ≡ Ok (element t b n)
unfolding expect_at
expect_is s c t b n e = rw (e, eq-eqb t t refl)
