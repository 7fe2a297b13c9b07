-- A header is accepted exactly if the bytes are `tlv` of a tag and a body that ends within its
-- parent. An element is refused by 1 exactly where no byte is left, and by 15 exactly where it runs
-- past its parent.
use mathlib.Core.Bool.{false}
use mathlib.Core.Logic.{◌⊎◌, inl, inr}
use mathlib.Core.Path.{◌≡◌, refl, ◌∙◌}
use mathlib.Core.List.{List, [], ◌∷◌, ◌++◌}
use Prim.Native.Nat.{ℕ, ◌+◌, ◌*◌, ◌-◌, ◌/◌, ◌%◌, ◌≤◌, ◌<◌}
use native.Mathlib.Omega.{arith}
use lib.Dec.{eqb}
use lib.ListN.{length, get_or, drop}
use lib.Seq.{length-slice}
use borrow.Author.Tests.{lt-ltb, le-ltb, le-leb, lt-leb, ne_eqb, eqb-false}
use Rattle.der.specs.Element.{cursor, fault, tag_at, finish_at, within, one_octet, two_octets, extent_at, element_at}
use Rattle.der.specs.Numbers.{left_over, overrun, no_tag, length_bound}
use Rattle.der.specs.Content.{bytes_of}
use Rattle.der.specs.Octets.{length_octets, tlv, TagForm}
use Rattle.der.specs.Span.{Span, Bytes}
use Rattle.der.specs.Follows.{Moved, HeaderIs}
use Rattle.der.specs.Element.{on_result}
use Rattle.std.specs.Prelude.{Result}
use Rattle.der.specs.declared.Fault.{Fault}
use Rattle.der.specs.Overrun.{ByteLeft, HeaderCut, no_length, after_81, after_82, BodyPast, RunsPast}
use Rattle.der.specs.declared.Cursor.{Cursor}
use Rattle.der.specs.Element.{checked, element}
use Rattle.std.specs.Prelude.{Err, Ok}
use Rattle.der.proofs.Choices.{either}
use Rattle.der.proofs.Octets.{octets_short, octets_one, octets_two}
use Rattle.der.proofs.Placed.{found, element_of_lem, left_is, left_none, none_is}
use Rattle.der.proofs.Spans.{span_one, span_of, span_join, span_split, span_at, span_slice, span_to}

-- a tag that is written out is of a form that is taken: both tests compute
pub tag_form_lem : (t : ℕ) → eqb t 0 ≡ false → eqb (t % 32) 31 ≡ false → TagForm t
tag_form_lem t p q = record { not_zero = eqb-false t 0 p; low_bits = eqb-false (t % 32) 31 q }

-- a body that ends within its parent, and one that ends past it
within_fits : (at b n end : ℕ) → b + n ≤ end → within at b n end ≡ Ok (cursor b (b + n))
unfolding within
within_fits at b n end h = rw (le-ltb end (b + n) h)

within_past : (at b n end : ℕ) → end < b + n → within at b n end ≡ Err (fault overrun at)
unfolding within
within_past at b n end h = rw (lt-ltb end (b + n) h)

-- the length octets n behind a tag are read as a body of n bytes from b
module _ (s : List ℕ) (at end b n : ℕ) (whole : b ≤ end) where
  within_is : (start size : ℕ) → start ≡ b → size ≡ n → within at start size end ≡ within at b n end
  within_is start size p q = rw (p, q)

  -- the three forms, by the octets behind the tag
  short_is : Span s (at + 1) b (n ∷ []) → n < 128 → extent_at s at end ≡ within at b n end
  unfolding extent_at
  short_is p h =
      let g : get_or s (at + 1) 0 ≡ n = span_at s (at + 1) b 0 (at + 1) (n ∷ []) p (omega arith) (omega arith) in
      rw (lt-leb end (at + 1) (omega (arith, p.size)), lt-ltb (get_or s (at + 1) 0) 128 (omega arith))
      (within_is (at + 2) (get_or s (at + 1) 0) (omega (arith, p.size)) g)

  one_is : Span s (at + 1) b (129 ∷ n ∷ []) → 128 ≤ n → extent_at s at end ≡ within at b n end
  unfolding extent_at one_octet
  one_is p h =
      let f : get_or s (at + 1) 0 ≡ 129 = span_at s (at + 1) b 0 (at + 1) (129 ∷ n ∷ []) p (omega arith) (omega arith) in
      let g : get_or s (at + 2) 0 ≡ n = span_at s (at + 1) b 1 (at + 2) (129 ∷ n ∷ []) p (omega arith) (omega arith) in
      rw (
        f,
        lt-leb end (at + 1) (omega (arith, p.size)),
        lt-leb end (at + 2) (omega (arith, p.size)),
        le-ltb (get_or s (at + 2) 0) 128 (omega arith),
      )
      (within_is (at + 3) (get_or s (at + 2) 0) (omega (arith, p.size)) g)

  two_is : Span s (at + 1) b (130 ∷ (n / 256) ∷ (n % 256) ∷ []) → 256 ≤ n → extent_at s at end ≡ within at b n end
  unfolding extent_at two_octets
  two_is p h =
      let f : get_or s (at + 1) 0 ≡ 130 =
      span_at s (at + 1) b 0 (at + 1) (130 ∷ (n / 256) ∷ (n % 256) ∷ []) p (omega arith) (omega arith) in
      let g : get_or s (at + 2) 0 ≡ n / 256 =
      span_at s (at + 1) b 1 (at + 2) (130 ∷ (n / 256) ∷ (n % 256) ∷ []) p (omega arith) (omega arith) in
      let i : get_or s (at + 3) 0 ≡ n % 256 =
      span_at s (at + 1) b 2 (at + 3) (130 ∷ (n / 256) ∷ (n % 256) ∷ []) p (omega arith) (omega arith) in
      rw (
        f,
        lt-leb end (at + 1) (omega (arith, p.size)),
        lt-leb end (at + 3) (omega (arith, p.size)),
        ne_eqb (get_or s (at + 2) 0) 0 (λ z. omega arith),
      )
      (within_is (at + 4) (get_or s (at + 2) 0 * 256 + get_or s (at + 3) 0) (omega (arith, p.size)) (omega arith))

  extent_is : Span s (at + 1) b (length_octets n) → n < length_bound → extent_at s at end ≡ within at b n end
  extent_is p h =
      either n 128
      (λ k. short_is (rw (octets_short n k) at p) k)
      (λ k. either n 256 (λ l. one_is (rw (octets_one n k l) at p) k) (λ l. two_is (rw (octets_two n l h) at p) l))

-- a header that has a byte missing
cut_is : (s : List ℕ) (c : Cursor) → HeaderCut s c
    → extent_at s c.at c.end ≡ Err (fault overrun c.at)
unfolding extent_at one_octet two_octets
cut_is s c (no_length e) = rw (le-leb c.end (c.at + 1) (omega arith))
cut_is s c (after_81 g e) =
    rw (g, lt-leb c.end (c.at + 1) (omega arith), le-leb c.end (c.at + 2) (omega arith))
cut_is s c (after_82 g h k) =
    rw (g, lt-leb c.end (c.at + 1) (omega arith), le-leb c.end (c.at + 3) k)

-- a header or a body that runs past its parent
past_is : (s : List ℕ) (c : Cursor) → HeaderCut s c ⊎ BodyPast s c
    → extent_at s c.at c.end ≡ Err (fault overrun c.at)
past_is s c (inl h) = cut_is s c h
past_is s c (inr h) =
    extent_is s c.at c.end h.start h.size h.whole h.octets h.small
    ∙ within_past c.at h.start h.size c.end h.past

element_is : (s : List ℕ) (at end t : ℕ) (x : Result Cursor Fault) → end ≤ length s → at < end → get_or s at 0 ≡ t → TagForm t
    → extent_at s at end ≡ x
    → element_at s (cursor at end) ≡ on_result x Err (λ b. Ok (element t b (cursor b.end end)))
unfolding element_at
element_is s at end t x i l g form e =
    rw (left_is s (cursor at end) l i, g, ne_eqb t 0 form.not_zero, ne_eqb (t % 32) 31 form.low_bits, e) refl

-- what is written as `tlv` is found; the continuation k takes the offset of the body
pub header_then : {P : Type 0} (s : List ℕ) (at e end t : ℕ) (body : List ℕ) → TagForm t → length body < length_bound
    → Span s at e (tlv t body) → e ≤ end → end ≤ length s
    → ((b : ℕ) → element_at s (cursor at end) ≡ Ok (element t (cursor b e) (cursor e end)) → Span s b e body → P) → P
unfolding tlv
header_then s at e end t body form small p h i k =
    span_split s at e (t ∷ []) (length_octets (length body) ++ body) p
    (λ a q r.
    span_split s a e (length_octets (length body)) body r
    (λ b o c.
    let z : at + 1 ≡ a = q.size in
    let g : get_or s at 0 ≡ t = span_at s at a 0 at (t ∷ []) q (omega arith) (omega arith) in
    let x : extent_at s at end ≡ Ok (cursor b e) =
    rw (← c.size)
    (extent_is s at end b (length body) (omega (arith, c.size)) (rw (← z) at o) small
    ∙ within_fits at b (length body) end (omega (arith, c.size))) in
    k b (element_is s at end t (Ok (cursor b e)) i (omega (arith, o.size, c.size)) g form x) c))

-- what is found is written as `tlv`, in a list of bytes
pub header_sound : (s : List ℕ) (c : Cursor) (t : ℕ) (b n : Cursor) → Bytes s
    → element_at s c ≡ Ok (element t b n) → HeaderIs s c t b n
unfolding tlv
header_sound s c t b n bs e =
    let p = found s c (element_at s c) t b n refl e in
    let inside : b.end ≤ length s = omega (arith, p.body.within, p.inside) in
    let body = span_slice s b.at b.end p.body.size inside in
    let size : length (bytes_of s b) ≡ b.end - b.at = length-slice b.at b.end s inside in
    let octets : drop (c.at + 1) s ≡ length_octets (length (bytes_of s b)) ++ drop b.at s =
    rw size (p.body.octets bs) in
    let tag : Span s c.at (c.at + 1) (t ∷ []) =
    rw p.tag (span_one s c.at (omega (arith, p.some, p.inside))) in
    let length-of = span_of s (c.at + 1) b.at (length_octets (length (bytes_of s b))) octets
    (omega (arith, p.body.past)) (omega (arith, p.body.size)) in
    record {
      form = record { not_zero = p.not_zero; low_bits = p.low_bits };
      small = omega (arith, size, p.body.small bs, p.body.size);
      body = body;
      whole = span_join s _ _ _ _ _ tag (span_join s _ _ _ _ _ length-of body);
      moved = record { within = p.body.within; inside = p.inside; next = p.next };
    }

pub header_complete : (s : List ℕ) (c : Cursor) (t : ℕ) (b n : Cursor) → HeaderIs s c t b n
    → element_at s c ≡ Ok (element t b n)
header_complete s c t b n h =
    header_then s c.at b.end c.end t (bytes_of s b) h.form h.small h.whole
    h.moved.within h.moved.inside
    (λ a e p.
    let z : a ≡ b.at = omega (arith, p.size, h.body.size) in
    e ∙ rw (z, h.moved.next))

-- the refusals 1 and 15 of an element
pub missing_sound : (s : List ℕ) (c : Cursor) (p : ℕ) → element_at s c ≡ Err (fault 1 p)
    → (ByteLeft s c → ⊥) × (p ≡ c.end)
missing_sound s c p e = (rw e at (element_of_lem s c)).missing refl

pub missing_complete : (s : List ℕ) (c : Cursor) (p : ℕ) → (ByteLeft s c → ⊥) × (p ≡ c.end)
    → element_at s c ≡ Err (fault 1 p)
unfolding element_at
missing_complete s c p h = rw (none_is s c h.0, h.1) refl

pub overrun_sound : (s : List ℕ) (c : Cursor) (p : ℕ) → Bytes s → element_at s c ≡ Err (fault 15 p)
    → RunsPast s c × (p ≡ c.at)
overrun_sound s c p b e = (rw e at (element_of_lem s c)).past b refl

pub overrun_complete : (s : List ℕ) (c : Cursor) (p : ℕ) → RunsPast s c × (p ≡ c.at)
    → element_at s c ≡ Err (fault 15 p)
overrun_complete s c p h =
    let r = h.0 in
    rw h.1
    (element_is s c.at c.end (get_or s c.at 0) (Err (fault overrun c.at)) r.left.inside
    r.left.some refl r.form (past_is s c r.past))

-- the cursor past an element is at its body's end
pub header_next : (s : List ℕ) (c : Cursor) (t : ℕ) (b n : Cursor) → HeaderIs s c t b n
    → Span s c.at n.at (tlv t (bytes_of s b)) × Moved s c n.at n
header_next s c t b n h =
    let stop : b.end ≡ n.at = rw h.moved.next in
    (span_to s c.at b.end n.at (tlv t (bytes_of s b)) stop h.whole, rw stop at h.moved)

-- what is left in a parent, and the next byte
pub finish_done : (c : Cursor) → c.end ≤ c.at → finish_at c ≡ Ok (checked 0 c)
unfolding finish_at
finish_done c h = rw (le-ltb c.at c.end h)

pub finish_left : (c : Cursor) → c.at < c.end → finish_at c ≡ Err (fault left_over c.at)
unfolding finish_at
finish_left c h = rw (lt-ltb c.at c.end h)

pub finish_sound : (c : Cursor) → finish_at c ≡ Ok (checked 0 c) → c.end ≤ c.at
finish_sound c e =
    either c.at c.end
    (λ h. let z = finish_left c h in let y : Err (fault left_over c.at) ≡ Ok (checked 0 c) = cc in
    let x : ◌≡◌ {A = ℕ} 0 1 = cc in absurd (omega arith))
    (λ h. h)

pub tag_left : (s : List ℕ) (c : Cursor) → c.at < c.end → c.end ≤ length s → tag_at s c ≡ get_or s c.at 0
unfolding tag_at
tag_left s c h i = rw (left_is s c h i)

pub tag_none : (s : List ℕ) (c : Cursor) → c.end ≤ c.at → tag_at s c ≡ no_tag
unfolding tag_at
tag_none s c h = rw (left_none s c h)
