-- When import and export return what.
use mathlib.Core.Path.{◌≡◌, refl, sym, ap, subst, ◌∙◌}
use mathlib.Core.Logic.{◌↔◌, inl, inr}
use mathlib.Core.List.{List}
use Prim.Native.Nat.{ℕ, ◌≤◌, ◌<◌}
use native.Mathlib.Omega.{arith}
use lib.Dec.{ltb}
use lib.ListN.{length, take, drop}
use lib.Seq.{take_at}
use borrow.Author.Tests.{lt-ltb, le-ltb, eq-eqb, ne_eqb}
use Rattle.std.specs.Prelude.{if◌then◌else◌, Err, Ok, Result}
use Rattle.der.specs.Element.{fault}
use Rattle.der.specs.Span.{Bytes}
use Rattle.der.specs.declared.Fault.{Fault}
use Rattle.der.proofs.Choices.{by_lt, by_eq, either}
use Rattle.buffer.specs.Numbers.{too_long, short_buffer}
use Rattle.buffer.specs.Written.{Outcome, length_of, refusal, success, into_buffer}
use Rattle.buffer.proofs.Outcomes.{written}
use Rattle.pem.specs.Numbers.{not_text}
use Rattle.pem.specs.Wrap.{wrap}
use Rattle.pem.specs.Judged.{judged, break_at}
use Rattle.pem.specs.Calls.{unwrapped, broken, imported_as, imported, exported}
use Rattle.pem.specs.declared.Break.{Break}
use Rattle.wrapping.specs.Text.{Text, RefusedAt}
use Rattle.wrapping.specs.Outcomes.{TextNumber, Imports, WrapsMore, LacksSpace, Exports, LacksTextSpace}
use Rattle.wrapping.proofs.Refused.{refused_at, judged_wraps, wrap_judged}
use Rattle.wrapping.proofs.Unwrapped.{unwrapped_wrap}

-- ---- what an answer has: the number of its refusal, 0 if there is none, and its offset

abbrev number_in : Result ℕ Fault → ℕ
number_in (Ok n) = 0
number_in (Err f) = f.number

abbrev offset_in : Result ℕ Fault → ℕ
offset_in (Ok n) = 0
offset_in (Err f) = f.offset

-- 1 for a refusal
abbrev kind_in : Result ℕ Fault → ℕ
kind_in (Ok n) = 0
kind_in (Err f) = 1

-- ---- into a buffer

into_by : (P : Outcome → Type 0) (x b : List ℕ) → (length b < length x → P (refusal short_buffer b))
    → (length x ≤ length b → P (success x b)) → P (into_buffer x b)
unfolding into_buffer
into_by P x b short fits = by_lt P (refusal short_buffer b) (success x b) (length b) (length x) short fits

lacks : (x b : List ℕ) → length b < length x → into_buffer x b ≡ refusal short_buffer b
unfolding into_buffer
lacks x b h = rw (lt-ltb (length b) (length x) h) refl

-- ---- import

module _ (t b : List ℕ) where
  -- a text wraps bytes, and they are what is unwrapped
  text_judged : (x : Text t) → judged t ≡ Ok (length x.bytes)
  text_judged x = rw x.is (wrap_judged x.bytes x.fit x.some)

  text_unwrapped : (x : Text t) → unwrapped t (length x.bytes) ≡ x.bytes
  text_unwrapped x = ap (λ (l : List ℕ). unwrapped l (length x.bytes)) x.is ∙ unwrapped_wrap x.bytes x.fit

  module _ (x : Text t) where
    -- 9, or these bytes into the buffer
    to_buffer : List ℕ → Outcome
    to_buffer l = if ltb 65_535 (length x.bytes) then refusal too_long b else into_buffer l b

    -- what import does with the text of bytes
    text_outcome : imported t b ≡ to_buffer x.bytes
    unfolding imported to_buffer
    text_outcome =
        ap (λ (j : Result ℕ Break). imported_as j t b) (text_judged x)
        ∙ ap to_buffer (text_unwrapped x)

    pub text_long : 65_535 < length x.bytes → imported t b ≡ refusal too_long b
    unfolding to_buffer
    text_long h = text_outcome ∙ rw (lt-ltb 65_535 (length x.bytes) h) refl

    pub text_into : length x.bytes ≤ 65_535 → imported t b ≡ into_buffer x.bytes b
    unfolding to_buffer
    text_into h = text_outcome ∙ rw (le-ltb 65_535 (length x.bytes) h) refl

  broken_outcome : (p : ℕ) → judged t ≡ Err (break_at p) → imported t b ≡ broken p b
  unfolding imported
  broken_outcome p e = ap (λ (j : Result ℕ Break). imported_as j t b) e

  -- every outcome of import, by its reason
  pub imported_by : (P : Outcome → Type 0) → ((p : ℕ) → RefusedAt t p → P (broken p b))
      → ((x : Text t) → 65_535 < length x.bytes → P (refusal too_long b))
      → ((x : Text t) → length x.bytes ≤ 65_535 → length b < length x.bytes → P (refusal short_buffer b))
      → ((x : Text t) → length x.bytes ≤ 65_535 → length x.bytes ≤ length b → P (success x.bytes b))
      → P (imported t b)
  imported_by P wrong long short fits = go (judged t) refl
    where
      wraps : (x : Text t) → P (imported t b)
      wraps x =
          either 65_535 (length x.bytes) (λ h. subst P (sym (text_long x h)) (long x h))
          (λ h. subst P (sym (text_into x h)) (into_by P x.bytes b (short x h) (fits x h)))

      go : (j : Result ℕ Break) → judged t ≡ j → P (imported t b)
      go (Err x) e = subst P (sym (broken_outcome x.offset e)) (wrong x.offset ((refused_at t x.offset).0 e))
      go (Ok m) e = wraps (judged_wraps t m e).text

  -- ---- each answer if and only if

  pub length_iff : (n : ℕ) → ((imported t b).answer ≡ Ok n) ↔ Imports t b n
  length_iff n = (
    imported_by (λ o. o.answer ≡ Ok n → Imports t b n)
        (λ p r e. absurd (omega (arith, ap number_in e)))
        (λ x h e. absurd (omega (arith, ap number_in e)))
        (λ x h k e. absurd (omega (arith, ap number_in e)))
        (λ x h k e.
        let z : length x.bytes ≡ n = ap length_of e in
        record { text = x; number = sym z; short = omega (arith, h, z); space = omega (arith, k, z) }),
    λ i.
        let x = i.text in
        let h : length x.bytes ≤ length b = omega (arith, i.number, i.space) in
        let o = text_into x (omega (arith, i.number, i.short)) ∙ written x.bytes b h in
        ap (λ (w : Outcome). w.answer) o ∙ ap {B = (Result ℕ Fault)} Ok (sym i.number),
  )

  pub not_text_iff : (p : ℕ) → ((imported t b).answer ≡ Err (fault 16 p)) ↔ RefusedAt t p
  not_text_iff p = (
    imported_by (λ o. o.answer ≡ Err (fault 16 p) → RefusedAt t p)
        (λ q r e. subst (RefusedAt t) (ap offset_in e) r)
        (λ x h e. absurd (omega (arith, ap number_in e)))
        (λ x h k e. absurd (omega (arith, ap number_in e)))
        (λ x h k e. absurd (omega (arith, ap number_in e))),
    λ r. ap (λ (w : Outcome). w.answer) (broken_outcome p ((refused_at t p).1 r)),
  )

  pub too_long_iff : (p : ℕ) → ((imported t b).answer ≡ Err (fault 9 p)) ↔ WrapsMore t p
  too_long_iff p = (
    imported_by (λ o. o.answer ≡ Err (fault 9 p) → WrapsMore t p)
        (λ q r e. absurd (omega (arith, ap number_in e)))
        (λ x h e. record { text = x; long = h; offset = sym (ap offset_in e) })
        (λ x h k e. absurd (omega (arith, ap number_in e)))
        (λ x h k e. absurd (omega (arith, ap number_in e))),
    λ m.
        ap (λ (w : Outcome). w.answer) (text_long m.text m.long)
        ∙ ap (λ (q : ℕ). Err (fault 9 q)) (sym m.offset),
  )

  pub short_buffer_iff : (p : ℕ) → ((imported t b).answer ≡ Err (fault 10 p)) ↔ LacksSpace t b p
  short_buffer_iff p = (
    imported_by (λ o. o.answer ≡ Err (fault 10 p) → LacksSpace t b p)
        (λ q r e. absurd (omega (arith, ap number_in e)))
        (λ x h e. absurd (omega (arith, ap number_in e)))
        (λ x h k e. record { text = x; short = h; lacking = k; offset = sym (ap offset_in e) })
        (λ x h k e. absurd (omega (arith, ap number_in e))),
    λ m.
        ap (λ (w : Outcome). w.answer) (text_into m.text m.short ∙ lacks m.text.bytes b m.lacking)
        ∙ ap (λ (q : ℕ). Err (fault 10 q)) (sym m.offset),
  )

  -- a refusal has one of these numbers, and the buffer is as before
  pub refused_by_lem : (f : Fault) → (imported t b).answer ≡ Err f
      → TextNumber f × ((imported t b).buffer ≡ b)
  refused_by_lem f =
      imported_by
      (λ o. o.answer ≡ Err f → TextNumber f × (o.buffer ≡ b))
      (λ p r e. (inl (sym (ap number_in e)), refl))
      (λ x h e. (inr (inl (sym (ap number_in e))), refl))
      (λ x h k e. (inr (inr (sym (ap number_in e))), refl))
      (λ x h k e. absurd (omega (arith, ap kind_in e)))

-- ---- export

module _ (x b : List ℕ) where
  -- every outcome of export, by its reason
  pub exported_by : (P : Outcome → Type 0) → (length x ≡ 0 → P (refusal not_text b))
      → (65_535 < length x → P (refusal too_long b))
      → (1 ≤ length x → length x ≤ 65_535 → length b < length (wrap x) → P (refusal short_buffer b))
      → (1 ≤ length x → length x ≤ 65_535 → length (wrap x) ≤ length b → P (success (wrap x) b)) → P (exported x b)
  unfolding exported
  exported_by P none long short fits =
      by_eq P (refusal not_text b) _ (length x) 0 none
      (λ n. by_lt P (refusal too_long b) (into_buffer (wrap x) b) 65_535 (length x) long
      (λ h. into_by P (wrap x) b (short (omega (arith, n)) h) (fits (omega (arith, n)) h)))

  pub export_into : 1 ≤ length x → length x ≤ 65_535 → exported x b ≡ into_buffer (wrap x) b
  unfolding exported
  export_into s h = rw (ne_eqb (length x) 0 (λ e. absurd (omega (arith, s, e))), le-ltb 65_535 (length x) h) refl

  export_none : length x ≡ 0 → exported x b ≡ refusal not_text b
  unfolding exported
  export_none e = rw (eq-eqb (length x) 0 e) refl

  export_long : 65_535 < length x → exported x b ≡ refusal too_long b
  unfolding exported
  export_long h = rw (ne_eqb (length x) 0 (λ e. absurd (omega (arith, h, e))), lt-ltb 65_535 (length x) h) refl

  pub export_length_iff : (n : ℕ) → ((exported x b).answer ≡ Ok n) ↔ Exports x b n
  export_length_iff n = (
    exported_by (λ o. o.answer ≡ Ok n → Exports x b n)
        (λ z e. absurd (omega (arith, ap number_in e)))
        (λ h e. absurd (omega (arith, ap number_in e)))
        (λ s h k e. absurd (omega (arith, ap number_in e)))
        (λ s h k e.
        let z : length (wrap x) ≡ n = ap length_of e in
        record { some = s; short = h; number = sym z; space = omega (arith, k, z) }),
    λ i.
        let h : length (wrap x) ≤ length b = omega (arith, i.number, i.space) in
        ap (λ (w : Outcome). w.answer) (export_into i.some i.short ∙ written (wrap x) b h)
        ∙ ap {B = (Result ℕ Fault)} Ok (sym i.number),
  )

  pub export_none_iff : (p : ℕ) → ((exported x b).answer ≡ Err (fault 16 p)) ↔ ((length x ≡ 0) × (p ≡ 0))
  export_none_iff p = (
    exported_by (λ o. o.answer ≡ Err (fault 16 p) → (length x ≡ 0) × (p ≡ 0))
        (λ z e. (z, sym (ap offset_in e)))
        (λ h e. absurd (omega (arith, ap number_in e)))
        (λ s h k e. absurd (omega (arith, ap number_in e)))
        (λ s h k e. absurd (omega (arith, ap number_in e))),
    λ r.
        ap (λ (w : Outcome). w.answer) (export_none r.0)
        ∙ ap (λ (q : ℕ). Err (fault 16 q)) (sym r.1),
  )

  pub export_long_iff : (p : ℕ)
      → ((exported x b).answer ≡ Err (fault 9 p)) ↔ ((65_535 < length x) × (p ≡ 0))
  export_long_iff p = (
    exported_by (λ o. o.answer ≡ Err (fault 9 p) → (65_535 < length x) × (p ≡ 0))
        (λ z e. absurd (omega (arith, ap number_in e)))
        (λ h e. (h, sym (ap offset_in e)))
        (λ s h k e. absurd (omega (arith, ap number_in e)))
        (λ s h k e. absurd (omega (arith, ap number_in e))),
    λ r.
        ap (λ (w : Outcome). w.answer) (export_long r.0)
        ∙ ap (λ (q : ℕ). Err (fault 9 q)) (sym r.1),
  )

  pub export_short_iff : (p : ℕ) → ((exported x b).answer ≡ Err (fault 10 p)) ↔ LacksTextSpace x b p
  export_short_iff p = (
    exported_by (λ o. o.answer ≡ Err (fault 10 p) → LacksTextSpace x b p)
        (λ z e. absurd (omega (arith, ap number_in e)))
        (λ h e. absurd (omega (arith, ap number_in e)))
        (λ s h k e. record { some = s; short = h; lacking = k; offset = sym (ap offset_in e) })
        (λ s h k e. absurd (omega (arith, ap number_in e))),
    λ m.
        ap (λ (w : Outcome). w.answer) (export_into m.some m.short ∙ lacks (wrap x) b m.lacking)
        ∙ ap (λ (q : ℕ). Err (fault 10 q)) (sym m.offset),
  )

  -- a refusal has one of these numbers, and the buffer is as before
  pub export_refused_by : (f : Fault) → (exported x b).answer ≡ Err f
      → TextNumber f × ((exported x b).buffer ≡ b)
  export_refused_by f =
      exported_by
      (λ o. o.answer ≡ Err f → TextNumber f × (o.buffer ≡ b))
      (λ z e. (inl (sym (ap number_in e)), refl))
      (λ h e. (inr (inl (sym (ap number_in e))), refl))
      (λ s h k e. (inr (inr (sym (ap number_in e))), refl))
      (λ s h k e. absurd (omega (arith, ap kind_in e)))

pub export_text : (x b : List ℕ) → 1 ≤ length x → length x ≤ 65_535 → length (wrap x) ≤ length b
    → exported x b ≡ success (wrap x) b
export_text x b s h k = export_into x b s h ∙ written (wrap x) b k

pub import_bytes : (x b : List ℕ) → Bytes x → 1 ≤ length x → length x ≤ 65_535 → length x ≤ length b
    → imported (wrap x) b ≡ success x b
import_bytes x b f s h k =
    text_into (wrap x) b (record { bytes = x; fit = f; some = s; is = refl }) h ∙ written x b k

-- ---- each undoes the other

-- the bytes of a success
front_of_lem : (x b : List ℕ) (n : ℕ) → n ≡ length x → take n (success x b).buffer ≡ x
front_of_lem x b n e = take_at x (drop (length x) b) n (sym e)

module _ (x b c : List ℕ) (n : ℕ) (fit : Bytes x) where
  pub export_import : (exported x b).answer ≡ Ok n → length x ≤ length c
      → imported (take n (exported x b).buffer) c ≡ success x c
  export_import e h =
      let i = (export_length_iff x b n).0 e in
      let o : exported x b ≡ success (wrap x) b =
      export_text x b i.some i.short (omega (arith, i.number, i.space)) in
      let t : take n (exported x b).buffer ≡ wrap x =
      ap (λ (w : Outcome). take n w.buffer) o ∙ front_of_lem (wrap x) b n i.number in
      ap (λ (l : List ℕ). imported l c) t ∙ import_bytes x c fit i.some i.short h

module _ (t b c : List ℕ) (n : ℕ) where
  pub import_export : (imported t b).answer ≡ Ok n → length t ≤ length c
      → exported (take n (imported t b).buffer) c ≡ success t c
  import_export e h =
      let i = (length_iff t b n).0 e in
      let x = i.text.bytes in
      let short : length x ≤ 65_535 = omega (arith, i.number, i.short) in
      let o : imported t b ≡ success x b =
      text_into t b i.text short ∙ written x b (omega (arith, i.number, i.space)) in
      let f : take n (imported t b).buffer ≡ x =
      ap (λ (w : Outcome). take n w.buffer) o ∙ front_of_lem x b n i.number in
      let w : wrap x ≡ t = sym i.text.is in
      ap (λ (l : List ℕ). exported l c) f
      ∙ export_into x c i.text.some short
      ∙ ap (λ (l : List ℕ). into_buffer l c) w
      ∙ written t c h

-- ---- one text for one list of bytes

pub wrap_one : (x y : List ℕ) → Bytes x → Bytes y → 1 ≤ length x → 1 ≤ length y → wrap x ≡ wrap y → x ≡ y
wrap_one x y p q s r e =
    sym (unwrapped_wrap x p)
    ∙ ap (λ (l : List ℕ). unwrapped l (length x)) e
    ∙ ap (λ (n : ℕ). unwrapped (wrap y) n) same
    ∙ unwrapped_wrap y q
  where
    bytes_in : Result ℕ Break → ℕ
    bytes_in (Ok n) = n
    bytes_in (Err x) = x.offset

    same : length x ≡ length y
    same = ap bytes_in (sym (wrap_judged x p s) ∙ ap judged e ∙ wrap_judged y q r)
