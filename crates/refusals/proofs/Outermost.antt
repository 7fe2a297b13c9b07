-- A file that is refused at 0 by 1 or 15: by 1 if and only if it is empty, and by 15 if and only if
-- its outermost element runs past its end.
use mathlib.Core.Bool.{false}
use mathlib.Core.Path.{◌≡◌, refl, sym, ◌∙◌}
use mathlib.Core.List.{List, [], ◌∷◌}
use Prim.Native.Nat.{ℕ, ◌+◌, ◌≤◌}
use native.Mathlib.Omega.{arith}
use lib.Dec.{eqb}
use lib.ListN.{length, take, drop, length-drop}
use lib.Seq.{take-length, length-take-le}
use borrow.Author.Tests.{eqb-false}
use Rattle.der.specs.Element.{fault, whole_of, element_at}
use Rattle.der.specs.Content.{bytes_of}
use Rattle.der.specs.Span.{Bytes}
use Rattle.der.specs.Overrun.{RunsPast}
use Rattle.der.specs.declared.Element.{Element}
use Rattle.der.specs.declared.Fault.{Fault}
use Rattle.std.specs.Prelude.{Err, Ok, Result}
use Rattle.der.proofs.Choices.{either}
use Rattle.der.proofs.Laws.{missing_iff, overrun_iff}
use Rattle.pkcs12.specs.Walk.{read_file}
use Rattle.refusals.specs.Element.{left, Made, stops, Rule, wrong, header, closed, element, constructed}
use Rattle.refusals.specs.Grammar.{pfx, none_made}
use Rattle.refusals.proofs.Headers.{Lies, Same, header_same}
use Rattle.refusals.proofs.Kept.{Kept, Keeps, closed_kept, body_keeps}
use Rattle.refusals.proofs.Fronts.{in_body, by_sequence}
use Rattle.refusals.proofs.Refused.{refused_stops, stops_refused, too_long_lem, not_long}

-- ---- the header of a file, as the walk reads it

whole_lies : (f : List ℕ) → Lies f (whole_of f)
whole_lies f = record { order = omega arith; inside = omega arith }

same_whole : (f : List ℕ) → Same f 0 (length f) (element_at f (whole_of f)) (header f)
same_whole f =
    let w : bytes_of f (whole_of f) ≡ f = take-length f in
    rw w at (header_same f (whole_of f) (whole_lies f))

element_header : (f : List ℕ) (n p : ℕ) → element_at f (whole_of f) ≡ Err (fault n p) → header f ≡ wrong n
element_header f n p e = (rw e at (same_whole f)).0

header_element : (f : List ℕ) (n : ℕ) → header f ≡ wrong n → element_at f (whole_of f) ≡ Err (fault n 0)
header_element f n e = go (element_at f (whole_of f)) (same_whole f)
  where
    go : (x : Result Element Fault) → Same f 0 (length f) x (header f) → x ≡ Err (fault n 0)
    go (Err g) q =
        let z : wrong g.number ≡ wrong n = sym q.0 ∙ e in
        let u : g.number ≡ n = cc in
        let v : g.offset ≡ 0 = q.1 in
        rw (sym u, sym v) refl
    go (Ok x) q =
        let z = sym q.0 ∙ e in
        let y : ◌≡◌ {A = ℕ} 0 1 = cc in
        absurd (omega arith)

-- ---- a SEQUENCE at 0: where the account stops at 0 by another number than 4, the header is wrong

module _ (rule : Rule) (keeps : Keeps rule) (made : Made) (f : List ℕ) (n : ℕ) (other : eqb 4 n ≡ false) where
  -- an account of the body stops past the header
  past_header : (h size : ℕ) (y : List ℕ) → h + length y ≡ length f → size ≤ length y → 2 ≤ h
      → closed (in_body rule made h size y) (left (length f) []) ≡ stops n 0 → ⊥
  past_header h size y e k m q =
      let t = length-take-le size y k in
      let d = length-drop size y in
      let body : Kept h (length f) (in_body rule made h size y) =
      closed_kept h (0 + h) (0 + h + length (take size y)) (length f) (rule made (left (0 + h) (take size y)))
      (left (0 + h + size) (drop size y)) (omega arith) (omega arith) (keeps.kept made (left (0 + h) (take size y)))
      (omega arith) (omega arith) in
      let whole : Kept h (length f) (stops n 0) =
      rw q at (closed_kept h h (length f) (length f) (in_body rule made h size y) (left (length f) []) (omega arith)
      (omega arith) body (omega arith) (omega arith)) in
      omega (arith, whole.1)

  stops_header : closed (constructed 0x30 rule made (left 0 f)) (left (length f) []) ≡ stops n 0 → header f ≡ wrong n
  stops_header =
      by_sequence (λ a. closed a (left (length f) []) ≡ stops n 0 → header f ≡ wrong n) rule made f
      (λ k e c. let z : k ≡ n = cc in rw (sym z) e)
      (λ c. let z : 4 ≡ n = cc in absurd (eqb-false 4 n other z))
      (λ h size y e q c. absurd (past_header h size y q.0 q.1 q.2 c))

-- ---- the file

refused_header : (f : List ℕ) (n : ℕ) → eqb 4 n ≡ false → eqb 9 n ≡ false
    → (read_file f).answer ≡ Err (fault n 0) → (length f ≤ 65535) × (header f ≡ wrong n)
unfolding pfx
refused_header f n p q e =
    let a = refused_stops f n 0 e in
    either 65535 (length f)
    (λ h.
    let z : stops 9 0 ≡ stops n 0 = sym (too_long_lem f h) ∙ a in
    let y : 9 ≡ n = cc in
    absurd (eqb-false 9 n q y))
    (λ h. (h, stops_header _ body_keeps none_made f n p (sym (not_long f h) ∙ a)))

header_refused : (f : List ℕ) (n : ℕ) → length f ≤ 65535 → header f ≡ wrong n
    → (read_file f).answer ≡ Err (fault n 0)
unfolding pfx element
header_refused f n h e = stops_refused f n 0 (not_long f h ∙ rw e refl)

pub empty_sound : (f : List ℕ) → (read_file f).answer ≡ Err (fault 1 0) → f ≡ []
empty_sound [] e = refl
empty_sound (b ∷ f) e =
    let h = refused_header (b ∷ f) 1 refl refl e in
    let m = (missing_iff (b ∷ f) (whole_of (b ∷ f)) 0).0 (header_element (b ∷ f) 1 h.1) in
    absurd (m.0 (record { some = omega arith; inside = omega arith }))

pub empty_complete : (f : List ℕ) → f ≡ [] → (read_file f).answer ≡ Err (fault 1 0)
unfolding header
empty_complete f e = rw e (header_refused [] 1 (omega arith) refl)

pub overrun_sound : (f : List ℕ) → Bytes f → (read_file f).answer ≡ Err (fault 15 0)
    → (length f ≤ 65535) × RunsPast f (whole_of f)
overrun_sound f bytes e =
    let h = refused_header f 15 refl refl e in
    (h.0, ((overrun_iff f (whole_of f) 0 bytes).0 (header_element f 15 h.1)).0)

pub overrun_complete : (f : List ℕ) → Bytes f → (length f ≤ 65535) × RunsPast f (whole_of f)
    → (read_file f).answer ≡ Err (fault 15 0)
overrun_complete f bytes h =
    header_refused f 15 h.0 (element_header f 15 0 ((overrun_iff f (whole_of f) 0 bytes).1 (h.1, refl)))
