-- Identifiers and integers at a cursor: accepted exactly if the bytes are an element whose body
-- keeps the rule.
use mathlib.Core.Bool.{true}
use mathlib.Core.Path.{◌≡◌, refl, sym, ap, ◌∙◌}
use mathlib.Core.List.{List}
use Prim.Native.Nat.{ℕ, ◌≤◌, ◌<◌}
use native.Mathlib.Omega.{arith}
use lib.ListN.{length}
use Rattle.der.specs.Numbers.{length_bound, integer_bound, identifier_tag, integer_tag}
use Rattle.der.specs.Element.{cursor, element_at, expect_at}
use Rattle.der.specs.Content.{bytes_of, identifier_body, identifier_at, integer_body, integer_value, integer_at}
use Rattle.der.specs.Octets.{tlv, number, integer_octets, IdentifierRule, IntegerRule}
use Rattle.der.specs.Span.{Span, Bytes}
use Rattle.der.specs.Follows.{IdentifierIs, IntegerIs}
use Rattle.der.specs.declared.Cursor.{Cursor}
use Rattle.der.specs.Element.{element, valued}
use Rattle.der.specs.declared.Element.{Element}
use Rattle.der.specs.declared.Fault.{Fault}
use Rattle.der.specs.declared.Integer.{Integer}
use Rattle.std.specs.Prelude.{Err, Ok, Result}
use Rattle.der.proofs.Choices.{by_test}
use Rattle.der.proofs.Placed.{by_element, expected, expect_is}
use Rattle.der.proofs.Octets.{integer_octets_lem, integer_below, integer_number, integer_rule}
use Rattle.der.proofs.Content.{identifier_rule, identifier_body_lem, integer_rule_of}
use Rattle.der.proofs.Content.{integer_body_of, integer_value_of}
use Rattle.der.proofs.Spans.{slice_span, bytes_take, bytes_drop}
use Rattle.der.proofs.Header.{tag_form_lem, header_then, header_sound, header_next, header_complete}

-- identifiers
abbrev OfIdentifier : List ℕ → Cursor → Result Element Fault → Type 0
OfIdentifier s c (Err f) = Unit {0}
OfIdentifier s c (Ok x) = (expect_at identifier_tag s c ≡ Ok (element x.tag x.body x.next)) × (identifier_body (bytes_of s x.body) ≡ true)

identifier_of_lem : (s : List ℕ) (c : Cursor) → OfIdentifier s c (identifier_at s c)
unfolding identifier_at
identifier_of_lem s c =
    by_element (OfIdentifier s c) (λ x. expect_at identifier_tag s c ≡ x) _ _ (λ f. tt)
    (λ t b n p. by_test (OfIdentifier s c) _ _ (identifier_body (bytes_of s b)) (λ h. (p, h)) (λ h. tt))
    (expect_at identifier_tag s c) refl

-- an identifier that was accepted is an element that was found
pub identified : (s : List ℕ) (c : Cursor) (w : Result Element Fault) (t : ℕ) (b n : Cursor) → w ≡ identifier_at s c → w ≡ Ok (element t b n)
    → element_at s c ≡ Ok (element t b n)
identified s c w t b n p q =
    let o = rw (sym p ∙ q) at (identifier_of_lem s c) in
    (expected identifier_tag s c (expect_at identifier_tag s c) t b n refl o.0).1

pub identifier_sound : (s : List ℕ) (c : Cursor) (t : ℕ) (b n : Cursor) → Bytes s
    → identifier_at s c ≡ Ok (element t b n) → IdentifierIs s c t b n
identifier_sound s c t b n bs e =
    let p = rw e at (identifier_of_lem s c) in
    let q = expected identifier_tag s c (expect_at identifier_tag s c) t b n refl p.0 in
    record { tag = q.0; header = header_sound s c t b n bs q.1; rule = identifier_rule (bytes_of s b) p.1 }

identifier_is : (s : List ℕ) (c b n : Cursor) → element_at s c ≡ Ok (element identifier_tag b n) → IdentifierRule (bytes_of s b)
    → identifier_at s c ≡ Ok (element identifier_tag b n)
unfolding identifier_at
identifier_is s c b n e r = rw (expect_is s c identifier_tag b n e, identifier_body_lem (bytes_of s b) r)

pub identifier_complete : (s : List ℕ) (c : Cursor) (t : ℕ) (b n : Cursor) → IdentifierIs s c t b n
    → identifier_at s c ≡ Ok (element t b n)
identifier_complete s c t b n h =
    rw h.tag (identifier_is s c b n (rw h.tag at (header_complete s c t b n h.header)) h.rule)

-- an identifier that is written is found; the continuation k takes the offset of its body
pub identifier_then : {P : Type 0} (s : List ℕ) (at e end : ℕ) (body : List ℕ) → IdentifierRule body
    → length body < length_bound
    → Span s at e (tlv identifier_tag body) → e ≤ end → end ≤ length s
    → ((b : ℕ) → identifier_at s (cursor at end) ≡ Ok (element identifier_tag (cursor b e) (cursor e end)) → Span s b e body → P)
    → P
identifier_then s at e end body r small p h i k =
    header_then s at e end identifier_tag body (tag_form_lem identifier_tag refl refl) small p h i
    (λ b f q. k b (identifier_is s (cursor at end) (cursor b e) (cursor e end) f (rw (slice_span s b e body q) r)) q)

-- integers
abbrev OfInteger : List ℕ → Cursor → Result Integer Fault → Type 0
OfInteger s c (Err f) = Unit {0}
OfInteger s c (Ok x) =
    (t : ℕ) × (b : Cursor) × (expect_at integer_tag s c ≡ Ok (element t b x.next)) × (integer_body s b ≡ true) × (x.value ≡ integer_value s b)

integer_of : (s : List ℕ) (c : Cursor) → OfInteger s c (integer_at s c)
unfolding integer_at
integer_of s c =
    by_element (OfInteger s c) (λ x. expect_at integer_tag s c ≡ x) _ _ (λ f. tt)
    (λ t b n p. by_test (OfInteger s c) _ _ (integer_body s b) (λ h. (t, b, p, h, refl)) (λ h. tt))
    (expect_at integer_tag s c) refl

pub integer_sound : (s : List ℕ) (c : Cursor) (v : ℕ) (n : Cursor) → Bytes s
    → integer_at s c ≡ Ok (valued v n) → IntegerIs s c v n
integer_sound s c v n bs e =
    let p = rw e at (integer_of s c) in
    let b = p.1 in
    let q = expected integer_tag s c (expect_at integer_tag s c) p.0 b n refl p.2 in
    let d = header_sound s c p.0 b n bs q.1 in
    let r = integer_rule_of s b d.body.inside p.3 in
    let bytes : Bytes (bytes_of s b) = bytes_drop _ b.at (bytes_take s b.end bs) in
    let value : v ≡ number (bytes_of s b) = p.4 ∙ integer_value_of s b d.body.inside r in
    let octets : bytes_of s b ≡ integer_octets v = rw value (sym (integer_octets_lem (bytes_of s b) bytes r)) in
    let o = header_next s c p.0 b n d in
    record { small = rw value (integer_below (bytes_of s b) bytes r); whole = rw (q.0, octets) at o.0; moved = o.1 }

integer_is : (s : List ℕ) (c b n : Cursor) → element_at s c ≡ Ok (element integer_tag b n) → b.end ≤ length s
    → IntegerRule (bytes_of s b)
    → integer_at s c ≡ Ok (valued (number (bytes_of s b)) n)
unfolding integer_at
integer_is s c b n e i r = rw (expect_is s c integer_tag b n e, integer_body_of s b i r, integer_value_of s b i r)

-- an INTEGER that is written is read
pub integer_then : (s : List ℕ) (at e end v : ℕ) → v < integer_bound → Span s at e (tlv integer_tag (integer_octets v))
    → e ≤ end → end ≤ length s
    → integer_at s (cursor at end) ≡ Ok (valued v (cursor e end))
integer_then s at e end v small p h i =
    header_then s at e end integer_tag (integer_octets v) (tag_form_lem integer_tag refl refl)
    (omega (arith, (integer_rule v small).four)) p h i
    (λ b f q.
    let r : bytes_of s (cursor b e) ≡ integer_octets v = slice_span s b e (integer_octets v) q in
    integer_is s (cursor at end) (cursor b e) (cursor e end) f q.inside (rw r (integer_rule v small))
    ∙ rw (r, integer_number v))

pub integer_complete : (s : List ℕ) (c : Cursor) (v : ℕ) (n : Cursor) → IntegerIs s c v n → integer_at s c ≡ Ok (valued v n)
integer_complete s c v n h =
    integer_then s c.at n.at c.end v h.small h.whole h.moved.within h.moved.inside
    ∙ ap ((λ x0. Ok (valued v x0))) (sym h.moved.next)
