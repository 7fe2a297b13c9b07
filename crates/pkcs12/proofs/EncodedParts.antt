-- What the parts that make no row are written as is read: up to its end, wherever it is in a file
-- of at most 65,535 bytes.
use mathlib.Core.Bool.{Bool, true, false}
use mathlib.Core.Path.{◌≡◌, refl, sym, ◌∙◌}
use mathlib.Core.List.{List, [], ◌∷◌, ◌++◌}
use Prim.Native.Nat.{ℕ, ◌+◌, ◌%◌, ◌≤◌, ◌<◌}
use native.Mathlib.Omega.{arith}
use lib.Dec.{eqb}
use lib.ListN.{length, get_or}
use borrow.Author.Tests.{lt-ltb, le-ltb, lt-leb}
use Rattle.std.specs.Prelude.{if◌then◌else◌}
use Rattle.der.specs.Numbers.{octet_string_tag, identifier_tag, integer_tag, integer_bound, opaque_levels, sequence_tag}
use Rattle.der.specs.Numbers.{context_tag}
use Rattle.der.specs.Element.{cursor, tag_at, finish_at, expect_at}
use Rattle.der.specs.Content.{bytes_of, identifier_at}
use Rattle.der.specs.Opaque.{opaque_at}
use Rattle.der.specs.Octets.{tlv, integer_octets, TagForm, IdentifierRule, integer, identifier, sequence, octet_string}
use Rattle.der.specs.Span.{Span}
use Rattle.der.specs.declared.Cursor.{Cursor}
use Rattle.der.specs.Element.{checked, element}
use Rattle.der.specs.declared.Fault.{Fault}
use Rattle.pkcs12.specs.Table.{parsed}
use Rattle.pkcs12.specs.declared.answers.Parsed.{Parsed}
use Rattle.std.specs.Prelude.{Err, Ok, Result}
use Rattle.der.proofs.Choices.{by_eq}
use Rattle.der.proofs.Placed.{expect_is}
use Rattle.der.proofs.Octets.{tlv_first, tlv_long}
use Rattle.der.proofs.Trees.{tree_element}
use Rattle.der.proofs.Spans.{span_split, span_at, slice_span}
use Rattle.der.proofs.Header.{tag_form_lem, header_then, finish_done, tag_left, tag_none}
use Rattle.der.proofs.Values.{identifier_then, integer_then}
use Rattle.der.proofs.Grammar.{tree_accepted}
use Rattle.buffer.specs.Numbers.{file_bytes}
use Rattle.pkcs12.specs.Numbers.{ciphertext_tag, encrypted_version, default_iterations}
use Rattle.range.specs.Bytes.{same_bytes}
use Rattle.pkcs12.specs.Identifiers.{data_type, x509_certificate}
use Rattle.pkcs12.specs.Syntax.{Algorithm, Sealed, Attribute, Set, Safe, plain, encrypted, MacData}
use Rattle.pkcs12.specs.Encode.{algorithm_bytes, sealed_bytes, content_info, data_bytes, attribute_bytes, bag_bytes}
use Rattle.pkcs12.specs.Encode.{encrypted_info, safe_bytes, iterations_bytes, mac_bytes}
use Rattle.pkcs12.specs.Valid.{Opaque, OpaqueWith, AtMostOne, ValidAlgorithm, ValidSealed, ValidMac}
use Rattle.pkcs12.specs.Walk.{algorithm_at, sealed_at, key_at, value_at, typed_at, encrypted_info_at, encrypted_at}
use Rattle.pkcs12.specs.Walk.{iterations_at, mac_at}
use Rattle.range.specs.Range.{range}
use Rattle.range.specs.declared.Range.{Range}
use Rattle.pkcs12.specs.declared.row.Parts.{Parts}
use Rattle.pkcs12.specs.declared.kind.BagKind.{BagKind}
use Rattle.pkcs12.specs.declared.row.Mac.{Mac}
use Rattle.range.proofs.SameBytes.{same_self}
use Rattle.pkcs12.proofs.Named.{data_rule}

-- parts were found, and n is the cursor past them
abbrev pub Ends : Result (Parsed Parts) Fault → Cursor → Type 0
Ends (Err f) n = ⊥
Ends (Ok x) n = x.next ≡ n

pub parts_then : {P : Type 0} (x : Result (Parsed Parts) Fault) (n : Cursor) → Ends x n → ((p : Parts) (m : ℕ) → x ≡ Ok (parsed p m n) → P) → P
parts_then (Err f) n h k = absurd h
parts_then (Ok x) n h k = k x.value x.count (rw h)

-- the same of a MAC
abbrev pub MacEnds : Result (Parsed Mac) Fault → Cursor → Type 0
MacEnds (Err f) n = ⊥
MacEnds (Ok y) n = y.next ≡ n

pub mac_then : {P : Type 0} (x : Result (Parsed Mac) Fault) (n : Cursor) → MacEnds x n → ((y : Mac) (m : ℕ) → x ≡ Ok (parsed y m n) → P) → P
mac_then (Err f) n h k = absurd h
mac_then (Ok x) n h k = k x.value x.count (rw h)

-- what is written is not empty
some_byte : (t : ℕ) (body : List ℕ) → 1 ≤ length (tlv t body)
some_byte t body = omega (arith, tlv_long t body)

pub attribute_some : (a : Attribute) → 1 ≤ length (attribute_bytes a)
unfolding attribute_bytes
attribute_some a = some_byte _ _

pub bag_some : (k : BagKind) (content : List ℕ) (set : Set) → 1 ≤ length (bag_bytes k content set)
unfolding bag_bytes
bag_some k content set = some_byte _ _

pub safe_some : (x : Safe) → 1 ≤ length (safe_bytes x)
unfolding safe_bytes data_bytes content_info
safe_some (plain xs) = some_byte _ _
safe_some (encrypted x) = some_byte _ _

pub mac_some : (m : MacData) → 1 ≤ length (mac_bytes m)
unfolding mac_bytes
mac_some m = some_byte _ _

-- nothing is left where a cursor is at its end
pub finished : (e : ℕ) → finish_at (cursor e e) ≡ Ok (checked 0 (cursor e e))
finished e = finish_done (cursor e e) (omega arith)

module _ (s : List ℕ) (small : length s ≤ file_bytes) where
  -- an element that is written is found; the continuation k takes the offset of its body
  found_then : {P : Type 0} (t at e end : ℕ) (body : List ℕ) → TagForm t → Span s at e (tlv t body) → e ≤ end → end ≤ length s
      → ((b : ℕ) → expect_at t s (cursor at end) ≡ Ok (element t (cursor b e) (cursor e end)) → Span s b e body → P) → P
  found_then t at e end body form p h i k =
      header_then s at e end t body form (omega (arith, p.size, tlv_long t body)) p h i
      (λ b f q. k b (expect_is s (cursor at end) t (cursor b e) (cursor e end) f) q)

  -- the same of a tag that is written out
  pub expect_then : {P : Type 0} (t at e end : ℕ) (body : List ℕ) → eqb t 0 ≡ false → eqb (t % 32) 31 ≡ false
      → Span s at e (tlv t body) → e ≤ end → end ≤ length s
      → ((b : ℕ) → expect_at t s (cursor at end) ≡ Ok (element t (cursor b e) (cursor e end)) → Span s b e body → P) → P
  expect_then t at e end body u v p h i k = found_then t at e end body (tag_form_lem t u v) p h i k

  -- the next byte is its tag
  pub tag_of : (t at e end : ℕ) (body : List ℕ) → Span s at e (tlv t body) → e ≤ end → end ≤ length s → tag_at s (cursor at end) ≡ t
  tag_of t at e end body p h i =
      let l : 2 + length body ≤ length (tlv t body) = tlv_long t body in
      tag_left s (cursor at end) (omega (arith, p.size)) i ∙ span_at s at e 0 at (tlv t body) p (omega arith) (omega arith) ∙ tlv_first t body

  -- a SEQUENCE of x and y; the continuation k takes the offset where they meet
  pub sequence_then : {P : Type 0} (at e end : ℕ) (x y : List ℕ) → Span s at e (sequence (x ++ y)) → e ≤ end → end ≤ length s
      → ((b m : ℕ) → expect_at sequence_tag s (cursor at end) ≡ Ok (element sequence_tag (cursor b e) (cursor e end)) → Span s b m x → Span s m e y → m ≤ e → P) → P
  sequence_then at e end x y p h i k =
      expect_then sequence_tag at e end (x ++ y) refl refl p h i (λ b f q. span_split s b e x y q (λ m o r. k b m f o r (omega (arith, r.size))))

  -- a SEQUENCE of an identifier and y
  pub named_then : {P : Type 0} (at e end : ℕ) (name y : List ℕ) → IdentifierRule name → Span s at e (sequence (identifier name ++ y))
      → e ≤ end → end ≤ length s
      → ((b c m : ℕ) → expect_at sequence_tag s (cursor at end) ≡ Ok (element sequence_tag (cursor b e) (cursor e end))
      → identifier_at s (cursor b e) ≡ Ok (element identifier_tag (cursor c m) (cursor m e)) → bytes_of s (cursor c m) ≡ name → Span s m e y → P) → P
  named_then at e end name y r p h i k =
      sequence_then at e end (identifier name) y p h i
      (λ b m f q z l.
      identifier_then s b m e name r (omega (arith, q.size, q.inside, tlv_long identifier_tag name)) q l z.inside
      (λ c g w. k b c m f g (slice_span s c m name w) z))

  -- an opaque element is checked
  pub opaque_then : {P : Type 0} (at e end : ℕ) (x : List ℕ) → Opaque x → Span s at e x → e ≤ end → end ≤ length s
      → ((m : ℕ) → opaque_at opaque_levels s (cursor at end) ≡ Ok (checked m (cursor e end)) → P) → P
  opaque_then at e end x o p h i k =
      k _ (tree_accepted s o.as_tree opaque_levels at e end o.formed (omega (arith, o.depth)) (rw (← o.whole) at p) h i)

  -- an AlgorithmIdentifier
  algorithm_of : (name x : List ℕ) (at e end : ℕ) → IdentifierRule name → AtMostOne x → Span s at e (sequence (identifier name ++ x))
      → e ≤ end → end ≤ length s → Ends (algorithm_at s (cursor at end)) (cursor e end)
  unfolding algorithm_at
  algorithm_of name [] at e end r o p h i =
      named_then at e end name [] r p h i (λ b c m f g w z. rw (f, g, le-ltb m e (omega (arith, z.size))) refl)
  algorithm_of name (x ∷ xs) at e end r o p h i =
      named_then at e end name (x ∷ xs) r p h i
      (λ b c m f g w z.
      opaque_then m e e (x ∷ xs) o z (omega arith) z.inside
      (λ n j. rw (f, g, lt-ltb m e (omega (arith, z.size)), j, finished e) refl))

  pub algorithm_passes : (a : Algorithm) (at e end : ℕ) → ValidAlgorithm a → Span s at e (algorithm_bytes a)
      → e ≤ end → end ≤ length s → Ends (algorithm_at s (cursor at end)) (cursor e end)
  unfolding algorithm_bytes
  algorithm_passes a at e end v p h i = algorithm_of a.identifier a.parameters at e end v.identifier v.parameters p h i

  -- an algorithm and an OCTET STRING
  pub sealed_passes : (x : Sealed) (at e end : ℕ) → ValidSealed x → Span s at e (sealed_bytes x) → e ≤ end → end ≤ length s
      → Ends (sealed_at s (cursor at end)) (cursor e end)
  unfolding sealed_bytes sealed_at
  sealed_passes x at e end v p h i =
      sequence_then at e end (algorithm_bytes x.algorithm) (octet_string x.octets) p h i
      (λ b m f q r l.
      parts_then (algorithm_at s (cursor b e)) (cursor m e) (algorithm_passes x.algorithm b m e v q l r.inside)
      (λ a n g.
      expect_then octet_string_tag m e e x.octets refl refl r (omega arith) r.inside
      (λ o j w. rw (f, g, j, finished e) refl)))

  -- an opaque element is found with its tag
  tagged_then : {P : Type 0} (t at e end : ℕ) (x : List ℕ) → Opaque x → get_or x 0 0 ≡ t → Span s at e x → e ≤ end → end ≤ length s
      → ((b : ℕ) → expect_at t s (cursor at end) ≡ Ok (element t (cursor b e) (cursor e end)) → P) → P
  tagged_then t at e end x o d p h i k =
      tree_element o.as_tree o.formed
      (λ u body form z.
      let y : x ≡ tlv u body = sym o.whole ∙ z in
      let v : u ≡ t = sym (tlv_first u body) ∙ rw y at d in
      found_then t at e end body (rw v at form) (rw (y, v) at p) h i (λ b f q. k b f))

  -- an opaque SEQUENCE
  pub key_passes : (x : List ℕ) (at e end : ℕ) → OpaqueWith sequence_tag x → Span s at e x → e ≤ end → end ≤ length s
      → Ends (key_at s (cursor at end)) (cursor e end)
  unfolding key_at
  key_passes x at e end o p h i =
      tagged_then sequence_tag at e end x o.opaque o.due p h i
      (λ b f. opaque_then at e end x o.opaque p h i (λ m g. rw (f, g) refl))

  -- an opaque element, an OCTET STRING where f requires one
  value_then : {P : Type 0} (f : Bool) (at e end : ℕ) (x : List ℕ) → Opaque x → (f ≡ true → get_or x 0 0 ≡ octet_string_tag) → Span s at e x
      → e ≤ end → end ≤ length s → ((m : ℕ) → value_at f s (cursor at end) ≡ Ok (checked m (cursor e end)) → P) → P
  unfolding value_at
  value_then true at e end x o d p h i k =
      tagged_then octet_string_tag at e end x o (d refl) p h i (λ b f. opaque_then at e end x o p h i (λ m g. k m (rw (f, g))))
  value_then false at e end x o d p h i k = opaque_then at e end x o p h i k

  -- an identifier and A0 with one opaque element
  pub typed_passes : (f : Bool) (name x : List ℕ) (at e end : ℕ) → IdentifierRule name → Opaque x
      → ((if f then same_bytes name x509_certificate else false) ≡ true → get_or x 0 0 ≡ octet_string_tag)
      → Span s at e (sequence (identifier name ++ tlv context_tag x)) → e ≤ end → end ≤ length s → Ends (typed_at f s (cursor at end)) (cursor e end)
  unfolding typed_at
  typed_passes f name x at e end r o d p h i =
      named_then at e end name (tlv context_tag x) r p h i
      (λ b c m g j w z.
      expect_then context_tag m e e x refl refl z (omega arith) z.inside
      (λ a y t.
      value_then (if f then same_bytes name x509_certificate else false) a e e x o d t (omega arith) t.inside
      (λ n u. rw (g, j, y, w, u, finished e) refl)))

  -- identifier data, an algorithm and a ciphertext
  info_passes : (x : Sealed) (at e end : ℕ) → ValidSealed x → Span s at e (encrypted_info x) → e ≤ end → end ≤ length s
      → Ends (encrypted_info_at s (cursor at end)) (cursor e end)
  unfolding encrypted_info encrypted_info_at
  info_passes x at e end v p h i =
      named_then at e end data_type (algorithm_bytes x.algorithm ++ tlv ciphertext_tag x.octets) data_rule p h i
      (λ b c m f g w z.
      span_split s m e (algorithm_bytes x.algorithm) (tlv ciphertext_tag x.octets) z
      (λ n y r.
      parts_then (algorithm_at s (cursor m e)) (cursor n e) (algorithm_passes x.algorithm m n e v y (omega (arith, r.size)) r.inside)
      (λ a k j.
      expect_then ciphertext_tag n e e x.octets refl refl r (omega arith) r.inside
      (λ o u t.
      rw (f, g, w, same_self data_type, j, lt-leb e n (omega (arith, r.size, tlv_long ciphertext_tag x.octets)), u, finished e) refl))))

  -- version INTEGER 0 and what is encrypted
  pub encrypted_passes : (x : Sealed) (at e end : ℕ) → ValidSealed x → Span s at e (sequence (integer encrypted_version ++ encrypted_info x))
      → e ≤ end → end ≤ length s → Ends (encrypted_at s (cursor at end)) (cursor e end)
  unfolding encrypted_at
  encrypted_passes x at e end v p h i =
      sequence_then at e end (integer encrypted_version) (encrypted_info x) p h i
      (λ b m f q z l.
      parts_then (encrypted_info_at s (cursor m e)) (cursor e e) (info_passes x m e e v z (omega arith) z.inside)
      (λ a k g. rw (f, integer_then s b m e encrypted_version (omega arith) q l z.inside, g, finished e) refl))

  -- the number of iterations, or none
  iterations_pass : (n at e : ℕ) (p : Parts) (salt : Range) (k : ℕ) → 1 ≤ n → n < integer_bound → Span s at e (iterations_bytes n)
      → MacEnds (iterations_at s p salt k (cursor at e)) (cursor e e)
  unfolding iterations_bytes iterations_at
  iterations_pass n at e p salt k l u =
      by_eq (λ x. Span s at e x → MacEnds (iterations_at s p salt k (cursor at e)) (cursor e e)) _ _ n default_iterations
      (λ z q.
      let y : at ≡ e = omega (arith, q.size) in
      rw (y, tag_none s (cursor e e) (omega arith), finished e) refl)
      (λ z q.
      rw (
        tag_of integer_tag at e e (integer_octets n) q (omega arith) q.inside,
        integer_then s at e e n u q (omega arith) q.inside,
        lt-leb n default_iterations (omega arith),
        finished e,
      )
      refl)

  -- a MacData
  pub mac_passes : (m : MacData) (at e end : ℕ) → ValidMac m → Span s at e (mac_bytes m) → e ≤ end → end ≤ length s
      → MacEnds (mac_at s (cursor at end)) (cursor e end)
  unfolding mac_bytes mac_at
  mac_passes m at e end v p h i =
      sequence_then at e end (sealed_bytes m.digest) (octet_string m.salt ++ iterations_bytes m.iterations) p h i
      (λ b a f q z l.
      parts_then (sealed_at s (cursor b e)) (cursor a e) (sealed_passes m.digest b a e v.digest q l z.inside)
      (λ d k g.
      span_split s a e (octet_string m.salt) (iterations_bytes m.iterations) z
      (λ n y r.
      expect_then octet_string_tag a n e m.salt refl refl y (omega (arith, r.size)) r.inside
      (λ c j w.
      mac_then (iterations_at s d (range c n) (k + 2) (cursor n e)) (cursor e e)
      (iterations_pass m.iterations n e d (range c n) (k + 2) (omega (arith, v.some))
      (omega (arith, v.bound)) r)
      (λ x o u. rw (f, g, j, u) refl)))))
