-- Parts that were accepted, in a list of bytes: the value that they hold, by the rules, where it
-- is, and its elements.
use mathlib.Core.Bool.{Bool, true, false}
use mathlib.Core.Path.{◌≡◌, refl, sym}
use mathlib.Core.List.{List, [], ◌++◌}
use Prim.Native.Nat.{ℕ, ◌+◌, ◌≤◌}
use lib.ListN.{get_or}
use Rattle.std.specs.Prelude.{if◌then◌else◌}
use Rattle.der.specs.Numbers.{octet_string_tag, opaque_levels, sequence_tag, context_tag}
use Rattle.der.specs.Content.{bytes_of}
use Rattle.der.specs.Octets.{tlv, identifier, octet_string}
use Rattle.der.specs.Opaque.{opaque_at}
use Rattle.der.specs.Span.{Span, Bytes}
use Rattle.der.specs.Tree.{encode}
use Rattle.der.specs.Follows.{HeaderIs, IdentifierIs, OpaqueIs}
use Rattle.der.specs.declared.Fault.{Fault}
use Rattle.der.specs.declared.Cursor.{Cursor}
use Rattle.der.specs.declared.Checked.{Checked}
use Rattle.pkcs12.specs.declared.answers.Parsed.{Parsed}
use Rattle.std.specs.Prelude.{Err, Ok, Result}
use Rattle.der.proofs.Choices.{never, by_lt}
use Rattle.der.proofs.Opaque.{by_checked}
use Rattle.der.proofs.Grammar.{opaque_sound}
use Rattle.der.proofs.Spans.{span_empty, span_join, span_to}
use Rattle.range.specs.Bytes.{same_bytes}
use Rattle.pkcs12.specs.Identifiers.{x509_certificate}
use Rattle.pkcs12.specs.Syntax.{Algorithm, Typed, certificate, crl, secret, key, shrouded, typed, kind_of_typed}
use Rattle.pkcs12.specs.Syntax.{kind_of_leaf}
use Rattle.pkcs12.specs.Encode.{algorithm_bytes, sealed_bytes, leaf_bytes}
use Rattle.pkcs12.specs.Valid.{AtMostOne, ValidAlgorithm, ValidSealed, ValueRule, ValidLeaf}
use Rattle.pkcs12.specs.Elements.{opaque_count, algorithm_count, sealed_count, leaf_count}
use Rattle.range.specs.Range.{range, no_range}
use Rattle.pkcs12.specs.Table.{parts}
use Rattle.pkcs12.specs.Walk.{range_of, on_parts, algorithm_at, with_value, sealed_at, key_at, value_at, typed_at}
use Rattle.pkcs12.specs.Laid.{AlgorithmLaid, SealedLaid, LeafLaid}
use Rattle.range.specs.declared.Range.{Range}
use Rattle.pkcs12.specs.declared.row.Parts.{Parts}
use Rattle.pkcs12.specs.declared.kind.BagKind.{BagKind}
use Rattle.pkcs12.specs.declared.kind.BagKind.TheVariants.{Key, ShroudedKey}
use Rattle.range.proofs.SameBytes.{same_self}
use Rattle.pkcs12.proofs.Parents.{by_expect, by_identifier, by_opaque, by_finish, In, in_body, finished}
use Rattle.pkcs12.proofs.Parents.{laid_to, closed, closed_any, closed_identifier, settled, first_byte}
use Rattle.pkcs12.proofs.Parents.{some_byte, nothing_count, at_most_one, Is}

-- what holds of parts that were found; a refusal has nothing to hold
abbrev pub OfParts : (Parts → ℕ → Cursor → Type 0) → Result (Parsed Parts) Fault → Type 0
OfParts Q (Err f) = Unit {0}
OfParts Q (Ok x) = Q x.value x.count x.next

pub by_parts : {A : Type 0} (P : A → Type 0) (bad : Fault → A) → ((f : Fault) → P (bad f)) → (Q : Parts → ℕ → Cursor → Type 0) (good : Parts → ℕ → Cursor → A)
    → ((p : Parts) (m : ℕ) (n : Cursor) → Q p m n → P (good p m n)) → (x : Result (Parsed Parts) Fault) → OfParts Q x → P (on_parts x bad good)
by_parts P bad r Q good g (Err f) q = r f
by_parts P bad r Q good g (Ok x) q = g x.value x.count x.next q

module _ (s : List ℕ) (bytes : Bytes s) where
  abbrev pub AlgorithmIs : Range → Cursor → Parts → ℕ → Cursor → Type 0
  AlgorithmIs = Is s ValidAlgorithm algorithm_count (AlgorithmLaid s) algorithm_bytes

  -- parameters x, or none, behind the identifier
  algorithm_is : (par : Range) (c b n : Cursor) (t : ℕ) (i m : Cursor) (x : List ℕ) (a e k : ℕ) → In par c → HeaderIs s c sequence_tag b n
      → IdentifierIs s b t i m → Span s a e x → AtMostOne x → m.at ≡ a → e ≡ b.end → k ≡ opaque_count x + 2
      → AlgorithmIs par c (parts (range_of i) (range a e) no_range) k n
  unfolding algorithm_bytes algorithm_count
  algorithm_is par c b n t i m x a e k h d j p o y z q =
      let f = closed_identifier s (range_of b) b t i m (in_body s c sequence_tag b n d) j in
      let g = closed s par c sequence_tag b n (identifier (bytes_of s i) ++ x) h d
      (span_to s b.at e b.end _ z
      (span_join s b.at a e _ x (span_to s b.at m.at a _ y f.whole) p)) in
      record {
        value = record { identifier = bytes_of s i; parameters = x };
        valid = record { identifier = j.rule; parameters = o };
        count = q;
        laid = record {
          body = range_of b;
          rest = m.at;
          element = g.child;
          type = f.child;
          parameters = record { starts = sym y; ends = z; bytes = rw (sym y, z) at p };
        };
        whole = g.whole;
        past = g.past;
      }

  pub algorithm_of : (par : Range) (c : Cursor) → In par c → OfParts (AlgorithmIs par c) (algorithm_at s c)
  unfolding algorithm_at
  algorithm_of par c h =
      by_expect s bytes Good _ (λ f. tt) c sequence_tag _
      (λ b n d.
      by_identifier s bytes Good _ (λ f. tt) b _
      (λ t i m j.
      let f = closed_identifier s (range_of b) b t i m (in_body s c sequence_tag b n d) j in
      by_lt Good _ _ m.at m.end
      (λ l.
      by_opaque s bytes Good _ (λ f. tt) m _
      (λ k e o.
      let v = settled s (range_of b) m k e f.past o in
      by_finish Good _ (λ f. tt) e _
      (λ z.
      algorithm_is par c b n t i m (encode o.tree) m.at e.at (k + 2) h d j o.whole (at_most_one _ v.valid) refl
      (finished (range_of b) e v.past z) (rw v.count))))
      (λ l.
      algorithm_is par c b n t i m [] b.end b.end 2 h d j (span_empty s b.end d.body.inside) tt (finished (range_of b) m f.past l) refl
      (rw nothing_count))))
    where
      Good : Result (Parsed Parts) Fault → Type 0
      Good = OfParts (AlgorithmIs par c)

  -- where an algorithm is, whatever the value beside it
  pub again : {from to : ℕ} {a : Algorithm} (p : Parts) (v : Range) → AlgorithmLaid s from to p a → AlgorithmLaid s from to (with_value p v) a
  again p v l = record { body = l.body; rest = l.rest; element = l.element; type = l.type; parameters = l.parameters }

  -- Rule 3.16: a SEQUENCE of an AlgorithmIdentifier and an OCTET STRING
  abbrev pub SealedIs : Range → Cursor → Parts → ℕ → Cursor → Type 0
  SealedIs = Is s ValidSealed sealed_count (SealedLaid s) sealed_bytes

  sealed_is : (par : Range) (c b n : Cursor) (p : Parts) (k : ℕ) (m o e : Cursor) → In par c → HeaderIs s c sequence_tag b n
      → AlgorithmIs (range_of b) b p k m → HeaderIs s m octet_string_tag o e → e.end ≤ e.at → SealedIs par c (with_value p (range_of o)) (k + 2) n
  unfolding sealed_bytes sealed_count
  sealed_is par c b n p k m o e h d a j z =
      let f = closed_any s (range_of b) m octet_string_tag o e a.past j in
      let x : List ℕ = algorithm_bytes a.value ++ octet_string (bytes_of s o) in
      let g = closed s par c sequence_tag b n x h d
      (span_to s b.at e.at b.end x (finished (range_of b) e f.past z)
      (span_join s b.at m.at e.at _ _ a.whole f.whole)) in
      record {
        value = record { algorithm = a.value; octets = bytes_of s o };
        valid = a.valid;
        count = rw a.count;
        laid =
            record {
              body = range_of b;
              rest = m.at;
              element = g.child;
              algorithm = again p (range_of o) a.laid;
              octets = laid_to b.end (finished (range_of b) e f.past z) f.child;
            };
        whole = g.whole;
        past = g.past;
      }

  pub sealed_of : (par : Range) (c : Cursor) → In par c → OfParts (SealedIs par c) (sealed_at s c)
  unfolding sealed_at
  sealed_of par c h =
      by_expect s bytes Good _ (λ f. tt) c sequence_tag _
      (λ b n d.
      by_parts Good _ (λ f. tt) (AlgorithmIs (range_of b) b) _
      (λ p k m a.
      by_expect s bytes Good _ (λ f. tt) m octet_string_tag _
      (λ o e j. by_finish Good _ (λ f. tt) e _ (λ z. sealed_is par c b n p k m o e h d a j z)))
      (algorithm_at s b) (algorithm_of (range_of b) b (in_body s c sequence_tag b n d)))
    where
      Good : Result (Parsed Parts) Fault → Type 0
      Good = OfParts (SealedIs par c)

  -- what is in [0] of a bag of this kind
  abbrev pub LeafIs : BagKind → Range → Cursor → Parts → ℕ → Cursor → Type 0
  LeafIs kind = Is s (λ x. ValidLeaf x × (kind_of_leaf x ≡ kind)) leaf_count (LeafLaid s) leaf_bytes

  key_is : (par : Range) (c b n : Cursor) (k : ℕ) (e : Cursor) → In par c → HeaderIs s c sequence_tag b n → OpaqueIs opaque_levels s c k e
      → LeafIs Key par c (parts no_range no_range (range c.at e.at)) k e
  unfolding leaf_bytes
  key_is par c b n k e h d o =
      let v = settled s par c k e h o in
      record {
        value = key (encode o.tree);
        valid = (record { opaque = v.valid; due = first_byte s c sequence_tag b n e.at (encode o.tree) d o.whole (some_byte o.tree) }, refl);
        count = v.count;
        laid = record { value = v.piece; unused = refl };
        whole = o.whole;
        past = v.past;
      }

  pub key_of : (par : Range) (c : Cursor) → In par c → OfParts (LeafIs Key par c) (key_at s c)
  unfolding key_at
  key_of par c h =
      by_expect s bytes Good _ (λ f. tt) c sequence_tag _
      (λ b n d. by_opaque s bytes Good _ (λ f. tt) c _ (λ k e o. key_is par c b n k e h d o))
    where
      Good : Result (Parsed Parts) Fault → Type 0
      Good = OfParts (LeafIs Key par c)

  -- a shrouded key is a sealed part
  pub shrouded_of : (par : Range) (c : Cursor) → In par c → OfParts (LeafIs ShroudedKey par c) (sealed_at s c)
  unfolding leaf_bytes
  shrouded_of par c h = go (sealed_at s c) (sealed_of par c h)
    where
      go : (x : Result (Parsed Parts) Fault) → OfParts (SealedIs par c) x → OfParts (LeafIs ShroudedKey par c) x
      go (Err f) q = tt
      go (Ok x) q =
          record { value = shrouded q.value; valid = (q.valid, refl); count = q.count; laid = q.laid; whole = q.whole; past = q.past }

  -- one opaque element; where `due` says so, an OCTET STRING
  abbrev ValueIs : Bool → Cursor → Result Checked Fault → Type 0
  ValueIs due c (Err f) = Unit {0}
  ValueIs due c (Ok x) = (o : OpaqueIs opaque_levels s c x.count x.next) × (due ≡ true → get_or (encode o.tree) 0 0 ≡ octet_string_tag)

  value_of : (due : Bool) (c : Cursor) → ValueIs due c (value_at due s c)
  unfolding value_at
  value_of true c =
      by_expect s bytes (ValueIs true c) _ (λ f. tt) c octet_string_tag _
      (λ b n d. passed (opaque_at opaque_levels s c)
      (λ k e o. first_byte s c octet_string_tag b n e.at (encode o.tree) d o.whole (some_byte o.tree))
      refl)
    where
      passed : (x : Result Checked Fault) → ((k : ℕ) (e : Cursor) (o : OpaqueIs opaque_levels s c k e) → get_or (encode o.tree) 0 0 ≡ octet_string_tag)
          → opaque_at opaque_levels s c ≡ x → ValueIs true c x
      passed (Err f) g q = tt
      passed (Ok x) g q = let o = opaque_sound opaque_levels s c x.count x.next bytes q in (o, λ z. g x.count x.next o)
  value_of false c = passed (opaque_at opaque_levels s c) refl
    where
      passed : (x : Result Checked Fault) → opaque_at opaque_levels s c ≡ x → ValueIs false c x
      passed (Err f) q = tt
      passed (Ok x) q = (opaque_sound opaque_levels s c x.count x.next bytes q, λ z. never z)

  -- a certificate, CRL or secret
  abbrev pub is_certificate : Typed → Bool
  is_certificate certificate = true
  is_certificate crl = false
  is_certificate secret = false

  abbrev due_in : Typed → List ℕ → Bool
  due_in k t = if is_certificate k then same_bytes t x509_certificate else false

  value_rule : (k : Typed) (t x : List ℕ) → (due_in k t ≡ true → get_or x 0 0 ≡ octet_string_tag) → ValueRule k t x
  value_rule certificate t x f = λ e. f (rw e (same_self x509_certificate))
  value_rule crl t x f = tt
  value_rule secret t x f = tt

  typed_is : (k : Typed) (par : Range) (c b n : Cursor) (t : ℕ) (i m v e : Cursor) (j : ℕ) (f : Cursor) → In par c → HeaderIs s c sequence_tag b n
      → IdentifierIs s b t i m → HeaderIs s m context_tag v e → (o : OpaqueIs opaque_levels s v j f)
      → (due_in k (bytes_of s i) ≡ true → get_or (encode o.tree) 0 0 ≡ octet_string_tag) → f.end ≤ f.at → e.end ≤ e.at
      → LeafIs (kind_of_typed k) par c (parts (range_of i) no_range (range v.at f.at)) (j + 3) n
  unfolding leaf_bytes
  typed_is k par c b n t i m v e j f h d g q o r y z =
      let a = closed_identifier s (range_of b) b t i m (in_body s c sequence_tag b n d) g in
      let u = settled s (range_of v) v j f (in_body s m context_tag v e q) o in
      let x : List ℕ = encode o.tree in
      let filled : f.at ≡ v.end = finished (range_of v) f u.past y in
      let w = closed s (range_of b) m context_tag v e x a.past q (span_to s v.at f.at v.end x filled o.whole) in
      let l : List ℕ = identifier (bytes_of s i) ++ tlv context_tag x in
      let whole_of = closed s par c sequence_tag b n l h d
      (span_to s b.at e.at b.end l (finished (range_of b) e w.past z)
      (span_join s b.at m.at e.at _ _ a.whole w.whole)) in
      record {
        value = typed k (bytes_of s i) x;
        valid = ((g.rule, u.valid, value_rule k (bytes_of s i) x r), refl);
        count = rw u.count;
        laid = record {
          body = range_of b;
          rest = m.at;
          explicit = range_of v;
          element = whole_of.child;
          type = a.child;
          context = laid_to b.end (finished (range_of b) e w.past z) w.child;
          value = record { starts = refl; ends = filled; bytes = span_to s v.at f.at v.end x filled o.whole };
          unused = refl;
        };
        whole = whole_of.whole;
        past = whole_of.past;
      }

  pub typed_of_lem : (k : Typed) (par : Range) (c : Cursor) → In par c → OfParts (LeafIs (kind_of_typed k) par c) (typed_at (is_certificate k) s c)
  unfolding typed_at
  typed_of_lem k par c h =
      by_expect s bytes Good _ (λ f. tt) c sequence_tag _
      (λ b n d.
      by_identifier s bytes Good _ (λ f. tt) b _
      (λ t i m g.
      by_expect s bytes Good _ (λ f. tt) m context_tag _
      (λ v e q.
      by_checked Good (ValueIs (due_in k (bytes_of s i)) v) _ _ (λ f. tt)
      (λ j f o.
      by_finish Good _ (λ f. tt) f _
      (λ y. by_finish Good _ (λ f. tt) e _ (λ z. typed_is k par c b n t i m v e j f h d g q o.0 o.1 y z)))
      (value_at (due_in k (bytes_of s i)) s v) (value_of (due_in k (bytes_of s i)) v))))
    where
      Good : Result (Parsed Parts) Fault → Type 0
      Good = OfParts (LeafIs (kind_of_typed k) par c)
