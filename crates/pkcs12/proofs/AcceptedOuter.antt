-- The EncryptedData of a safe and the MacData of a file that were accepted: the value, where it
-- is, and its elements.
use mathlib.Core.Path.{◌≡◌, refl, ◌∙◌}
use mathlib.Core.List.{List, ◌++◌}
use Prim.Native.Nat.{ℕ, ◌+◌, ◌≤◌, ◌<◌}
use native.Mathlib.Omega.{arith}
use lib.Dec.{eqb}
use borrow.Author.Tests.{ne_eqb}
use lib.ListN.{length}
use Rattle.std.specs.Prelude.{if◌then◌else◌}
use Rattle.der.specs.Numbers.{octet_string_tag, identifier_tag, integer_tag, integer_bound, sequence_tag}
use Rattle.der.specs.Element.{tag_at}
use Rattle.der.specs.Content.{bytes_of}
use Rattle.der.specs.Octets.{tlv, integer, sequence, identifier, octet_string}
use Rattle.der.specs.Span.{Span, Bytes}
use Rattle.der.specs.Follows.{HeaderIs, IdentifierIs, IntegerIs}
use Rattle.der.specs.declared.Fault.{Fault}
use Rattle.der.specs.declared.Cursor.{Cursor}
use Rattle.der.proofs.Choices.{by_test, by_le, by_eq}
use Rattle.der.proofs.Spans.{span_empty, span_join, span_to}
use Rattle.pkcs12.specs.Numbers.{ciphertext_tag, attributed_version, encrypted_version, default_iterations}
use Rattle.range.specs.Bytes.{same_bytes}
use Rattle.pkcs12.specs.Identifiers.{data_type}
use Rattle.pkcs12.specs.Syntax.{Sealed, MacData}
use Rattle.pkcs12.specs.Encode.{algorithm_bytes, sealed_bytes, encrypted_info, iterations_bytes, mac_bytes}
use Rattle.pkcs12.specs.Valid.{ValidSealed, ValidMac}
use Rattle.pkcs12.specs.Elements.{algorithm_count, mac_count}
use Rattle.pkcs12.specs.Table.{mac_fields}
use Rattle.pkcs12.specs.Walk.{range_of, algorithm_at, with_value, sealed_at, encrypted_info_at, encrypted_at, on_mac}
use Rattle.pkcs12.specs.Walk.{iterations_at, mac_at}
use Rattle.pkcs12.specs.Laid.{ElementLaid, AlgorithmLaid, EncryptedLaid, MacLaid}
use Rattle.range.specs.declared.Range.{Range}
use Rattle.pkcs12.specs.declared.row.Parts.{Parts}
use Rattle.pkcs12.specs.declared.answers.Parsed.{Parsed}
use Rattle.std.specs.Prelude.{Err, Ok, Result}
use Rattle.range.proofs.SameBytes.{same_is}
use Rattle.pkcs12.proofs.AcceptedParts.{OfParts, by_parts, AlgorithmIs, algorithm_of, again, SealedIs}
use Rattle.pkcs12.proofs.AcceptedParts.{sealed_of}
use Rattle.pkcs12.proofs.Parents.{by_expect, by_identifier, by_integer, by_finish, In, in_body, in_next}
use Rattle.pkcs12.proofs.Parents.{finished, laid_to, closed, closed_any, closed_identifier, Is}
use Rattle.pkcs12.specs.declared.row.Mac.{Mac}

-- what holds of MAC fields that were found
abbrev pub OfMac : (Mac → ℕ → Cursor → Type 0) → Result (Parsed Mac) Fault → Type 0
OfMac Q (Err f) = Unit {0}
OfMac Q (Ok y) = Q y.value y.count y.next

pub by_mac : {A : Type 0} (P : A → Type 0) (bad : Fault → A) → ((f : Fault) → P (bad f)) → (Q : Mac → ℕ → Cursor → Type 0) (good : Mac → ℕ → Cursor → A)
    → ((x : Mac) (m : ℕ) (n : Cursor) → Q x m n → P (good x m n)) → (x : Result (Parsed Mac) Fault) → OfMac Q x → P (on_mac x bad good)
by_mac P bad r Q good g (Err f) q = r f
by_mac P bad r Q good g (Ok y) q = g y.value y.count y.next q

module _ (s : List ℕ) (bytes : Bytes s) where
  -- an EncryptedContentInfo in the body `par`
  record InfoLaid (from to : ℕ) (p : Parts) (x : Sealed) : Type 0 where
    info : Range
    name : Range
    second : ℕ
    third : ℕ
    content : ElementLaid s from to sequence_tag info (identifier data_type ++ (algorithm_bytes x.algorithm ++ tlv ciphertext_tag x.octets))
    type : ElementLaid s info.start second identifier_tag name data_type
    algorithm : AlgorithmLaid s second third p x.algorithm
    octets : ElementLaid s third info.end ciphertext_tag p.value x.octets

  abbrev InfoIs : Range → Cursor → Parts → ℕ → Cursor → Type 0
  InfoIs = Is s ValidSealed (λ x. algorithm_count x.algorithm + 3) InfoLaid encrypted_info

  info_is : (par : Range) (c b n : Cursor) (t : ℕ) (i m : Cursor) (p : Parts) (k : ℕ) (e o f : Cursor) → In par c → HeaderIs s c sequence_tag b n
      → IdentifierIs s b t i m → bytes_of s i ≡ data_type → AlgorithmIs s bytes (range_of b) m p k e → HeaderIs s e ciphertext_tag o f → f.end ≤ f.at
      → InfoIs par c (with_value p (range_of o)) (k + 3) n
  unfolding encrypted_info
  info_is par c b n t i m p k e o f h d g y a q z =
      let u = closed_identifier s (range_of b) b t i m (in_body s c sequence_tag b n d) g in
      let v = closed_any s (range_of b) e ciphertext_tag o f a.past q in
      let first : Span s b.at m.at (identifier data_type) = rw y at u.whole in
      let x : List ℕ = identifier data_type ++ (algorithm_bytes a.value ++ tlv ciphertext_tag (bytes_of s o)) in
      let l = closed s par c sequence_tag b n x h d
      (span_to s b.at f.at b.end x (finished (range_of b) f v.past z)
      (span_join s _ _ _ _ _ first (span_join s _ _ _ _ _ a.whole v.whole))) in
      record {
        value = record { algorithm = a.value; octets = bytes_of s o };
        valid = a.valid;
        count = rw a.count;
        laid = record {
          info = range_of b;
          name = range_of i;
          second = m.at;
          third = e.at;
          content = l.child;
          type = rw y at u.child;
          algorithm = again s bytes p (range_of o) a.laid;
          octets = laid_to b.end (finished (range_of b) f v.past z) v.child;
        };
        whole = l.whole;
        past = l.past;
      }

  info_of : (par : Range) (c : Cursor) → In par c → OfParts (InfoIs par c) (encrypted_info_at s c)
  unfolding encrypted_info_at
  info_of par c h =
      by_expect s bytes Good _ (λ f. tt) c sequence_tag _
      (λ b n d.
      by_identifier s bytes Good _ (λ f. tt) b _
      (λ t i m g.
      by_test Good _ _ (same_bytes (bytes_of s i) data_type)
      (λ y.
      by_parts Good _ (λ f. tt) (AlgorithmIs s bytes (range_of b) m) _
      (λ p k e a.
      by_le Good _ _ e.end e.at (λ l. tt)
      (λ l.
      by_expect s bytes Good _ (λ f. tt) e ciphertext_tag _
      (λ o f q. by_finish Good _ (λ f. tt) f _ (λ z. info_is par c b n t i m p k e o f h d g (same_is _ _ y) a q z))))
      (algorithm_at s m)
      (algorithm_of s bytes (range_of b) m (closed_identifier s (range_of b) b t i m (in_body s c sequence_tag b n d) g).past))
      (λ y. tt)))
    where
      Good : Result (Parsed Parts) Fault → Type 0
      Good = OfParts (InfoIs par c)

  -- an EncryptedData in the body `par`
  abbrev pub encrypted_bytes : Sealed → List ℕ
  encrypted_bytes x = sequence (integer encrypted_version ++ encrypted_info x)

  abbrev pub EncryptedIs : Range → Cursor → Parts → ℕ → Cursor → Type 0
  EncryptedIs = Is s ValidSealed (λ x. algorithm_count x.algorithm + 5) (EncryptedLaid s) encrypted_bytes

  encrypted_is : (par : Range) (c b n : Cursor) (v : ℕ) (m : Cursor) (p : Parts) (k : ℕ) (e : Cursor) → In par c → HeaderIs s c sequence_tag b n
      → IntegerIs s b v m → v ≡ encrypted_version → InfoIs (range_of b) m p k e → e.end ≤ e.at → EncryptedIs par c p (k + 2) n
  encrypted_is par c b n v m p k e h d g y a z =
      let first : Span s b.at m.at (integer encrypted_version) = rw y at g.whole in
      let x : List ℕ = integer encrypted_version ++ encrypted_info a.value in
      let l = closed s par c sequence_tag b n x h d
      (span_to s b.at e.at b.end x (finished (range_of b) e a.past z)
      (span_join s _ _ _ _ _ first a.whole)) in
      record {
        value = a.value;
        valid = a.valid;
        count = rw a.count (omega arith);
        laid = record {
          body = range_of b;
          info = a.laid.info;
          name = a.laid.name;
          rest = m.at;
          second = a.laid.second;
          third = a.laid.third;
          element = l.child;
          version = first;
          content = laid_to b.end (finished (range_of b) e a.past z) a.laid.content;
          type = a.laid.type;
          algorithm = a.laid.algorithm;
          octets = a.laid.octets;
        };
        whole = l.whole;
        past = l.past;
      }

  pub encrypted_of : (par : Range) (c : Cursor) → In par c → OfParts (EncryptedIs par c) (encrypted_at s c)
  unfolding encrypted_at
  encrypted_of par c h =
      by_expect s bytes Good _ (λ f. tt) c sequence_tag _
      (λ b n d.
      by_integer s bytes Good _ (λ f. tt) b _
      (λ v m g.
      by_eq Good _ _ v attributed_version (λ y. tt)
      (λ w. by_eq Good _ _ v encrypted_version
      (λ y.
      by_parts Good _ (λ f. tt) (InfoIs (range_of b) m) _
      (λ p k e a. by_finish Good _ (λ f. tt) e _ (λ z. encrypted_is par c b n v m p k e h d g y a z))
      (encrypted_info_at s m)
      (info_of (range_of b) m (in_next s (range_of b) b m m.at (in_body s c sequence_tag b n d)
      (omega (arith, g.whole.size)) g.moved)))
      (λ y. tt))))
    where
      Good : Result (Parsed Parts) Fault → Type 0
      Good = OfParts (EncryptedIs par c)

  -- the iterations at the end of the body `par`, behind k elements
  record IterationsIs (par : Range) (p : Parts) (salt : Range) (k : ℕ) (c : Cursor) (x : Mac) (m : ℕ) (n : Cursor) : Type 0 where
    number : ℕ
    fields : x ≡ mac_fields p salt number
    some : 1 ≤ number
    bound : number < integer_bound
    count : m ≡ k + (if eqb number default_iterations then 0 else 1)
    whole : Span s c.at par.end (iterations_bytes number)

  iterations_of : (par : Range) (p : Parts) (salt : Range) (k : ℕ) (c : Cursor) → In par c → par.end ≤ length s
      → OfMac (IterationsIs par p salt k c) (iterations_at s p salt k c)
  unfolding iterations_at iterations_bytes
  iterations_of par p salt k c h l =
      by_eq Good _ _ (tag_at s c) integer_tag
      (λ t.
      by_integer s bytes Good _ (λ f. tt) c _
      (λ v e g.
      by_le Good _ _ v default_iterations (λ y. tt)
      (λ y.
      by_finish Good _ (λ f. tt) e _
      (λ z.
      record {
        number = v;
        fields = refl;
        some = omega arith;
        bound = g.small;
        count = rw (ne_eqb v 1 (λ q. omega arith));
        whole =
            rw (ne_eqb v 1 (λ q. omega arith))
            (span_to s c.at e.at par.end _
            (finished par e (in_next s par c e e.at h (omega (arith, g.whole.size)) g.moved) z) g.whole);
      }))))
      (λ t.
      by_finish Good _ (λ f. tt) c _
      (λ z.
      record {
        number = 1;
        fields = refl;
        some = omega arith;
        bound = omega arith;
        count = omega arith;
        whole = rw (finished par c h z) (span_empty s par.end l);
      }))
    where
      Good : Result (Parsed Mac) Fault → Type 0
      Good = OfMac (IterationsIs par p salt k c)

  -- a MacData in the body `par`
  pub record MacIs (par : Range) (c : Cursor) (m : Mac) (k : ℕ) (n : Cursor) : Type 0 where
    pub value : MacData
    pub valid : ValidMac value
    pub count : k ≡ mac_count value
    pub laid : MacLaid s c.at n.at m value
    pub whole : Span s c.at n.at (mac_bytes value)
    pub past : In par n

  mac_is : (par : Range) (c b n : Cursor) (p : Parts) (k : ℕ) (m o e : Cursor) (x : Mac) (j : ℕ) (f : Cursor) → In par c → HeaderIs s c sequence_tag b n
      → SealedIs s bytes (range_of b) b p k m → HeaderIs s m octet_string_tag o e → IterationsIs (range_of b) p (range_of o) (k + 2) e x j f → MacIs par c x j n
  unfolding mac_bytes mac_count
  mac_is par c b n p k m o e x j f h d a g i =
      let v = closed_any s (range_of b) m octet_string_tag o e a.past g in
      let y : List ℕ = sealed_bytes a.value ++ (octet_string (bytes_of s o) ++ iterations_bytes i.number) in
      let l = closed s par c sequence_tag b n y h d (span_join s _ _ _ _ _ a.whole (span_join s _ _ _ _ _ v.whole i.whole)) in
      rw i.fields record {
        value = record { digest = a.value; salt = bytes_of s o; iterations = i.number };
        valid = record { digest = a.valid; some = omega (arith, i.some); bound = omega (arith, i.bound) };
        count = i.count ∙ rw a.count;
        laid =
            record {
              body = range_of b;
              rest = m.at;
              after = e.at;
              element = l.child;
              digest = a.laid;
              salt = v.child;
              last = i.whole;
              iterations = refl;
            };
        whole = l.whole;
        past = l.past;
      }

  pub mac_of : (par : Range) (c : Cursor) → In par c → OfMac (MacIs par c) (mac_at s c)
  unfolding mac_at
  mac_of par c h =
      by_expect s bytes Good _ (λ f. tt) c sequence_tag _
      (λ b n d.
      by_parts Good _ (λ f. tt) (SealedIs s bytes (range_of b) b) _
      (λ p k m a.
      by_expect s bytes Good _ (λ f. tt) m octet_string_tag _
      (λ o e g.
      by_mac Good _ (λ f. tt) (IterationsIs (range_of b) p (range_of o) (k + 2) e) _
      (λ x j f i. mac_is par c b n p k m o e x j f h d a g i)
      (iterations_at s p (range_of o) (k + 2) e)
      (iterations_of (range_of b) p (range_of o) (k + 2) e (closed_any s (range_of b) m octet_string_tag o e a.past g).past d.body.inside)))
      (sealed_at s b) (sealed_of s bytes (range_of b) b (in_body s c sequence_tag b n d)))
    where
      Good : Result (Parsed Mac) Fault → Type 0
      Good = OfMac (MacIs par c)
