-- How far each part of the walk goes, and how many elements it counts: what the code's sums and
-- loops lean on.
use mathlib.Core.Bool.{Bool, true, false}
use mathlib.Core.Path.{◌≡◌, refl, sym, ◌∙◌}
use mathlib.Core.List.{List}
use Prim.Native.Nat.{ℕ, ◌+◌, ◌≤◌, ◌<◌}
use native.Mathlib.Omega.{arith}
use lib.ListN.{length}
use Rattle.std.specs.Prelude.{if◌then◌else◌}
use Rattle.der.specs.Numbers.{octet_string_tag, opaque_levels, integer_tag, sequence_tag, context_tag}
use Rattle.der.specs.Element.{element_at, expect_at, on_element}
use Rattle.der.specs.Content.{bytes_of, identifier_at, integer_body, integer_at, on_integer}
use Rattle.der.specs.Opaque.{on_checked, opaque_at, elements_at}
use Rattle.der.specs.declared.Fault.{Fault}
use Rattle.der.specs.declared.Cursor.{Cursor}
use Rattle.der.specs.Element.{element}
use Rattle.der.specs.declared.Checked.{Checked}
use Rattle.der.specs.declared.Element.{Element}
use Rattle.der.specs.declared.Integer.{Integer}
use Rattle.pkcs12.specs.declared.answers.Parsed.{Parsed}
use Rattle.std.specs.Prelude.{Err, Ok, Result}
use Rattle.der.proofs.Choices.{by_test, by_lt, by_le, by_eq}
use Rattle.der.proofs.Placed.{by_element, found, expected}
use Rattle.der.proofs.Values.{identified}
use Rattle.der.proofs.Opaque.{Went as One, Ran, by_checked, went, ran}
use Rattle.pkcs12.specs.Numbers.{ciphertext_tag, attributed_version}
use Rattle.pkcs12.specs.Numbers.{encrypted_version}
use Rattle.range.specs.Bytes.{same_bytes}
use Rattle.pkcs12.specs.Identifiers.{data_type, x509_certificate}
use Rattle.pkcs12.specs.Walk.{algorithm_at, sealed_at, key_at, value_at, typed_at, encrypted_info_at, encrypted_at}
use Rattle.pkcs12.specs.declared.row.Parts.{Parts}
use Rattle.pkcs12.proofs.Parents.{by_finish}
use Rattle.pkcs12.proofs.AcceptedParts.{OfParts, by_parts}

-- a part from c up to n, with i elements counted before it and j after it
pub record Past (s : List ℕ) (c : Cursor) (i j : ℕ) (n : Cursor) : Type 0 where
  pub some : c.at < n.at
  pub long : c.at + j ≤ n.at + i
  pub more : i ≤ j
  pub within : n.at ≤ c.end
  pub inside : c.end ≤ length s
  pub end : n.end ≡ c.end

-- an element found at c, of any tag: its body b, and n past it
pub record Head (s : List ℕ) (c b n : Cursor) : Type 0 where
  pub past : c.at + 2 ≤ b.at
  pub size : b.at ≤ b.end
  pub stop : n.at ≡ b.end
  pub within : b.end ≤ c.end
  pub inside : c.end ≤ length s
  pub end : n.end ≡ c.end

pub head_of : (s : List ℕ) (c : Cursor) (x : Element) → element_at s c ≡ Ok x → Head s c x.body x.next
head_of s c x e =
    let p = found s c (element_at s c) x.tag x.body x.next refl e in
    rw p.next record { past = p.body.past; size = p.body.size; stop = refl; within = p.body.within; inside = p.inside; end = refl }

pub expect_head : (due : ℕ) (s : List ℕ) (c : Cursor) (x : Element) → expect_at due s c ≡ Ok x → Head s c x.body x.next
expect_head due s c x e = head_of s c x (expected due s c (expect_at due s c) x.tag x.body x.next refl e).1

abbrev pub OfHead : List ℕ → Cursor → Result Element Fault → Type 0
OfHead s c (Err f) = Unit {0}
OfHead s c (Ok x) = Head s c x.body x.next

pub identifier_of_lem : (s : List ℕ) (c : Cursor) → OfHead s c (identifier_at s c)
identifier_of_lem s c = go (identifier_at s c) refl
  where
    go : (x : Result Element Fault) → identifier_at s c ≡ x → OfHead s c x
    go (Err f) e = tt
    go (Ok x) e = head_of s c x (identified s c (identifier_at s c) x.tag x.body x.next refl e)

-- an integer; nothing is said of its body
abbrev pub OfInteger : List ℕ → Cursor → Result Integer Fault → Type 0
OfInteger s c (Err f) = Unit {0}
OfInteger s c (Ok x) = Past s c 0 2 x.next

pub integer_of : (s : List ℕ) (c : Cursor) → OfInteger s c (integer_at s c)
unfolding integer_at
integer_of s c =
    by_element (OfInteger s c) (λ x. expect_at integer_tag s c ≡ x) _ _ (λ f. tt)
    (λ t b n p.
    by_test (OfInteger s c) _ _ (integer_body s b)
    (λ h. number b n (expect_head integer_tag s c (element t b n) p)) (λ h. tt))
    (expect_at integer_tag s c) refl
  where
    number : (b n : Cursor) → Head s c b n → Past s c 0 2 n
    number b n h = record { some = omega (arith, h); long = omega (arith, h); more = omega arith; within = omega (arith, h); inside = h.inside; end = h.end }

-- one opaque element
abbrev pub OfOne : List ℕ → Cursor → Result Checked Fault → Type 0
OfOne s c (Err f) = Unit {0}
OfOne s c (Ok x) = One s c x.count x.next

pub opaque_of : (s : List ℕ) (c : Cursor) → OfOne s c (opaque_at opaque_levels s c)
opaque_of s c = go (opaque_at opaque_levels s c) refl
  where
    go : (x : Result Checked Fault) → opaque_at opaque_levels s c ≡ x → OfOne s c x
    go (Err f) e = tt
    go (Ok x) e = went opaque_levels s c (opaque_at opaque_levels s c) x.count x.next refl e

-- what holds of a refusal and of what was found holds of what is made of them, for each kind of
-- element
module _ (s : List ℕ) {A : Type 0} (P : A → Type 0) (bad : Fault → A) (refusal : (f : Fault) → P (bad f)) (c : Cursor) where
  pub by_expect : (due : ℕ) (good : ℕ → Cursor → Cursor → A) → ((t : ℕ) (b n : Cursor) → Head s c b n → P (good t b n))
      → P (on_element (expect_at due s c) bad good)
  by_expect due good g =
      by_element P (λ x. expect_at due s c ≡ x) bad good refusal
      (λ t b n e. g t b n (expect_head due s c (element t b n) e)) (expect_at due s c) refl

  pub by_identifier : (good : ℕ → Cursor → Cursor → A) → ((t : ℕ) (b n : Cursor) → Head s c b n → P (good t b n))
      → P (on_element (identifier_at s c) bad good)
  by_identifier good g = by_element P (OfHead s c) bad good refusal g (identifier_at s c) (identifier_of_lem s c)

  pub by_integer : (good : ℕ → Cursor → A) → ((v : ℕ) (n : Cursor) → Past s c 0 2 n → P (good v n)) → P (on_integer (integer_at s c) bad good)
  by_integer good g = go (integer_at s c) (integer_of s c)
    where
      go : (x : Result Integer Fault) → OfInteger s c x → P (on_integer x bad good)
      go (Err f) e = refusal f
      go (Ok x) e = g x.value x.next e

  pub by_opaque : (good : ℕ → Cursor → A) → ((m : ℕ) (n : Cursor) → One s c m n → P (good m n)) → P (on_checked (opaque_at opaque_levels s c) bad good)
  by_opaque good g = by_checked P (OfOne s c) bad good refusal g (opaque_at opaque_levels s c) (opaque_of s c)

  pub by_elements : (good : ℕ → Cursor → A) → ((m : ℕ) (n : Cursor) → Ran c m n → P (good m n)) → P (on_checked (elements_at opaque_levels s c) bad good)
  by_elements good g =
      by_checked P (λ x. elements_at opaque_levels s c ≡ x) bad good refusal
      (λ m n e. g m n (ran opaque_levels s c (elements_at opaque_levels s c) m n refl e)) (elements_at opaque_levels s c) refl

-- an element of c's parent: what is counted for it is no more than its bytes, two of which are its
-- header
pub past_head : (s : List ℕ) (c b n : Cursor) (i j : ℕ) → Head s c b n → i ≤ j → b.at + j ≤ b.end + i + 2 → Past s c i j n
past_head s c b n i j h m l =
    record { some = omega (arith, h); long = omega (arith, h); more = m; within = omega (arith, h); inside = h.inside; end = h.end }

-- ---- parts that make no row

abbrev pub PastParts : List ℕ → Cursor → Result (Parsed Parts) Fault → Type 0
PastParts s c = OfParts (λ p k n. Past s c 0 k n)

-- the facts of parts that were found
pub parts_past : (s : List ℕ) (c : Cursor) (v w : Result (Parsed Parts) Fault) (x : Parsed Parts) → PastParts s c v
    → w ≡ v → w ≡ Ok x → Past s c 0 x.count x.next
parts_past s c v w x h a b = rw (sym a ∙ b) at h

pub algorithm_of : (s : List ℕ) (c : Cursor) → PastParts s c (algorithm_at s c)
unfolding algorithm_at
algorithm_of s c =
    by_expect s (PastParts s c) _ (λ f. tt) c sequence_tag _
    (λ t b n h.
    by_identifier s (PastParts s c) _ (λ f. tt) b _
    (λ t i m j.
    by_lt (PastParts s c) _ _ m.at m.end
    (λ l.
    by_opaque s (PastParts s c) _ (λ f. tt) m _
    (λ k e o. by_finish (PastParts s c) _ (λ f. tt) e _ (λ z. past_head s c b n 0 (k + 2) h (omega arith) (omega (arith, j, o)))))
    (λ l. past_head s c b n 0 2 h (omega arith) (omega (arith, h)))))

pub sealed_of : (s : List ℕ) (c : Cursor) → PastParts s c (sealed_at s c)
unfolding sealed_at
sealed_of s c =
    by_expect s (PastParts s c) _ (λ f. tt) c sequence_tag _
    (λ t b n h.
    by_parts (PastParts s c) _ (λ f. tt) (λ p k m. Past s b 0 k m) _
    (λ p k m a.
    by_expect s (PastParts s c) _ (λ f. tt) m octet_string_tag _
    (λ t o e j. by_finish (PastParts s c) _ (λ f. tt) e _ (λ z. past_head s c b n 0 (k + 2) h (omega arith) (omega (arith, a, j)))))
    (algorithm_at s b) (algorithm_of s b))

pub key_of : (s : List ℕ) (c : Cursor) → PastParts s c (key_at s c)
unfolding key_at
key_of s c =
    by_expect s (PastParts s c) _ (λ f. tt) c sequence_tag _
    (λ t b n h.
    by_opaque s (PastParts s c) _ (λ f. tt) c _
    (λ k e o. record { some = omega (arith, o); long = omega (arith, o); more = omega arith; within = o.within; inside = o.inside; end = o.end }))

-- one opaque element, whether its tag was looked at or not
pub value_of : (u : Bool) (s : List ℕ) (c : Cursor) → OfOne s c (value_at u s c)
unfolding value_at
value_of true s c = by_expect s (OfOne s c) _ (λ f. tt) c octet_string_tag _ (λ t b n h. opaque_of s c)
value_of false s c = opaque_of s c

pub valued : (u : Bool) (s : List ℕ) (c : Cursor) (w : Result Checked Fault) (x : Checked) → w ≡ value_at u s c
    → w ≡ Ok x → One s c x.count x.next
valued u s c w x p q = rw (sym p ∙ q) at (value_of u s c)

pub typed_of_lem : (u : Bool) (s : List ℕ) (c : Cursor) → PastParts s c (typed_at u s c)
unfolding typed_at
typed_of_lem u s c =
    by_expect s (PastParts s c) _ (λ f. tt) c sequence_tag _
    (λ t b n h.
    by_identifier s (PastParts s c) _ (λ f. tt) b _
    (λ t i m j.
    by_expect s (PastParts s c) _ (λ f. tt) m context_tag _
    (λ t v e q.
    by_checked (PastParts s c) (OfOne s v) _ _ (λ f. tt)
    (λ k f o.
    by_finish (PastParts s c) _ (λ f. tt) f _
    (λ y. by_finish (PastParts s c) _ (λ f. tt) e _ (λ z. past_head s c b n 0 (k + 3) h (omega arith) (omega (arith, j, q, o)))))
    (value_at (if u then same_bytes (bytes_of s i) x509_certificate else false) s v)
    (value_of (if u then same_bytes (bytes_of s i) x509_certificate else false) s v))))

pub encrypted_info_of : (s : List ℕ) (c : Cursor) → PastParts s c (encrypted_info_at s c)
unfolding encrypted_info_at
encrypted_info_of s c =
    by_expect s (PastParts s c) _ (λ f. tt) c sequence_tag _
    (λ t b n h.
    by_identifier s (PastParts s c) _ (λ f. tt) b _
    (λ t i m j.
    by_test (PastParts s c) _ _ (same_bytes (bytes_of s i) data_type)
    (λ y.
    by_parts (PastParts s c) _ (λ f. tt) (λ p k e. Past s m 0 k e) _
    (λ p k e a.
    by_le (PastParts s c) _ _ e.end e.at (λ l. tt)
    (λ l.
    by_expect s (PastParts s c) _ (λ f. tt) e ciphertext_tag _
    (λ t o f q. by_finish (PastParts s c) _ (λ f. tt) f _ (λ z. past_head s c b n 0 (k + 3) h (omega arith) (omega (arith, j, a, q))))))
    (algorithm_at s m) (algorithm_of s m))
    (λ y. tt)))

pub encrypted_of : (s : List ℕ) (c : Cursor) → PastParts s c (encrypted_at s c)
unfolding encrypted_at
encrypted_of s c =
    by_expect s (PastParts s c) _ (λ f. tt) c sequence_tag _
    (λ t b n h.
    by_integer s (PastParts s c) _ (λ f. tt) b _
    (λ v m i.
    by_eq (PastParts s c) _ _ v attributed_version (λ y. tt)
    (λ w. by_eq (PastParts s c) _ _ v encrypted_version
    (λ y.
    by_parts (PastParts s c) _ (λ f. tt) (λ p k e. Past s m 0 k e) _
    (λ p k e a. by_finish (PastParts s c) _ (λ f. tt) e _ (λ z. past_head s c b n 0 (k + 2) h (omega arith) (omega (arith, i, a))))
    (encrypted_info_at s m) (encrypted_info_of s m))
    (λ y. tt))))

module _ (s : List ℕ) (c : Cursor) (w : Result (Parsed Parts) Fault) (x : Parsed Parts) where
  pub algorithm_past : w ≡ algorithm_at s c → w ≡ Ok x → Past s c 0 x.count x.next
  algorithm_past = parts_past s c (algorithm_at s c) w x (algorithm_of s c)

  pub sealed_past : w ≡ sealed_at s c → w ≡ Ok x → Past s c 0 x.count x.next
  sealed_past = parts_past s c (sealed_at s c) w x (sealed_of s c)

  pub key_past : w ≡ key_at s c → w ≡ Ok x → Past s c 0 x.count x.next
  key_past = parts_past s c (key_at s c) w x (key_of s c)

  pub encrypted_info_past : w ≡ encrypted_info_at s c → w ≡ Ok x → Past s c 0 x.count x.next
  encrypted_info_past = parts_past s c (encrypted_info_at s c) w x (encrypted_info_of s c)

  pub encrypted_past : w ≡ encrypted_at s c → w ≡ Ok x → Past s c 0 x.count x.next
  encrypted_past = parts_past s c (encrypted_at s c) w x (encrypted_of s c)

pub typed_past : (u : Bool) (s : List ℕ) (c : Cursor) (w : Result (Parsed Parts) Fault) (x : Parsed Parts)
    → w ≡ typed_at u s c → w ≡ Ok x → Past s c 0 x.count x.next
typed_past u s c w x = parts_past s c (typed_at u s c) w x (typed_of_lem u s c)
