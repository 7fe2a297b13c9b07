-- Rules by which `search` follows the walk's definitions as the code's own tests decided them (see
-- der's Choices), and the facts that the code's casts and sums lean on.
use mathlib.Core.Path.{◌≡◌, refl, ◌∙◌}
use mathlib.Core.Bool.{Bool, true, false}
use mathlib.Core.List.{List}
use Prim.Native.Nat.{ℕ, ◌+◌, ◌≤◌, ◌<◌, min}
use native.Mathlib.Omega.{arith}
use lib.Dec.{leb}
use lib.ListN.{length}
use borrow.Author.Tests.{leb-true, lt-ltb, le-ltb}
use mir.Val.{Fits}
use mir.Syntax.{w64}
use Rattle.std.specs.Prelude.{if◌then◌else◌}
use Rattle.der.specs.Element.{fault, expect_at, element_at, on_element}
use Rattle.der.specs.Content.{bytes_of, identifier_at}
use Rattle.der.specs.Numbers.{octet_string_tag, opaque_levels, sequence_tag, context_tag}
use Rattle.der.specs.Opaque.{opaque_at}
use Rattle.der.specs.declared.Fault.{Fault}
use Rattle.der.specs.declared.Cursor.{Cursor}
use Rattle.der.specs.declared.Checked.{Checked}
use Rattle.der.specs.declared.Element.{Element}
use Rattle.pkcs12.specs.Table.{parsed}
use Rattle.pkcs12.specs.declared.answers.Parsed.{Parsed}
use Rattle.std.specs.Prelude.{Err, Ok, Result}
use Rattle.der.proofs.Placed.{found, expected}
use Rattle.der.proofs.Values.{identified}
use Rattle.der.proofs.Opaque.{Went as One, went}
use Rattle.buffer.specs.Numbers.{file_bytes, too_long}
use Rattle.range.specs.Bytes.{same_bytes}
use Rattle.range.specs.Range.{body_range}
use Rattle.pkcs12.specs.Identifiers.{x509_certificate}
use Rattle.pkcs12.specs.Walk.{range_of, algorithm_at, value_at, typed_at, encrypted_info_at}
use Rattle.pkcs12.specs.Table.{parts}
use Rattle.range.specs.declared.Range.{Range}
use Rattle.pkcs12.specs.declared.row.Parts.{Parts}
use Rattle.parts.specs.InFile.{in_file}
use Rattle.parts.specs.Steps.{typed_value_at}
use Rattle.parts.proofs.Past.{Past, valued, algorithm_past, encrypted_info_past}

-- The body of an element lies in the bytes and, in a file that isn't too long, fits a range.
module _ (s : List ℕ) (c : Cursor) (w : Result Element Fault) (x : Element) where
  body_stop : element_at s c ≡ Ok x → (x.body.at ≤ x.body.end) × (x.body.end ≤ length s)
  body_stop e =
      let p = found s c (element_at s c) x.tag x.body x.next refl e in
      (p.body.size, omega (arith, p.body.within, p.inside))

  pub expected_from : (due : ℕ) → w ≡ expect_at due s c → w ≡ Ok x → length s ≤ file_bytes → x.body.at ≤ file_bytes
  expected_from due p q h = let o = body_stop (expected due s c w x.tag x.body x.next p q).1 in omega (arith, o.0, o.1)

  pub expected_to : (due : ℕ) → w ≡ expect_at due s c → w ≡ Ok x → length s ≤ file_bytes → x.body.end ≤ file_bytes
  expected_to due p q h = let o = body_stop (expected due s c w x.tag x.body x.next p q).1 in omega (arith, o.1)

  pub identifier_from : w ≡ identifier_at s c → w ≡ Ok x → length s ≤ file_bytes → x.body.at ≤ file_bytes
  identifier_from p q h = let o = body_stop (identified s c w x.tag x.body x.next p q) in omega (arith, o.0, o.1)

  pub identifier_to : w ≡ identifier_at s c → w ≡ Ok x → length s ≤ file_bytes → x.body.end ≤ file_bytes
  identifier_to p q h = let o = body_stop (identified s c w x.tag x.body x.next p q) in omega (arith, o.1)

  pub identifier_order : w ≡ identifier_at s c → w ≡ Ok x → x.body.at ≤ x.body.end
  identifier_order p q = (body_stop (identified s c w x.tag x.body x.next p q)).0

  pub identifier_inside : w ≡ identifier_at s c → w ≡ Ok x → x.body.end ≤ length s
  identifier_inside p q = (body_stop (identified s c w x.tag x.body x.next p q)).1

-- an element that was checked, in such a file: its offsets, and its count with k more
module _ (s : List ℕ) (c : Cursor) (m : ℕ) (n : Cursor) (o : One s c m n) (h : length s ≤ file_bytes) where
  one_from : c.at ≤ file_bytes
  one_from = omega (arith, o.long, o.within, o.inside)

  one_to : n.at ≤ file_bytes
  one_to = omega (arith, o.within, o.inside)

  one_fits : (k : ℕ) → leb k 16 ≡ true → Fits w64 (m + k)
  one_fits k l = omega (arith, o.long, o.within, o.inside, leb-true k 16 l)

module _ (s : List ℕ) (c : Cursor) (w : Result Checked Fault) (x : Checked) where
  pub opaque_from : w ≡ opaque_at opaque_levels s c → w ≡ Ok x → length s ≤ file_bytes → c.at ≤ file_bytes
  opaque_from p q h = one_from s c x.count x.next (went opaque_levels s c w x.count x.next p q) h

  pub opaque_to : w ≡ opaque_at opaque_levels s c → w ≡ Ok x → length s ≤ file_bytes → x.next.at ≤ file_bytes
  opaque_to p q h = one_to s c x.count x.next (went opaque_levels s c w x.count x.next p q) h

  pub opaque_fits : (k : ℕ) → w ≡ opaque_at opaque_levels s c → w ≡ Ok x → length s ≤ file_bytes
      → leb k 16 ≡ true → Fits w64 (x.count + k)
  opaque_fits k p q h l = one_fits s c x.count x.next (went opaque_levels s c w x.count x.next p q) h k l

  pub value_from : (u : Bool) → w ≡ value_at u s c → w ≡ Ok x → length s ≤ file_bytes → c.at ≤ file_bytes
  value_from u p q h = one_from s c x.count x.next (valued u s c w x p q) h

  pub value_to : (u : Bool) → w ≡ value_at u s c → w ≡ Ok x → length s ≤ file_bytes → x.next.at ≤ file_bytes
  value_to u p q h = one_to s c x.count x.next (valued u s c w x p q) h

  pub value_fits : (u : Bool) (k : ℕ) → w ≡ value_at u s c → w ≡ Ok x → length s ≤ file_bytes
      → leb k 16 ≡ true → Fits w64 (x.count + k)
  value_fits u k p q h l = one_fits s c x.count x.next (valued u s c w x p q) h k l

-- the count of parts that were found, in such a file
pub small : (s : List ℕ) (c : Cursor) (k : ℕ) (n : Cursor) → Past s c 0 k n → length s ≤ file_bytes → k ≤ file_bytes
small s c k n p h = omega (arith, p.long, p.within, p.inside)

module _ (s : List ℕ) (c : Cursor) (w : Result (Parsed Parts) Fault) (x : Parsed Parts) where
  pub algorithm_fits : (j : ℕ) → w ≡ algorithm_at s c → w ≡ Ok x → length s ≤ file_bytes
      → leb j 16 ≡ true → Fits w64 (x.count + j)
  algorithm_fits j e f h l =
      let o = small s c x.count x.next (algorithm_past s c w x e f) h in omega (arith, o, leb-true j 16 l)

  pub encrypted_info_fits : (j : ℕ) → w ≡ encrypted_info_at s c → w ≡ Ok x → length s ≤ file_bytes
      → leb j 16 ≡ true → Fits w64 (x.count + j)
  encrypted_info_fits j e f h l =
      let o = small s c x.count x.next (encrypted_info_past s c w x e f) h in omega (arith, o, leb-true j 16 l)

pub ruleset rooms = (
  expected_from,
  expected_to,
  identifier_from,
  identifier_to,
  identifier_order,
  identifier_inside,
  opaque_from,
  opaque_to,
  value_from,
  value_to,
)

-- parts by their ranges
pub made : (i j p q v w : Range) (k : ℕ) (n : Cursor) → i ≡ j → p ≡ q → v ≡ w
    → ◌≡◌ {A = Result (Parsed Parts) Fault} (Ok (parsed (parts i p v) k n)) (Ok (parsed (parts j q w) k n))
made i j p q v w k n e f g = rw (e, f, g)

pub ruleset answers = (made)

-- the test of a value that may have to be an OCTET STRING, as the code makes it
pub value_step : (u : Bool) (s : List ℕ) (c : Cursor) (r : Result Checked Fault)
    → r ≡ (if u then on_element (expect_at octet_string_tag s c) Err (λ t b n. opaque_at opaque_levels s c) else opaque_at opaque_levels s c)
    → r ≡ value_at u s c
unfolding value_at
value_step true s c r e = e
value_step false s c r e = e

-- a certificate, CRL or secret as the code reads it, with what it found out about the type
abbrev typed_step : Bool → List ℕ → Cursor → Result (Parsed Parts) Fault
typed_step u s c =
    on_element (expect_at sequence_tag s c) Err
    (λ t b n.
    on_element (identifier_at s b) Err
    (λ t i m.
    on_element (expect_at context_tag s m) Err
    (λ t v e. typed_value_at (if u then same_bytes (bytes_of s i) x509_certificate else false) s i v e n)))

pub typed_step_lem : (u : Bool) (s : List ℕ) (c : Cursor) (r : Result (Parsed Parts) Fault) → r ≡ typed_step u s c → r ≡ typed_at u s c
unfolding typed_at typed_value_at
typed_step_lem u s c r e = e

pub typed_given : (u v : Bool) (s : List ℕ) (i b e n : Cursor) (r : Result (Parsed Parts) Fault) → u ≡ v → r ≡ typed_value_at u s i b e n → r ≡ typed_value_at v s i b e n
typed_given u v s i b e n r p q = rw (← p) q

-- ---- of bytes that are no longer than a file

pub in_file_lem : (s : List ℕ) (w v : Result (Parsed Parts) Fault) → w ≡ in_file s v → length s ≤ file_bytes → w ≡ v
unfolding in_file
in_file_lem s w v e h = e ∙ rw (le-ltb file_bytes (length s) h)

pub long_file : (s : List ℕ) (w v : Result (Parsed Parts) Fault) → file_bytes < length s → w ≡ Err (fault too_long 0) → w ≡ in_file s v
unfolding in_file
long_file s w v h e = rw (lt-ltb file_bytes (length s) h) e

pub short_file : (s : List ℕ) (w v : Result (Parsed Parts) Fault) → length s ≤ file_bytes → w ≡ v → w ≡ in_file s v
unfolding in_file
short_file s w v h e = rw (le-ltb file_bytes (length s) h) e

pub body_range_lem : (x : Range) (c : Cursor) → x ≡ body_range c → c.at ≤ file_bytes → c.end ≤ file_bytes → x ≡ range_of c
unfolding body_range
body_range_lem x c e h k =
    let a : min c.at file_bytes ≡ c.at = omega (arith, h) in
    let b : min c.end file_bytes ≡ c.end = omega (arith, k) in
    e ∙ rw (a, b)

-- for callers that know the bytes to be those of a file
pub ruleset in-files = (in_file_lem, body_range_lem)
