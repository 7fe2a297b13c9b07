-- The laws of `der`: what the crates above use in place of the definitions' text. Statements, with
-- their proofs elsewhere. `Bytes s` is required where the numbers of a list must be below 256:
-- only then is a length of one form.
use mathlib.Core.Bool.{true}
use mathlib.Core.Logic.{◌↔◌}
use mathlib.Core.Path.{◌≡◌, refl}
use mathlib.Core.List.{List, [], ◌∷◌, ◌++◌}
use Prim.Native.Nat.{ℕ, ◌+◌, ◌*◌, ◌/◌, ◌%◌, ◌≤◌, ◌<◌}
use lib.ListN.{length, get_or}
use Rattle.der.specs.Element.{tag_at, finish_at, element_at, expect_at, fault}
use Rattle.der.specs.Numbers.{left_over, length_bound, integer_bound, no_tag}
use Rattle.der.specs.Content.{identifier_body, identifier_at, integer_at}
use Rattle.der.specs.Opaque.{opaque_at, elements_at}
use Rattle.der.specs.Octets.{length_octets, tlv, number, integer_octets, IdentifierRule, IntegerRule}
use Rattle.der.specs.Span.{Bytes}
use Rattle.der.specs.Tree.{Tree, Trees, encode, encodes, Formed, AllFormed, siblings}
use Rattle.der.specs.Follows.{HeaderIs, IdentifierIs, IntegerIs, OpaqueIs, RunIs}
use Rattle.der.specs.Overrun.{ByteLeft, RunsPast}
use Rattle.der.specs.declared.Cursor.{Cursor}
use Rattle.der.specs.Element.{checked, element, valued}
use Rattle.std.specs.Prelude.{Err, Ok}
use Rattle.der.proofs.Octets as octets
use Rattle.der.proofs.Content as content
use Rattle.der.proofs.Placed as placed
use Rattle.der.proofs.Opaque as opaque
use Rattle.der.proofs.Header as header
use Rattle.der.proofs.Values as values
use Rattle.der.proofs.Trees as trees
use Rattle.der.proofs.Grammar as grammar

-- ---- one element

-- An element is accepted exactly if the bytes are `tlv` of its tag and body, and the body ends
-- within its parent.
pub header_iff : (s : List ℕ) (c : Cursor) (t : ℕ) (b n : Cursor) → Bytes s → element_at s c ≡ Ok (element t b n) ↔ HeaderIs s c t b n
header_iff s c t b n bytes = (header.header_sound s c t b n bytes, header.header_complete s c t b n)

-- Its body begins behind a header of two bytes at least and ends within its parent, which lies
-- within the bytes.
pub header_bounds : (s : List ℕ) (c : Cursor) (t : ℕ) (b n : Cursor) → element_at s c ≡ Ok (element t b n)
    → (c.at + 2 ≤ b.at) × (b.at ≤ b.end) × (b.end ≤ c.end) × (c.end ≤ length s)
header_bounds s c t b n e =
    let p = placed.found s c (element_at s c) t b n refl e in
    (p.body.past, p.body.size, p.body.within, p.inside)

-- An element is refused by 1 exactly if no byte is left in its parent, and then at the parent's end.
pub missing_iff : (s : List ℕ) (c : Cursor) (p : ℕ)
    → element_at s c ≡ Err (fault 1 p) ↔ (ByteLeft s c → ⊥) × (p ≡ c.end)
missing_iff s c p = (header.missing_sound s c p, header.missing_complete s c p)

-- It is refused by 15 exactly if a byte is left, the form of the tag is taken, and either the header
-- has a byte missing and its first length byte, if there is one, is 81 or 82, or the header is whole,
-- the form of its length is taken, and the body ends past the parent; and then at the tag.
pub overrun_iff : (s : List ℕ) (c : Cursor) (p : ℕ) → Bytes s
    → element_at s c ≡ Err (fault 15 p) ↔ RunsPast s c × (p ≡ c.at)
overrun_iff s c p bytes = (header.overrun_sound s c p bytes, header.overrun_complete s c p)

pub expect_iff : (due : ℕ) (s : List ℕ) (c : Cursor) (t : ℕ) (b n : Cursor)
    → expect_at due s c ≡ Ok (element t b n) ↔ (t ≡ due) × (element_at s c ≡ Ok (element t b n))
expect_iff due s c t b n =
    (placed.expected due s c (expect_at due s c) t b n refl, λ h. rw (← h.0) (placed.expect_is s c t b n h.1))

-- The length octets in the three forms that are read.
pub octets_short : (n : ℕ) → n < 128 → length_octets n ≡ n ∷ []
octets_short = octets.octets_short

pub octets_one : (n : ℕ) → 128 ≤ n → n < 256 → length_octets n ≡ 129 ∷ n ∷ []
octets_one = octets.octets_one

pub octets_two : (n : ℕ) → 256 ≤ n → n < length_bound → length_octets n ≡ 130 ∷ (n / 256) ∷ (n % 256) ∷ []
octets_two = octets.octets_two

-- ---- identifiers and integers

pub identifier_rule_iff : (body : List ℕ) → identifier_body body ≡ true ↔ IdentifierRule body
identifier_rule_iff body = (content.identifier_rule body, content.identifier_body_lem body)

pub identifier_iff : (s : List ℕ) (c : Cursor) (t : ℕ) (b n : Cursor) → Bytes s
    → identifier_at s c ≡ Ok (element t b n) ↔ IdentifierIs s c t b n
identifier_iff s c t b n bytes = (values.identifier_sound s c t b n bytes, values.identifier_complete s c t b n)

-- The INTEGER v is read exactly where the octets of v are, and v is below 2^31.
pub integer_iff : (s : List ℕ) (c : Cursor) (v : ℕ) (n : Cursor) → Bytes s
    → integer_at s c ≡ Ok (valued v n) ↔ IntegerIs s c v n
integer_iff s c v n bytes = (values.integer_sound s c v n bytes, values.integer_complete s c v n)

-- The octets of a number below 2^31 keep the rule and are read as that number; a body that keeps
-- the rule is the octets of its number.
pub octets_of_integer : (v : ℕ) → v < integer_bound → IntegerRule (integer_octets v) × (number (integer_octets v) ≡ v)
octets_of_integer v h = (octets.integer_rule v h, octets.integer_number v)

pub integer_of_octets : (body : List ℕ) → Bytes body → IntegerRule body
    → (integer_octets (number body) ≡ body) × (number body < integer_bound)
integer_of_octets body b r = (octets.integer_octets_lem body b r, octets.integer_below body b r)

-- ---- opaque elements

-- An opaque element is accepted exactly if the bytes are the encoding of a tree of as many levels
-- at most, and counted as the tree has elements.
pub opaque_iff : (l : ℕ) (s : List ℕ) (c : Cursor) (m : ℕ) (n : Cursor) → Bytes s → opaque_at l s c ≡ Ok (checked m n) ↔ OpaqueIs l s c m n
opaque_iff l s c m n bytes = (grammar.opaque_sound l s c m n bytes, grammar.opaque_complete l s c m n)

-- The same of a run of them that fills a body.
pub elements_iff : (l : ℕ) (s : List ℕ) (c : Cursor) (m : ℕ) (n : Cursor) → Bytes s → c.at ≤ c.end → c.end ≤ length s
    → elements_at l s c ≡ Ok (checked m n) ↔ RunIs l s c m n
elements_iff l s c m n bytes h i = (grammar.elements_sound l s c m n bytes h i, grammar.elements_complete l s c m n)

-- Twice the count is at most the bytes taken.
pub opaque_half : (l : ℕ) (s : List ℕ) (c : Cursor) (m : ℕ) (n : Cursor)
    → opaque_at l s c ≡ Ok (checked m n) → c.at + 2 * m ≤ n.at
opaque_half l s c m n e = (opaque.went l s c (opaque_at l s c) m n refl e).long

pub elements_half : (l : ℕ) (s : List ℕ) (c : Cursor) (m : ℕ) (n : Cursor)
    → elements_at l s c ≡ Ok (checked m n) → c.at + 2 * m ≤ n.at
elements_half l s c m n e = (opaque.ran l s c (elements_at l s c) m n refl e).long

-- ---- unique decoding

-- One element, of any length, whatever follows it.
pub element_unique : (t u : ℕ) (a b r s : List ℕ) → tlv t a ++ r ≡ tlv u b ++ s → (t ≡ u) × (a ≡ b) × (r ≡ s)
element_unique = octets.tlv_unique

-- One opaque element, whatever follows it.
pub opaque_unique : (x y : Tree) (r s : List ℕ) → Formed x → Formed y
    → encode x ++ r ≡ encode y ++ s → (x ≡ y) × (r ≡ s)
opaque_unique = trees.tree_unique

-- A run of them to the end, and a run of equally many, whatever follows it.
pub run_unique : (xs ys : Trees) → AllFormed xs → AllFormed ys → encodes xs ≡ encodes ys → xs ≡ ys
run_unique = trees.trees_unique

pub run_unique_then : (xs ys : Trees) (r s : List ℕ) → siblings xs ≡ siblings ys → AllFormed xs → AllFormed ys
    → encodes xs ++ r ≡ encodes ys ++ s → (xs ≡ ys) × (r ≡ s)
run_unique_then = trees.run_unique

-- ---- what is left in a parent

pub finish_iff : (c : Cursor) → finish_at c ≡ Ok (checked 0 c) ↔ c.end ≤ c.at
finish_iff c = (header.finish_sound c, header.finish_done c)

pub finish_left : (c : Cursor) → c.at < c.end → finish_at c ≡ Err (fault left_over c.at)
finish_left = header.finish_left

-- The next byte where one is left, and none at the parent's end.
pub tag_left : (s : List ℕ) (c : Cursor) → c.at < c.end → c.end ≤ length s → tag_at s c ≡ get_or s c.at 0
tag_left = header.tag_left

pub tag_none : (s : List ℕ) (c : Cursor) → c.end ≤ c.at → tag_at s c ≡ no_tag
tag_none = header.tag_none
