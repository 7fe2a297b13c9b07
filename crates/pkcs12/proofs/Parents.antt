-- Elements in the body of their parent: what is known of an element that was accepted, for the
-- parts above it.
use mathlib.Core.Path.{◌≡◌, refl, sym, ap, ◌∙◌}
use mathlib.Core.List.{List, [], ◌∷◌}
use Prim.Native.Nat.{ℕ, ◌≤◌}
use native.Mathlib.Omega.{arith}
use lib.ListN.{length, get_or}
use Rattle.der.specs.Numbers.{opaque_levels, identifier_tag}
use Rattle.der.specs.Element.{cursor, whole_of, finish_at, expect_at, on_element}
use Rattle.der.specs.Content.{bytes_of, identifier_at, integer_at, on_integer}
use Rattle.der.specs.Octets.{tlv}
use Rattle.der.specs.Opaque.{on_checked, opaque_at, elements_at}
use Rattle.der.specs.Span.{Span, Bytes}
use Rattle.der.specs.Tree.{Tree, Trees, none, more, encode, encodes, elements, elements_in, depth, deepest, Formed}
use Rattle.der.specs.Tree.{AllFormed}
use Rattle.der.specs.Follows.{Moved, HeaderIs, IdentifierIs, IntegerIs, OpaqueIs, RunIs}
use Rattle.der.specs.declared.Fault.{Fault}
use Rattle.der.specs.declared.Cursor.{Cursor}
use Rattle.der.specs.declared.Integer.{Integer}
use Rattle.std.specs.Prelude.{Err, Ok, Result}
use Rattle.der.proofs.Choices.{either}
use Rattle.der.proofs.Placed.{by_element, expected}
use Rattle.der.proofs.Opaque.{by_checked}
use Rattle.der.proofs.Spans.{span_whole, slice_span, span_at}
use Rattle.der.proofs.Header.{header_sound, header_next, finish_left, finish_done}
use Rattle.der.proofs.Values.{identifier_sound, integer_sound}
use Rattle.der.proofs.Octets.{tlv_first, tlv_long}
use Rattle.der.proofs.Trees.{tree_long, tree_some, run_one, run_none}
use Rattle.der.proofs.Grammar.{opaque_sound, elements_sound, elements_complete}
use Rattle.pkcs12.specs.Elements.{opaque_count}
use Rattle.pkcs12.specs.Valid.{Opaque, AtMostOne}
use Rattle.pkcs12.specs.Walk.{range_of}
use Rattle.pkcs12.specs.Laid.{ElementLaid, PieceLaid}
use Rattle.range.specs.Range.{range}
use Rattle.range.specs.declared.Range.{Range}
use Rattle.pkcs12.specs.declared.row.Parts.{Parts}

-- what holds of a refusal and of what was found holds of what is made of them, for each kind of
-- element
module _ (s : List ℕ) (bytes : Bytes s) {A : Type 0} (P : A → Type 0) (bad : Fault → A) (refusal : (f : Fault) → P (bad f)) (c : Cursor) where
  pub by_expect : (due : ℕ) (good : ℕ → Cursor → Cursor → A) → ((b n : Cursor) → HeaderIs s c due b n → P (good due b n))
      → P (on_element (expect_at due s c) bad good)
  by_expect due good g =
      by_element P (λ x. expect_at due s c ≡ x) bad good refusal
      (λ t b n e.
      let q = expected due s c (expect_at due s c) t b n refl e in
      rw q.0 (g b n (header_sound s c due b n bytes (rw q.0 at q.1))))
      (expect_at due s c) refl

  pub by_identifier : (good : ℕ → Cursor → Cursor → A) → ((t : ℕ) (b n : Cursor) → IdentifierIs s c t b n → P (good t b n))
      → P (on_element (identifier_at s c) bad good)
  by_identifier good g =
      by_element P (λ x. identifier_at s c ≡ x) bad good refusal (λ t b n e. g t b n (identifier_sound s c t b n bytes e)) (identifier_at s c) refl

  pub by_integer : (good : ℕ → Cursor → A) → ((v : ℕ) (n : Cursor) → IntegerIs s c v n → P (good v n)) → P (on_integer (integer_at s c) bad good)
  by_integer good g = go (integer_at s c) refl
    where
      go : (x : Result Integer Fault) → integer_at s c ≡ x → P (on_integer x bad good)
      go (Err f) e = refusal f
      go (Ok x) e = g x.value x.next (integer_sound s c x.value x.next bytes e)

  pub by_opaque : (good : ℕ → Cursor → A) → ((m : ℕ) (n : Cursor) → OpaqueIs opaque_levels s c m n → P (good m n))
      → P (on_checked (opaque_at opaque_levels s c) bad good)
  by_opaque good g =
      by_checked P (λ x. opaque_at opaque_levels s c ≡ x) bad good refusal (λ m n e. g m n (opaque_sound opaque_levels s c m n bytes e))
      (opaque_at opaque_levels s c) refl

  pub by_elements : (good : ℕ → Cursor → A) → c.at ≤ c.end → c.end ≤ length s → ((m : ℕ) (n : Cursor) → RunIs opaque_levels s c m n → P (good m n))
      → P (on_checked (elements_at opaque_levels s c) bad good)
  by_elements good h i g =
      by_checked P (λ x. elements_at opaque_levels s c ≡ x) bad good refusal (λ m n e. g m n (elements_sound opaque_levels s c m n bytes h i e))
      (elements_at opaque_levels s c) refl

-- a parent that is finished ends where its last element ends
module _ {A : Type 0} (P : A → Type 0) (bad : Fault → A) (refusal : (f : Fault) → P (bad f)) (c : Cursor) where
  pub by_finish : (good : ℕ → Cursor → A) → (c.end ≤ c.at → P (good 0 c)) → P (on_checked (finish_at c) bad good)
  by_finish good g = either c.at c.end (λ h. rw (finish_left c h) (refusal _)) (λ h. rw (finish_done c h) (g h))

-- the cursor c is what is left of the parent's body
pub record In (par : Range) (c : Cursor) : Type 0 where
  pub after : par.start ≤ c.at
  pub within : c.at ≤ c.end
  pub end : c.end ≡ par.end

-- nothing is left where the parent is finished
pub finished : (par : Range) (c : Cursor) → In par c → c.end ≤ c.at → c.at ≡ par.end
finished par c i h = omega (arith, i.within, i.end)

pub in_body : (s : List ℕ) (c : Cursor) (t : ℕ) (b n : Cursor) → HeaderIs s c t b n → In (range_of b) b
in_body s c t b n h = record { after = omega arith; within = omega (arith, h.body.size); end = refl }

-- what is left behind an element that ends at `stop`
pub in_next : (s : List ℕ) (par : Range) (c n : Cursor) (stop : ℕ) → In par c → c.at ≤ stop → Moved s c stop n → In par n
in_next s par c n stop i h m = rw m.next record { after = omega (arith, i.after); within = m.within; end = i.end }

-- an element whose body holds x, in its parent's body; n is past it
pub record Closed (s : List ℕ) (par : Range) (c : Cursor) (t : ℕ) (b n : Cursor) (x : List ℕ) : Type 0 where
  pub child : ElementLaid s c.at n.at t (range_of b) x
  pub whole : Span s c.at n.at (tlv t x)
  pub past : In par n

pub closed : (s : List ℕ) (par : Range) (c : Cursor) (t : ℕ) (b n : Cursor) (x : List ℕ)
    → In par c → HeaderIs s c t b n → Span s b.at b.end x → Closed s par c t b n x
closed s par c t b n x i h p =
    let z : bytes_of s b ≡ x = slice_span s b.at b.end x p in
    let o = header_next s c t b n h in
    let w : Span s c.at n.at (tlv t x) = rw z at o.0 in
    record {
      child = record { element = w; body = p; ends = ap (λ (d : Cursor). d.at) (sym h.moved.next) };
      whole = w;
      past = in_next s par c n n.at i (omega (arith, w.size)) o.1;
    }

-- the same between offsets that are written otherwise
pub laid_at : {s : List ℕ} {from to t : ℕ} {r : Range} {x : List ℕ} (start end : ℕ) → from ≡ start → to ≡ end
    → ElementLaid s from to t r x → ElementLaid s start end t r x
laid_at start end d e l = rw (d, e) at l

pub laid_to : {s : List ℕ} {from to t : ℕ} {r : Range} {x : List ℕ} (end : ℕ) → to ≡ end → ElementLaid s from to t r x → ElementLaid s from end t r x
laid_to end e l = laid_at _ end refl e l

-- an element whose body isn't looked at
pub closed_any : (s : List ℕ) (par : Range) (c : Cursor) (t : ℕ) (b n : Cursor) → In par c → HeaderIs s c t b n → Closed s par c t b n (bytes_of s b)
closed_any s par c t b n i h = closed s par c t b n (bytes_of s b) i h h.body

-- an identifier
pub closed_identifier : (s : List ℕ) (par : Range) (c : Cursor) (t : ℕ) (b n : Cursor) → In par c → IdentifierIs s c t b n
    → Closed s par c identifier_tag b n (bytes_of s b)
closed_identifier s par c t b n i d = closed_any s par c identifier_tag b n i (rw d.tag at d.header)

-- an opaque element: it is valid, its elements, and where it is
pub record Settled (s : List ℕ) (par : Range) (c : Cursor) (m : ℕ) (n : Cursor) (x : List ℕ) : Type 0 where
  pub valid : Opaque x
  pub count : m ≡ opaque_count x
  pub piece : PieceLaid s c.at n.at (range c.at n.at) x
  pub past : In par n

-- the elements of trees, counted by their bytes
pub opaques_count : (ts : Trees) → AllFormed ts → deepest ts ≤ opaque_levels → opaque_count (encodes ts) ≡ elements_in ts
unfolding opaque_count
opaques_count ts f d =
    rw (elements_complete opaque_levels (encodes ts) (whole_of (encodes ts)) (elements_in ts) (cursor (length (encodes ts)) (length (encodes ts)))
    (record { trees = ts; formed = f; levels = d; count = refl; whole = span_whole (encodes ts); next = refl }))

pub opaque_count_lem : (t : Tree) → Formed t → depth t ≤ opaque_levels → opaque_count (encode t) ≡ elements t
opaque_count_lem t f d =
    let o = run_one t f in
    rw (← o.1) (opaques_count (more t none) o.0 (omega (arith, o.3)) ∙ o.2)

-- no parameters have no element
pub nothing_count : opaque_count [] ≡ 0
nothing_count = let o = run_none in rw (← o.1) (opaques_count none o.0 (omega (arith, o.3)) ∙ o.2)

pub at_most_one : (x : List ℕ) → Opaque x → AtMostOne x
at_most_one [] o = tt
at_most_one (b ∷ x) o = o

pub settled : (s : List ℕ) (par : Range) (c : Cursor) (m : ℕ) (n : Cursor) → In par c
    → (o : OpaqueIs opaque_levels s c m n) → Settled s par c m n (encode o.tree)
settled s par c m n i o =
    let e = in_next s par c n n.at i (omega (arith, o.whole.size)) o.moved in
    record {
      valid = record { as_tree = o.tree; formed = o.formed; depth = omega (arith, o.levels); whole = refl };
      count = rw (opaque_count_lem o.tree o.formed o.levels) o.count;
      piece = record { starts = refl; ends = refl; bytes = o.whole };
      past = e;
    }

pub some_byte : (t : Tree) → 1 ≤ length (encode t)
some_byte t = omega (arith, tree_long t, tree_some t)

-- the first byte of an element that was met as another thing too
pub first_byte : (s : List ℕ) (c : Cursor) (t : ℕ) (b n : Cursor) (e : ℕ) (x : List ℕ) → HeaderIs s c t b n → Span s c.at e x → 1 ≤ length x → get_or x 0 0 ≡ t
first_byte s c t b n e x h p l =
    sym (span_at s c.at e 0 c.at x p (omega arith) l)
    ∙ span_at s c.at b.end 0 c.at (tlv t (bytes_of s b)) h.whole (omega arith) (omega (arith, tlv_long t (bytes_of s b)))
    ∙ tlv_first t (bytes_of s b)

-- parts that were found: the value that they hold, by its rule, its elements, where it is in the
-- body `par`, and its bytes from c to n
pub record Is (s : List ℕ) {A : Type 0} (Rule : A → Type 0) (count_of : A → ℕ) (Laid : ℕ → ℕ → Parts → A → Type 0)
    (bytes_of : A → List ℕ) (par : Range) (c : Cursor) (p : Parts) (m : ℕ) (n : Cursor) : Type 0 where
  pub value : A
  pub valid : Rule value
  pub count : m ≡ count_of value
  pub laid : Laid c.at n.at p value
  pub whole : Span s c.at n.at (bytes_of value)
  pub past : In par n
