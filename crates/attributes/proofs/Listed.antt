-- The elements of an attribute by value.
use mathlib.Core.Path.{◌≡◌, refl, sym}
use mathlib.Core.List.{List, [], map}
use Prim.Native.Nat.{ℕ, zero, suc, ◌+◌, ◌≤◌}
use native.Mathlib.Omega.{arith}
use lib.ListN.{length, get_or, length-map, get_or-map}
use Rattle.der.specs.Element.{cursor, element_at}
use Rattle.der.specs.Span.{Span}
use Rattle.der.specs.Tree.{Tree, primitive, constructed, Trees, none, more, encode, encodes, Formed, AllFormed}
use Rattle.der.specs.declared.Cursor.{Cursor}
use Rattle.der.specs.Element.{element}
use Rattle.std.specs.Prelude.{Ok}
use Rattle.der.proofs.Header.{header_then}
use Rattle.der.proofs.Spans.{span_slice, slice_span, span_split}
use Rattle.der.proofs.Trees.{tree_long, tree_some}
use Rattle.pkcs12.specs.Sound.{Lies}
use Rattle.range.specs.Range.{no_range, bytes_in}
use Rattle.pkcs12.specs.Valid.{Opaques}
use Rattle.range.specs.declared.Range.{Range}
use Rattle.elements.specs.Elements.{elements_from, element_ranges, counted_of}
use Rattle.attributes.specs.Own.{each, Chain}
use Rattle.elements.proofs.Siblings.{run_end, run_more}

-- what a tree is written as is found as one element: k is what follows from that
tree_then : {P : Type 0} (s : List ℕ) (x : Tree) (at e end : ℕ) → Formed x → Span s at e (encode x)
    → e ≤ end → end ≤ length s
    → ((t : ℕ) (b : Cursor) → element_at s (cursor at end) ≡ Ok (element t b (cursor e end)) → P) → P
unfolding encode Formed
tree_then s (primitive t body) at e end f p h i k =
    header_then s at e end t body f.0 f.2 p h i (λ b g q. k t (cursor b e) g)
tree_then s (constructed t xs) at e end f p h i k =
    header_then s at e end t (encodes xs) f.0 f.2 p h i (λ b g q. k t (cursor b e) g)

module _ (s : List ℕ) (end : ℕ) where
  -- the elements of a run of trees, with any fuel that reaches its end: by value, and one behind
  -- another
  each_from : (xs : Trees) (fuel at : ℕ) → AllFormed xs → Span s at end (encodes xs) → end ≤ at + fuel
      → (map (bytes_in s) (elements_from fuel s end at) ≡ each xs) × Chain at end (elements_from fuel s end at)
  unfolding encode Formed each Chain
  each_from none fuel at f p h = rw (run_end fuel s end at (omega (arith, p.size))) (refl, omega (arith, p.size))
  each_from (more x xs) zero at f p h =
      span_split s at end (encode x) (encodes xs) p
      (λ b q r. absurd (omega (arith, q.size, r.size, tree_long x, tree_some x)))
  each_from (more x xs) (suc fuel) at f p h =
      span_split s at end (encode x) (encodes xs) p
      (λ b q r.
      let l : at + 2 ≤ b = omega (arith, q.size, tree_long x, tree_some x) in
      let m : b ≤ end = omega (arith, r.size) in
      let k = each_from xs fuel b f.1 r (omega arith) in
      tree_then s x at b end f.0 q m r.inside
      (λ t c g. rw (run_more fuel s end at t c (cursor b end) (omega arith) g)
      (rw (slice_span s at b (encode x) q, k.0), (refl, omega arith, k.1))))

module _ (s : List ℕ) (r : Range) (h : Lies s r) (o : Opaques (bytes_in s r)) where
  ranges : (map (bytes_in s) (element_ranges s r) ≡ each o.as_trees) × Chain r.start r.end (element_ranges s r)
  unfolding element_ranges
  ranges =
      each_from s r.end o.as_trees _ r.start o.formed
      (rw o.whole (span_slice s r.start r.end h.order h.inside))
      (omega (arith, h.order))

  pub elements_by_value : map (bytes_in s) (element_ranges s r) ≡ each o.as_trees
  elements_by_value = ranges.0

  pub elements_follow : Chain r.start r.end (element_ranges s r)
  elements_follow = ranges.1

  -- the number of elements, and element i; past the last there is no byte
  pub element_counted : (i : ℕ)
      → ((counted_of (element_ranges s r) i).count ≡ length (each o.as_trees))
      × (bytes_in s (counted_of (element_ranges s r) i).element ≡ get_or (each o.as_trees) i [])
  unfolding counted_of
  element_counted i =
      rw (← elements_by_value)
      (sym (length-map (element_ranges s r) (bytes_in s)), sym (get_or-map (bytes_in s) (element_ranges s r) i no_range))
