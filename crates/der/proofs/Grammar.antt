-- The opaque check with l levels accepts exactly the encodings of trees of at most l levels, and
-- counts their elements.
use mathlib.Core.Path.{◌≡◌, refl, sym, ◌∙◌}
use mathlib.Core.List.{List}
use Prim.Native.Nat.{ℕ, zero, suc, ◌+◌, ◌-◌, ◌/◌, ◌%◌, ◌≤◌, ◌<◌}
use native.Mathlib.Omega.{arith}
use lib.ListN.{length}
use borrow.Author.Tests.{eq-eqb, ne_eqb}
use Rattle.der.specs.Element.{cursor, element_at}
use Rattle.der.specs.Content.{bytes_of}
use Rattle.der.specs.Many.{many}
use Rattle.der.specs.Opaque.{counted, go_on, at_end, run, opaque_at, elements_at}
use Rattle.der.specs.Span.{Span, Bytes}
use Rattle.der.specs.Tree.{Tree, primitive, constructed, Trees, none, more, encode, encodes}
use Rattle.der.specs.Tree.{elements, elements_in, depth, deepest, Formed, AllFormed}
use Rattle.der.specs.Follows.{OpaqueIs, RunIs}
use Rattle.der.specs.declared.Cursor.{Cursor}
use Rattle.der.specs.Element.{checked, element}
use Rattle.der.specs.declared.Checked.{Checked}
use Rattle.der.specs.declared.Fault.{Fault}
use Rattle.std.specs.Prelude.{Err, Ok, Result}
use Rattle.der.proofs.Choices.{by_eq}
use Rattle.der.proofs.Placed.{by_element}
use Rattle.der.proofs.Many.{many_holds, many_end, going_on}
use Rattle.der.proofs.Opaque.{by_checked, by_step, opaque_step_lem}
use Rattle.der.proofs.Spans.{span_empty, span_join, span_split, slice_span}
use Rattle.der.proofs.Header.{header_then, header_sound, header_next}
use Rattle.der.proofs.Trees.{tree_long, tree_some}

-- what a tree is written as is accepted, and so is what a run of trees is written as, with any fuel
-- that reaches its end
module _ (s : List ℕ) where
  abbrev looped : ℕ → ℕ → ℕ → ℕ → ℕ → Result Checked Fault
  looped l end fuel m at = many go_on (at_end end) (counted (opaque_at l s) end) fuel end m at

  primitive_is : (l at end t : ℕ) (b n : Cursor) → element_at s (cursor at end) ≡ Ok (element t b n) → 1 ≤ l → t / 32 % 2 ≡ 0
      → opaque_at l s (cursor at end) ≡ Ok (checked 1 n)
  primitive_is l at end t b n f h k =
      sym
      (opaque_step_lem l s (cursor at end) (Ok (checked 1 n)) (rw (f, ne_eqb l 0 (λ z. omega arith), eq-eqb (t / 32 % 2) 0 k)))

  constructed_is : (l at end t m : ℕ) (b n e : Cursor)
      → element_at s (cursor at end) ≡ Ok (element t b n) → 1 ≤ l → t / 32 % 2 ≡ 1
      → elements_at (l - 1) s b ≡ Ok (checked m e) → opaque_at l s (cursor at end) ≡ Ok (checked (m + 1) n)
  constructed_is l at end t m b n e f h k r =
      sym (opaque_step_lem l s (cursor at end) (Ok (checked (m + 1) n))
      (rw (f, ne_eqb l 0 (λ z. omega arith), ne_eqb (t / 32 % 2) 0 (λ z. omega arith), r)))

  elements_is : (l b e m : ℕ) → looped l e (e - b) 0 b ≡ Ok (checked (0 + m) (cursor e e))
      → elements_at l s (cursor b e) ≡ Ok (checked m (cursor e e))
  unfolding elements_at run
  elements_is l b e m p = let z : 0 + m ≡ m = omega arith in rw z at p

  loop_is : (l end fuel m at b i r : ℕ) → end ≤ at + fuel → at < end
      → opaque_at l s (cursor at end) ≡ Ok (checked i (cursor b end))
      → ((f : ℕ) → end ≤ at + 1 + f → looped l end f (m + i) b ≡ Ok (checked (m + i + r) (cursor end end)))
      → looped l end fuel m at ≡ Ok (checked (m + (i + r)) (cursor end end))
  loop_is l end fuel m at b i r h k o go =
      let g = going_on go_on (at_end end) (counted (opaque_at l s) end) end (looped l end fuel m at) m at
      (record { fuel = fuel; enough = h; rest = refl }) k in
      let z : m + i + r ≡ m + (i + r) = omega arith in
      g.rest ∙ rw (o, ← z) (go g.fuel g.enough)

  mutual
    unfolding encode elements depth Formed

    pub tree_accepted : (x : Tree) (l at e end : ℕ) → Formed x → depth x ≤ l → Span s at e (encode x)
        → e ≤ end → end ≤ length s
        → opaque_at l s (cursor at end) ≡ Ok (checked (elements x) (cursor e end))
    tree_accepted (primitive t body) l at e end f d p h i =
        header_then s at e end t body f.0 f.2 p h i
        (λ b g q. primitive_is l at end t (cursor b e) (cursor e end) g d f.1)
    tree_accepted (constructed t xs) l at e end f d p h i =
        header_then s at e end t (encodes xs) f.0 f.2 p h i
        (λ b g q.
        constructed_is l at end t (elements_in xs) (cursor b e) (cursor e end) (cursor e e) g (omega arith) f.1
        (elements_is (l - 1) b e (elements_in xs)
        (trees_accepted xs (l - 1) b e (e - b) 0 f.3 (omega arith) q (omega arith))))

    trees_accepted : (xs : Trees) (l at end fuel m : ℕ) → AllFormed xs → deepest xs ≤ l
        → Span s at end (encodes xs) → end ≤ at + fuel
        → looped l end fuel m at ≡ Ok (checked (m + elements_in xs) (cursor end end))
    trees_accepted none l at end fuel m f d p h =
        let z : at ≡ end = omega (arith, p.size) in
        let y : m + 0 ≡ m = omega arith in
        rw (y, z) (many_end go_on (at_end end) (counted (opaque_at l s) end) end fuel m end (omega arith))
    trees_accepted (more x xs) l at end fuel m f d p h =
        span_split s at end (encode x) (encodes xs) p
        (λ b q r.
        loop_is l end fuel m at b (elements x) (elements_in xs) h
        (omega (arith, q.size, r.size, tree_long x, tree_some x))
        (tree_accepted x l at b end f.0 (omega arith) q (omega (arith, r.size)) r.inside)
        (λ g k. trees_accepted xs l b end g (m + elements x) f.1 (omega arith) r
        (omega (arith, q.size, tree_long x, tree_some x))))

-- what is accepted is what a tree is written as, in a list of bytes
module _ (s : List ℕ) (bytes : Bytes s) where
  -- the rest of a run: from m elements at `at`, up to m' at the parent's end
  record RunFrom (l end m at m' : ℕ) (n : Cursor) : Type 0 where
    trees : Trees
    formed : AllFormed trees
    levels : deepest trees ≤ l
    count : m' ≡ m + elements_in trees
    whole : Span s at end (encodes trees)
    next : n ≡ cursor end end

  abbrev OfTree : ℕ → Cursor → Result Checked Fault → Type 0
  OfTree l c (Err f) = Unit {0}
  OfTree l c (Ok x) = OpaqueIs l s c x.count x.next

  abbrev OfRest : ℕ → ℕ → ℕ → ℕ → Result Checked Fault → Type 0
  OfRest l end m at (Err f) = Unit {0}
  OfRest l end m at (Ok x) = RunFrom l end m at x.count x.next

  abbrev OfTrees : ℕ → Cursor → Result Checked Fault → Type 0
  OfTrees l c (Err f) = Unit {0}
  OfTrees l c (Ok x) = RunIs l s c x.count x.next

  -- one tree more in front of the rest
  rest_more : (l end m at i : ℕ) (n : Cursor) → OpaqueIs l s (cursor at end) i n → (x : Result Checked Fault)
      → OfRest l end (m + i) n.at x → OfRest l end m at x
  unfolding encode elements depth Formed
  rest_more l end m at i n o (Err f) r = tt
  rest_more l end m at i n o (Ok x) r =
      record {
        trees = more o.tree r.trees;
        formed = (o.formed, r.formed);
        levels = omega (arith, o.levels, r.levels);
        count = omega (arith, o.count, r.count);
        whole = span_join s at n.at end (encode o.tree) (encodes r.trees) o.whole r.whole;
        next = r.next;
      }

  trees_of : (l : ℕ) (check : Cursor → Result Checked Fault) → ((c : Cursor) → OfTree l c (check c)) → (c : Cursor)
      → c.at ≤ c.end → c.end ≤ length s
      → OfRest l c.end 0 c.at (run check c)
  unfolding run encode elements depth Formed
  trees_of l check each c h i =
      many_holds go_on (at_end c.end) (counted check c.end) c.end (OfRest l c.end) (λ m at. at ≤ c.end)
      (λ m at k j.
      let z : at ≡ c.end = omega arith in
      record {
        trees = none;
        formed = tt;
        levels = omega arith;
        count = omega arith;
        whole = rw z (span_empty s c.end i);
        next = rw z;
      })
      (λ m at k j next go.
      by_step (OfRest l c.end m at) check c.end m at next (OfTree l (cursor at c.end)) (λ f. tt)
      (λ i n o. rest_more l c.end m at i n o (next (m + i) n.at)
      (go (m + i) n.at (omega (arith, o.whole.size, tree_long o.tree, tree_some o.tree)) o.moved.within))
      (each (cursor at c.end)))
      (c.end - c.at) 0 c.at (omega arith) h

  run_is : (l : ℕ) (c : Cursor) (x : Result Checked Fault) → OfRest l c.end 0 c.at x → OfTrees l c x
  run_is l c (Err f) r = tt
  run_is l c (Ok x) r =
      record {
        trees = r.trees;
        formed = r.formed;
        levels = r.levels;
        count = omega (arith, r.count);
        whole = r.whole;
        next = r.next;
      }

  tree_of : (l : ℕ) (c : Cursor) → OfTree l c (opaque_at l s c)
  unfolding opaque_at encode elements depth Formed
  tree_of zero c = by_element (OfTree zero c) (λ x. element_at s c ≡ x) _ _ (λ f. tt)
      (λ t b n p. tt) (element_at s c) refl
  tree_of (suc l) c =
      by_element (OfTree (suc l) c) (λ x. element_at s c ≡ x) _ _ (λ f. tt)
      (λ t b n p.
      let d = header_sound s c t b n bytes p in
      let o = header_next s c t b n d in
      by_eq (OfTree (suc l) c) _ _ (t / 32 % 2) 0
      (λ h.
      record {
        tree = primitive t (bytes_of s b);
        formed = (d.form, h, d.small);
        levels = omega arith;
        count = refl;
        whole = o.0;
        moved = o.1;
      })
      (λ h.
      by_checked (OfTree (suc l) c) (OfRest l b.end 0 b.at) _ _ (λ f. tt)
      (λ m e r.
      let z : bytes_of s b ≡ encodes r.trees = slice_span s b.at b.end (encodes r.trees) r.whole in
      record {
        tree = constructed t r.trees;
        formed = (d.form, omega arith, rw z at d.small, r.formed);
        levels = omega (arith, r.levels);
        count = omega (arith, r.count);
        whole = rw z at o.0;
        moved = o.1;
      })
      (run (opaque_at l s) b)
      (trees_of l (opaque_at l s) (tree_of l) b (omega (arith, d.body.size)) d.body.inside)))
      (element_at s c) refl

pub opaque_sound : (l : ℕ) (s : List ℕ) (c : Cursor) (m : ℕ) (n : Cursor) → Bytes s
    → opaque_at l s c ≡ Ok (checked m n) → OpaqueIs l s c m n
opaque_sound l s c m n bytes e = rw e at (tree_of s bytes l c)

pub opaque_complete : (l : ℕ) (s : List ℕ) (c : Cursor) (m : ℕ) (n : Cursor) → OpaqueIs l s c m n
    → opaque_at l s c ≡ Ok (checked m n)
opaque_complete l s c m n o =
    tree_accepted s o.tree l c.at n.at c.end o.formed o.levels o.whole
    o.moved.within o.moved.inside
    ∙ rw (← o.count, ← o.moved.next)

pub elements_sound : (l : ℕ) (s : List ℕ) (c : Cursor) (m : ℕ) (n : Cursor) → Bytes s
    → c.at ≤ c.end → c.end ≤ length s
    → elements_at l s c ≡ Ok (checked m n) → RunIs l s c m n
unfolding elements_at
elements_sound l s c m n bytes h i e =
    rw e at (run_is s bytes l c (run (opaque_at l s) c) (trees_of s bytes l (opaque_at l s) (tree_of s bytes l) c h i))

pub elements_complete : (l : ℕ) (s : List ℕ) (c : Cursor) (m : ℕ) (n : Cursor) → RunIs l s c m n
    → elements_at l s c ≡ Ok (checked m n)
elements_complete l s c m n r =
    elements_is s l c.at c.end (elements_in r.trees)
    (trees_accepted s r.trees l c.at c.end (c.end - c.at) 0 r.formed r.levels r.whole (omega arith))
    ∙ rw (← r.count, r.next)
