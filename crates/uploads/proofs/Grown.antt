-- What passes is one tree of 20 levels at most, and the tally is the tree's: its number of elements
-- and its depth.
use mathlib.Core.Path.{◌≡◌, refl, sym, ap, ◌∙◌}
use mathlib.Core.List.{List}
use Prim.Native.Nat.{ℕ, zero, suc, ◌+◌, ◌-◌, ◌/◌, ◌%◌, ◌≤◌, max}
use native.Mathlib.Omega.{arith}
use lib.Dec.{ltb}
use lib.ListN.{length}
use borrow.Author.Tests.{lt-ltb, le-ltb, ltb-false, eq-eqb, ne_eqb}
use Rattle.der.specs.Element.{cursor, fault, whole_of, element_at, finish_at}
use Rattle.der.specs.Many.{many}
use Rattle.der.specs.Opaque.{on_checked, opaque_at}
use Rattle.der.specs.Span.{Span, Bytes}
use Rattle.der.specs.Tree.{Tree, primitive, constructed, Trees, none, more, encode, encodes, elements_in}
use Rattle.der.specs.Tree.{depth, deepest, Formed, AllFormed}
use Rattle.der.specs.Tree as trees
use Rattle.der.specs.Follows.{OpaqueIs}
use Rattle.der.specs.declared.Fault.{Fault}
use Rattle.der.specs.declared.Cursor.{Cursor}
use Rattle.der.specs.Element.{checked, element}
use Rattle.der.specs.declared.Checked.{Checked}
use Rattle.std.specs.Prelude.{Err, Ok, Result}
use Rattle.der.proofs.Choices.{either}
use Rattle.der.proofs.Many.{many_end, going_on}
use Rattle.der.proofs.Spans.{span_whole, span_split, span_same, span_to}
use Rattle.der.proofs.Header.{header_then}
use Rattle.der.proofs.Grammar.{opaque_sound}
use Rattle.der.proofs.Trees.{tree_long, tree_some}
use Rattle.buffer.specs.Numbers.{file_bytes, too_long}
use Rattle.header.specs.Numbers.{upload_levels}
use Rattle.uploads.specs.Whole.{Tally, no_element, tallied, Reached, go_on, walk_at}
use Rattle.uploads.specs.Whole.{Refused, Passed, whole}
use Rattle.uploads.specs.Same.{opaque_then_finish, forgotten, PassedTree}
use Rattle.uploads.proofs.Fed.{cases}
use Rattle.uploads.proofs.Same.{whole_opaque}

-- a tally after a tree on level v, and after trees side by side
unfoldable mutual
  grow : ℕ → Tree → Tally → Tally
  grow v (primitive t body) tl = tallied v tl
  grow v (constructed t xs) tl = grows (suc v) xs (tallied v tl)

  grows : ℕ → Trees → Tally → Tally
  grows v none tl = tl
  grows v (more x xs) tl = grows v xs (grow v x tl)

abbrev tally : (elements level : ℕ) → Tally
tally m d = record { elements = m; level = d }

abbrev plus : Tally → ℕ → ℕ → Tally
plus tl m d = tally (tl.elements + m) (max tl.level d)

same_tally : (c d m e : ℕ) → c ≡ m → d ≡ e → tally c d ≡ tally m e
same_tally c d m e p q = rw (p, q)

mutual
  unfolding grow tallied trees.elements depth

  grow_is : (v : ℕ) (x : Tree) (tl : Tally) → grow (suc v) x tl ≡ plus tl (trees.elements x) (v + depth x)
  grow_is v (primitive t body) tl = same_tally _ _ _ _ refl (omega arith)
  grow_is v (constructed t xs) tl =
      grows_is (suc v) xs (tallied (suc v) tl) (omega arith) ∙ same_tally _ _ _ _ (omega arith) (omega arith)

  grows_is : (v : ℕ) (xs : Trees) (tl : Tally) → v ≤ tl.level
      → grows (suc v) xs tl ≡ plus tl (elements_in xs) (v + deepest xs)
  grows_is v none tl h = same_tally _ _ _ _ (omega arith) (omega arith)
  grows_is v (more x xs) tl h =
      ap (grows (suc v) xs) (grow_is v x tl)
      ∙ (grows_is v xs (plus tl (trees.elements x) (v + depth x)) (omega arith)
      ∙ same_tally _ _ _ _ (omega arith) (omega arith))

grown : (x : Tree) → grow 1 x no_element ≡ tally (trees.elements x) (depth x)
grown x = grow_is 0 x no_element ∙ same_tally _ _ _ _ (omega arith) (omega arith)

-- what a tree is written as is checked
module _ (s : List ℕ) where
  plain_is : (l v e : ℕ) (tl : Tally) (at t : ℕ) (b n : Cursor) → element_at s (cursor at e) ≡ Ok (element t b n)
      → t / 32 % 2 ≡ 0
      → walk_at (suc l) v s e tl at ≡ Reached (tallied v tl) b.end
  unfolding walk_at
  plain_is l v e tl at t b n f k = rw (f, eq-eqb (t / 32 % 2) 0 k)

  nested_is : (l v e : ℕ) (tl : Tally) (at t : ℕ) (b n : Cursor) → element_at s (cursor at e) ≡ Ok (element t b n)
      → t / 32 % 2 ≡ 1
      → walk_at (suc l) v s e tl at
      ≡ many go_on Reached (walk_at l (suc v) s b.end) (b.end - b.at) b.end (tallied v tl) b.at
  unfolding walk_at
  nested_is l v e tl at t b n f k = rw (f, ne_eqb (t / 32 % 2) 0 (λ z. omega arith))

  mutual
    unfolding encode depth Formed grow

    tree_grows : (x : Tree) (l v : ℕ) (tl : Tally) (at e end : ℕ) → Formed x → depth x ≤ l
        → Span s at e (encode x) → e ≤ end → end ≤ length s
        → walk_at l v s end tl at ≡ Reached (grow v x tl) e
    tree_grows (primitive t body) zero v tl at e end f d p h i = absurd (omega arith)
    tree_grows (constructed t xs) zero v tl at e end f d p h i = absurd (omega arith)
    tree_grows (primitive t body) (suc l) v tl at e end f d p h i =
        header_then s at e end t body f.0 f.2 p h i
        (λ b g q. plain_is l v end tl at t (cursor b e) (cursor e end) g f.1)
    tree_grows (constructed t xs) (suc l) v tl at e end f d p h i =
        header_then s at e end t (encodes xs) f.0 f.2 p h i
        (λ b g q.
        nested_is l v end tl at t (cursor b e) (cursor e end) g f.1
        ∙ trees_grow xs l (suc v) (tallied v tl) b e (e - b) f.3 (omega arith) q (omega arith))

    trees_grow : (xs : Trees) (l v : ℕ) (tl : Tally) (at end fuel : ℕ) → AllFormed xs → deepest xs ≤ l
        → Span s at end (encodes xs) → end ≤ at + fuel
        → many go_on Reached (walk_at l v s end) fuel end tl at ≡ Reached (grows v xs tl) end
    trees_grow none l v tl at end fuel f d p h =
        let z : at ≡ end = omega (arith, p.size) in
        rw z (many_end go_on Reached (walk_at l v s end) end fuel tl end (omega arith))
    trees_grow (more x xs) l v tl at end fuel f d p h =
        span_split s at end (encode x) (encodes xs) p
        (λ b q r.
        let check = walk_at l v s end in
        let g =
        going_on go_on Reached check end (many go_on Reached check fuel end tl at) tl at
        (record { fuel = fuel; enough = h; rest = refl })
        (omega (arith, q.size, r.size, tree_long x, tree_some x)) in
        g.rest
        ∙ rw (tree_grows x l v tl at b end f.0 (omega arith) q (omega (arith, r.size)) r.inside)
        (trees_grow xs l v (grow v x tl) b end g.fuel f.1 (omega arith) r
        (omega (arith, q.size, tree_long x, tree_some x, g.enough))))

-- What one tree of 20 levels at most is written as passes.
pub tree_passes : (x : Tree) → Formed x → depth x ≤ upload_levels → length (encode x) ≤ file_bytes
    → whole (encode x) ≡ Passed (record { elements = trees.elements x; level = depth x })
unfolding whole
tree_passes x f d h =
    let s = encode x in
    let g : walk_at upload_levels 1 s (length s) no_element 0 ≡ Reached (grow 1 x no_element) (length s) =
    tree_grows s x upload_levels 1 no_element 0 (length s) (length s) f d (span_whole s) (omega arith) (omega arith) in
    rw (le-ltb file_bytes (length s) h, g, grown x, le-ltb (length s) (length s) (omega arith))

-- a refusal isn't an answer that passes
not_passed : {A : Type 0} (f : Fault) (tl : Tally) → Refused f ≡ Passed tl → A
not_passed f tl e = let z : ◌≡◌ {A = ℕ} 0 1 = cc in absurd (omega arith)

not_checked : {A : Type 0} (f : Fault) (m : ℕ) (n : Cursor) → Err f ≡ Ok (checked m n) → A
not_checked f m n e = let z : ◌≡◌ {A = ℕ} 0 1 = cc in absurd (omega arith)

-- what passes isn't too long
short_enough : (s : List ℕ) (tl : Tally) → whole s ≡ Passed tl → length s ≤ file_bytes
unfolding whole
short_enough s tl e =
    either file_bytes (length s)
    (λ h. not_passed (fault too_long 0) tl (rw (lt-ltb file_bytes (length s) h) at e))
    (λ h. h)

-- the opaque check that passed, and its cursor at its end
finished : {P : Type 0} (s : List ℕ) (m : ℕ) (e : Cursor) → opaque_then_finish s ≡ Ok (checked m e)
    → ((n : Cursor) → opaque_at upload_levels s (whole_of s) ≡ Ok (checked m n) → n.end ≤ n.at → P) → P
unfolding opaque_then_finish finish_at
finished {P} s m e q k = go (opaque_at upload_levels s (whole_of s)) refl q
  where
    go : (y : Result Checked Fault) → opaque_at upload_levels s (whole_of s) ≡ y
        → on_checked y Err (λ i n. on_checked (finish_at n) Err (λ z a. Ok (checked i a)))
        ≡ Ok (checked m e)
        → P
    go (Err f) i r = not_checked f m e r
    go (Ok x) i r =
        cases (ltb x.next.at x.next.end)
        (λ l. not_checked _ m e (rw l at r))
        (λ l.
        let w : Ok (checked x.count x.next) ≡ Ok (checked m e) = rw l at r in
        let z : x.count ≡ m = cc in
        k x.next (rw z at i) (ltb-false x.next.at x.next.end l))

-- a tree that fills the bytes
filled : (s : List ℕ) (tl : Tally) (n : Cursor) → whole s ≡ Passed tl → n.end ≤ n.at
    → OpaqueIs upload_levels s (whole_of s) tl.elements n → PassedTree s tl
filled s tl n e h o =
    let end : n.end ≡ length s = ap (λ x. x.end) o.moved.next in
    let stop : n.at ≡ length s = omega (arith, o.moved.within) in
    let same : encode o.tree ≡ s =
    span_same s 0 (length s) _ _ (span_to s 0 n.at (length s) _ stop o.whole) (span_whole s) in
    let small : length (encode o.tree) ≤ file_bytes = rw same (short_enough s tl e) in
    let passes : whole s ≡ Passed (tally (trees.elements o.tree) (depth o.tree)) =
    rw same at (tree_passes o.tree o.formed o.levels small) in
    let both : tally (trees.elements o.tree) (depth o.tree) ≡ tl = cc in
    record {
      tree = o.tree;
      formed = o.formed;
      bytes = same;
      elements = ap (λ x. x.elements) both;
      level = ap (λ x. x.level) both;
      levels = o.levels;
    }

-- What passes is what one tree of 20 levels at most is written as.
pub passes_tree : (s : List ℕ) → Bytes s → (tl : Tally) → whole s ≡ Passed tl → PassedTree s tl
unfolding forgotten
passes_tree s bytes tl e =
    finished s tl.elements (cursor (length s) (length s))
    (sym (whole_opaque s (short_enough s tl e)) ∙ rw e)
    (λ n p h. filled s tl n e h (opaque_sound upload_levels s (whole_of s) tl.elements n bytes p))
