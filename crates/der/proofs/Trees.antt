-- The laws of opaque elements as trees: how long they are, and that their bytes encode one tree
-- only.
use mathlib.Core.Path.{◌≡◌, refl, sym, ap}
use mathlib.Core.List.{List, [], ◌++◌, append_assoc, append-nil}
use Prim.Native.Nat.{ℕ, ◌*◌, ◌≤◌}
use native.Mathlib.Omega.{arith}
use lib.ListN.{length, length-append}
use Rattle.der.specs.Tree.{Tree, primitive, constructed, Trees, none, more, encode, encodes, elements}
use Rattle.der.specs.Tree.{elements_in, depth, deepest, Formed, AllFormed, siblings}
use Rattle.der.specs.Octets.{tlv, TagForm}
use Rattle.der.proofs.Octets.{tlv_unique, tlv_long}

-- two bytes at least for each element
mutual
  unfolding elements encode

  pub tree_long : (x : Tree) → 2 * elements x ≤ length (encode x)
  tree_long (primitive t body) = omega (arith, tlv_long t body)
  tree_long (constructed t xs) = omega (arith, tlv_long t (encodes xs), trees_long xs)

  pub trees_long : (xs : Trees) → 2 * elements_in xs ≤ length (encodes xs)
  trees_long none = omega arith
  trees_long (more x xs) = omega (arith, length-append (encode x) (encodes xs), tree_long x, trees_long xs)

-- at least one element in a tree
pub tree_some : (x : Tree) → 1 ≤ elements x
unfolding elements
tree_some (primitive t body) = omega arith
tree_some (constructed t xs) = omega arith

-- a tree is one element; the continuation k takes its tag and its body
pub tree_element : {P : Type 0} (x : Tree) → Formed x
    → ((t : ℕ) (body : List ℕ) → TagForm t → encode x ≡ tlv t body → P) → P
unfolding encode Formed
tree_element (primitive t body) f k = k t body f.0 refl
tree_element (constructed t xs) f k = k t (encodes xs) f.0 refl

-- a run of one tree, and of none
pub run_one : (x : Tree) → Formed x → AllFormed (more x none) × (encodes (more x none) ≡ encode x)
    × (elements_in (more x none) ≡ elements x) × (deepest (more x none) ≡ depth x)
unfolding encode elements depth Formed
run_one x f = ((f, tt), append-nil (encode x), omega arith, omega arith)

pub run_none : AllFormed none × (encodes none ≡ []) × (elements_in none ≡ 0) × (deepest none ≡ 0)
unfolding encode elements depth Formed
run_none = (tt, refl, refl, refl)

-- a run that begins with an element is not empty
not_empty : (x : Tree) (r : List ℕ) → encode x ++ r ≡ [] → ⊥
not_empty x r e = omega (arith, ap length e, length-append (encode x) r, tree_long x, tree_some x)

-- an element's bytes, whatever follows them, encode one tree only, and a run's bytes one run only
mutual
  unfolding encode Formed

  pub tree_unique : (x y : Tree) (r s : List ℕ) → Formed x → Formed y
      → encode x ++ r ≡ encode y ++ s → (x ≡ y) × (r ≡ s)
  tree_unique (primitive t a) (primitive u b) r s f g e = let q = tlv_unique t u a b r s e in (cc, q.2)
  tree_unique (primitive t a) (constructed u ys) r s f g e = let q = tlv_unique t u a (encodes ys) r s e in
      absurd (omega (arith, q.0, f.1, g.1))
  tree_unique (constructed t xs) (primitive u b) r s f g e = let q = tlv_unique t u (encodes xs) b r s e in
      absurd (omega (arith, q.0, f.1, g.1))
  tree_unique (constructed t xs) (constructed u ys) r s f g e =
      let q = tlv_unique t u (encodes xs) (encodes ys) r s e in
      let p = trees_unique xs ys f.3 g.3 q.1 in
      (cc, q.2)

  pub trees_unique : (xs ys : Trees) → AllFormed xs → AllFormed ys → encodes xs ≡ encodes ys → xs ≡ ys
  trees_unique none none f g e = refl
  trees_unique none (more y ys) f g e = absurd (not_empty y (encodes ys) (sym e))
  trees_unique (more x xs) none f g e = absurd (not_empty x (encodes xs) e)
  trees_unique (more x xs) (more y ys) f g e =
      let q = tree_unique x y (encodes xs) (encodes ys) f.0 g.0 e in
      let p = trees_unique xs ys f.1 g.1 q.1 in
      cc

-- runs of equally many trees, whatever follows them
pub run_unique : (xs ys : Trees) (r s : List ℕ) → siblings xs ≡ siblings ys → AllFormed xs → AllFormed ys
    → encodes xs ++ r ≡ encodes ys ++ s → (xs ≡ ys) × (r ≡ s)
unfolding encode Formed siblings
run_unique none none r s n f g e = (refl, e)
run_unique none (more y ys) r s n f g e = absurd (omega arith)
run_unique (more x xs) none r s n f g e = absurd (omega arith)
run_unique (more x xs) (more y ys) r s n f g e =
    let q = tree_unique x y (encodes xs ++ r) (encodes ys ++ s) f.0 g.0 (simp append_assoc at e) in
    let p = run_unique xs ys r s (omega arith) f.1 g.1 q.1 in
    (cc, p.1)
