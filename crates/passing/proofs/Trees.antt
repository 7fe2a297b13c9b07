-- Bytes that are written from trees of a bounded depth: an element whose body isn't examined, an
-- element around others, elements one behind another. Lengths are of any size here: that they have
-- a form that is taken is known of bytes that are shorter than the bound of lengths.
use mathlib.Core.Bool.{false}
use mathlib.Core.Path.{◌≡◌, refl, ap, ◌∙◌}
use mathlib.Core.List.{List, [], ◌++◌, append-nil}
use Prim.Native.Nat.{ℕ, suc, ◌/◌, ◌%◌, ◌≤◌, ◌<◌}
use native.Mathlib.Omega.{arith}
use lib.Dec.{eqb}
use lib.ListN.{length, length-append}
use Rattle.der.specs.Numbers.{length_bound}
use Rattle.der.specs.Octets.{tlv}
use Rattle.der.specs.Tree.{Tree, primitive, constructed, Trees, none, more, encode, encodes}
use Rattle.der.specs.Tree.{depth, deepest, Formed, AllFormed}
use Rattle.der.proofs.Octets.{tlv_long}
use Rattle.der.proofs.Header.{tag_form_lem}

-- x is what one tree of at most l levels is written as
pub record TreeOf (l : ℕ) (x : List ℕ) : Type 0 where
  pub tree : Tree
  pub formed : length x < length_bound → Formed tree
  pub levels : depth tree ≤ l
  pub bytes : encode tree ≡ x

-- x is what trees of at most l levels are written as, one behind another
pub record RunOf (l : ℕ) (x : List ℕ) : Type 0 where
  pub trees : Trees
  pub formed : length x < length_bound → AllFormed trees
  pub levels : deepest trees ≤ l
  pub bytes : encodes trees ≡ x

-- a run of no tree, and of one
pub no_tree : (l : ℕ) → RunOf l []
unfolding encode depth Formed
no_tree l = record { trees = none; formed = λ h. tt; levels = omega arith; bytes = refl }

pub one_tree : {l : ℕ} {x : List ℕ} → TreeOf l x → RunOf l x
unfolding encode depth Formed
one_tree {l} {x} a = record {
  trees = more a.tree none;
  formed = λ h. (a.formed h, tt);
  levels = omega (arith, a.levels);
  bytes = append-nil (encode a.tree) ∙ a.bytes;
}

-- a tree in front of a run
pub before : {l : ℕ} {x y : List ℕ} → TreeOf l x → RunOf l y → RunOf l (x ++ y)
unfolding encode depth Formed
before {l} {x} {y} a b = record {
  trees = more a.tree b.trees;
  formed = λ h.
      (a.formed (omega (arith, length-append x y)), b.formed (omega (arith, length-append x y)));
  levels = omega (arith, a.levels, b.levels);
  bytes = rw (a.bytes, b.bytes) refl;
}

-- an element whose body isn't examined; the tests of its tag compute
pub plain : (l t : ℕ) (x : List ℕ) → eqb t 0 ≡ false → eqb (t % 32) 31 ≡ false → t / 32 % 2 ≡ 0
    → TreeOf (suc l) (tlv t x)
unfolding encode depth Formed
plain l t x p q r = record {
  tree = primitive t x;
  formed = λ h. (tag_form_lem t p q, r, omega (arith, tlv_long t x));
  levels = omega arith;
  bytes = refl;
}

-- an element around a run has one level more
pub around : {l : ℕ} (t : ℕ) {x : List ℕ} → eqb t 0 ≡ false → eqb (t % 32) 31 ≡ false → t / 32 % 2 ≡ 1
    → RunOf l x → TreeOf (suc l) (tlv t x)
unfolding encode depth Formed
around {l} t {x} p q r a = record {
  tree = constructed t a.trees;
  formed = λ h.
      let n : length (encodes a.trees) ≡ length x = ap length a.bytes in
      (tag_form_lem t p q, r, omega (arith, tlv_long t x), a.formed (omega (arith, tlv_long t x)));
  levels = omega (arith, a.levels);
  bytes = ap (tlv t) a.bytes;
}
