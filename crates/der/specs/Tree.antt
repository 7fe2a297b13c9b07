-- An opaque element as a tree, and what it is written as (Rule 2.6).
use Rattle.std.specs.Prelude.{◌≡◌, List, [], ◌++◌, ℕ, suc, ◌+◌, ◌/◌, ◌%◌, ◌<◌, max, length}
use Rattle.der.specs.Numbers.{length_bound}
use Rattle.der.specs.Octets.{tlv, TagForm}

mutual
  -- Rule 2.6: with bit 20 (hex) in the tag the body is complete elements, else it isn't examined
  pub data Tree : Type 0 where
    primitive : ℕ → List ℕ → Tree
    constructed : ℕ → Trees → Tree

  pub data Trees : Type 0 where
    none : Trees
    more : Tree → Trees → Trees

unfoldable mutual
  pub encode : Tree → List ℕ
  encode (primitive t body) = tlv t body
  encode (constructed t xs) = tlv t (encodes xs)

  pub encodes : Trees → List ℕ
  encodes none = []
  encodes (more x xs) = encode x ++ encodes xs

-- Rule 4.5: the number of elements
unfoldable mutual
  pub elements : Tree → ℕ
  elements (primitive t body) = 1
  elements (constructed t xs) = elements_in xs + 1

  pub elements_in : Trees → ℕ
  elements_in none = 0
  elements_in (more x xs) = elements x + elements_in xs

-- Rule 2.7: the opaque element itself is level 1
unfoldable mutual
  pub depth : Tree → ℕ
  depth (primitive t body) = 1
  depth (constructed t xs) = deepest xs + 1

  pub deepest : Trees → ℕ
  deepest none = 0
  deepest (more x xs) = max (depth x) (deepest xs)

-- each tag is of a form that is taken and says which kind of element it is; each length is of a
-- form that is taken
unfoldable mutual
  pub Formed : Tree → Type 0
  Formed (primitive t body) = TagForm t × (t / 0x20 % 2 ≡ 0) × (length body < length_bound)
  Formed (constructed t xs) = TagForm t × (t / 0x20 % 2 ≡ 1) × (length (encodes xs) < length_bound) × AllFormed xs

  pub AllFormed : Trees → Type 0
  AllFormed none = Unit {0}
  AllFormed (more x xs) = Formed x × AllFormed xs

-- the number of trees side by side
unfoldable pub siblings : Trees → ℕ
siblings none = 0
siblings (more x xs) = suc (siblings xs)
