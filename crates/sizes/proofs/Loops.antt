-- The loops over rows: bytes that were seen so far and bytes to come are together those of all
-- rows; the same for measuring and for writing.
use mathlib.Core.Path.{◌≡◌, refl, ap, ◌∙◌}
use mathlib.Core.Bool.{true, false}
use mathlib.Core.List.{List, [], ◌++◌, append_assoc, append-nil}
use mathlib.Core.Option.{some}
use mathlib.Core.Option as option
use Prim.Native.Nat.{ℕ, ◌+◌, ◌≤◌, ◌<◌}
use lib.Dec.{eqb}
use lib.ListN.{get_or}
use Rattle.pkcs12.specs.Syntax.{none}
use Rattle.pkcs12.specs.Encode.{attribute_bytes, attributes_bytes, bags_bytes, safe_bytes, safes_bytes}
use Rattle.der.specs.Choice.{both}
use Rattle.pkcs12.specs.Values.{same_enclosing}
use Rattle.pkcs12.specs.Table.{no_attribute}
use Rattle.std.specs.Prelude.{Option}
use Rattle.pkcs12.specs.declared.table.Table.{Table}
use Rattle.sizes.specs.Bodies.{attribute_in}
use Rattle.sizes.specs.Picked.{attribute_end, bag_end, safe_end, attribute_value, bag_value, own_picked, nothing}
use Rattle.sizes.specs.Picked.{OnePicked, bag_picked, bags_picked, SafePicked, no_safes, safe_picked, safes_picked}
use Rattle.sizes.proofs.Picks.{own_past, own_other, own_more, bags_past, bags_other, bags_none}
use Rattle.sizes.proofs.Picks.{bags_more, front_bytes, safes_past, safes_none, safes_more}

-- x was seen of the whole, and the rest is to come; the whole ends where the rest does
pub record Seen {A : Type 0} (whole rest : List ℕ) (last here : A) (x : List ℕ) : Type 0 where
  pub bytes : whole ≡ x ++ rest
  pub ends : last ≡ here

module _ {A : Type 0} (whole : List ℕ) (last : A) where
  seen_more : (rest y more : List ℕ) (here next : A) (x : List ℕ) → Seen whole rest last here x
      → rest ≡ y ++ more → here ≡ next
      → Seen whole more last next (x ++ y)
  seen_more rest y more here next x g p q =
      record { bytes = g.bytes ∙ rw (p, append_assoc x y more) refl; ends = g.ends ∙ q }

  seen_all : (rest : List ℕ) (here next : A) (x : List ℕ) → Seen whole rest last here x → rest ≡ [] → here ≡ next
      → (whole ≡ x) × (last ≡ next)
  seen_all rest here next x g p q = (g.bytes ∙ rw (p, append-nil x) refl, g.ends ∙ q)

-- ---- the attributes of bag n, from row `from` on

module _ (t : Table) (s : List ℕ) (n from : ℕ) where
  abbrev pub OwnSeen : ℕ → List ℕ → Type 0
  OwnSeen next x =
      Seen (attributes_bytes (own_picked t s n from).attributes) (attributes_bytes (own_picked t s n next).attributes)
      (own_picked t s n from).next (own_picked t s n next).next x

  abbrev pub OwnAll : ℕ → List ℕ → Type 0
  OwnAll next x = (attributes_bytes (own_picked t s n from).attributes ≡ x) × ((own_picked t s n from).next ≡ next)

  pub own_start : OwnSeen from []
  own_start = record { bytes = refl; ends = refl }

  module _ (next : ℕ) (x : List ℕ) (g : OwnSeen next x) where
    stops : own_picked t s n next ≡ record { attributes = []; next = next } → OwnAll next x
    unfolding attributes_bytes
    stops e = seen_all _ _ _ _ _ x g (rw e refl) (rw e refl)

    pub own_ends : attribute_end t ≤ next → OwnAll next x
    own_ends h = stops (own_past t s n next h)

    pub own_leaves : next < attribute_end t → ((attribute_value t s next).bag ≡ n → ⊥) → OwnAll next x
    own_leaves h k = stops (own_other t s n next h k)

    pub own_turn : next < attribute_end t → (attribute_value t s next).bag ≡ n
        → OwnSeen (next + 1) (x ++ attribute_bytes (attribute_in s (get_or t.attributes next no_attribute)))
    unfolding attributes_bytes attribute_in
    own_turn h k = let e = own_more t s n next h k in seen_more _ _ _ _ _ _ _ x g (rw e refl) (rw e refl)

-- ---- the bags in safe k and enclosing bag e, from rows `first` and `from` on

module _ (t : Table) (s : List ℕ) (l k : ℕ) (e : Option ℕ) (first from : ℕ) where
  abbrev pub BagsSeen : ℕ → ℕ → List ℕ → Type 0
  BagsSeen n m x =
      Seen {A = ℕ × ℕ} (bags_bytes (bags_picked t s l k e first from).bags) (bags_bytes (bags_picked t s l k e n m).bags)
      ((bags_picked t s l k e first from).bag, (bags_picked t s l k e first from).attribute)
      ((bags_picked t s l k e n m).bag, (bags_picked t s l k e n m).attribute) x

  pub record BagsAll (n m : ℕ) (x : List ℕ) : Type 0 where
    pub bytes : bags_bytes (bags_picked t s l k e first from).bags ≡ x
    pub bag : (bags_picked t s l k e first from).bag ≡ n
    pub attribute : (bags_picked t s l k e first from).attribute ≡ m

  pub bags_start : BagsSeen first from []
  bags_start = record { bytes = refl; ends = refl }

  module _ (n m : ℕ) (x : List ℕ) (g : BagsSeen n m x) where
    stays : bags_picked t s l k e n m ≡ nothing n m → BagsAll n m x
    unfolding bags_bytes
    stays h =
        let a = seen_all _ _ _ _ (n, m) x g (rw h refl) (rw h refl) in
        record { bytes = a.0; bag = ap (λ (p : ℕ × ℕ). p.0) a.1; attribute = ap (λ (p : ℕ × ℕ). p.1) a.1 }

    pub bags_end_lem : bag_end t ≤ n → BagsAll n m x
    bags_end_lem h = stays (bags_past t s l k e n m h)

    pub bags_leave : n < bag_end t
        → both (eqb (bag_value t s n).safe k) (same_enclosing (bag_value t s n).enclosing e) ≡ false → BagsAll n m x
    bags_leave h b = stays (bags_other t s l k e n m h b)

    module _ (h : n < bag_end t)
        (b : both (eqb (bag_value t s n).safe k) (same_enclosing (bag_value t s n).enclosing e) ≡ true) where
      pub bags_not : bag_picked t s l k n m ≡ option.none → BagsAll n m x
      bags_not o = stays (bags_none t s l k e n m h b o)

      pub bags_turn : (p : OnePicked) → bag_picked t s l k n m ≡ some p
          → BagsSeen p.bag p.attribute (x ++ bags_bytes (p.front none))
      bags_turn p o =
          let q = bags_more t s l k e n m h b p o in
          seen_more _ _ _ _ _ _ _ x g (rw q (front_bytes t s l k n m p o _)) (rw q refl)

-- ---- the safes, from the first rows on

module _ (t : Table) (s : List ℕ) where
  abbrev pub SafesSeen : ℕ → ℕ → ℕ → List ℕ → Type 0
  SafesSeen k n m x =
      Seen {A = ℕ × ℕ × ℕ} (safes_bytes (safes_picked t s 0 0 0).safes) (safes_bytes (safes_picked t s k n m).safes)
      ((safes_picked t s 0 0 0).safe, (safes_picked t s 0 0 0).bag, (safes_picked t s 0 0 0).attribute)
      ((safes_picked t s k n m).safe, (safes_picked t s k n m).bag, (safes_picked t s k n m).attribute) x

  pub record SafesAll (k n m : ℕ) (x : List ℕ) : Type 0 where
    pub bytes : safes_bytes (safes_picked t s 0 0 0).safes ≡ x
    pub safe : (safes_picked t s 0 0 0).safe ≡ k
    pub bag : (safes_picked t s 0 0 0).bag ≡ n
    pub attribute : (safes_picked t s 0 0 0).attribute ≡ m

  pub safes_start : SafesSeen 0 0 0 []
  safes_start = record { bytes = refl; ends = refl }

  module _ (k n m : ℕ) (x : List ℕ) (g : SafesSeen k n m x) where
    stand : safes_picked t s k n m ≡ no_safes k n m → SafesAll k n m x
    unfolding safes_bytes
    stand h =
        let a = seen_all _ _ _ _ (k, n, m) x g (rw h refl) (rw h refl) in
        record {
          bytes = a.0;
          safe = ap (λ (p : ℕ × ℕ × ℕ). p.0) a.1;
          bag = ap (λ (p : ℕ × ℕ × ℕ). p.1) a.1;
          attribute = ap (λ (p : ℕ × ℕ × ℕ). p.2) a.1;
        }

    pub safes_end_lem : safe_end t ≤ k → SafesAll k n m x
    safes_end_lem h = stand (safes_past t s k n m h)

    pub safes_not : k < safe_end t → safe_picked t s k n m ≡ option.none → SafesAll k n m x
    safes_not h o = stand (safes_none t s k n m h o)

    pub safes_turn : (p : SafePicked) → k < safe_end t → safe_picked t s k n m ≡ some p
        → SafesSeen (k + 1) p.bag p.attribute (x ++ safe_bytes p.safe)
    unfolding safes_bytes
    safes_turn p h o = let q = safes_more t s k n m h p o in seen_more _ _ _ _ _ _ _ x g (rw q refl) (rw q refl)
