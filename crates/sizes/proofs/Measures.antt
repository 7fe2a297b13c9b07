-- Measuring rows: what the code's loops and calls return is the size of what the definitions
-- take.
use mathlib.Core.Path.{◌≡◌, refl, sym, ap, ◌∙◌}
use mathlib.Core.Bool.{Bool, true, false, not}
use mathlib.Core.List.{List, [], ◌++◌}
use mathlib.Core.Option.{Option}
use Prim.Native.Nat.{ℕ, ◌+◌, ◌-◌, ◌≤◌, ◌<◌}
use native.Mathlib.Omega.{arith}
use lib.Dec.{eqb}
use lib.ListN.{length, get_or}
use Rattle.pkcs12.specs.Numbers.{bag_rows, attribute_rows}
use Rattle.der.specs.Numbers.{sequence_tag, set_tag}
use Rattle.pkcs12.specs.Syntax.{none}
use Rattle.pkcs12.specs.Encode.{attribute_bytes, set_bytes, bag_bytes, bags_bytes}
use Rattle.der.specs.Choice.{both}
use Rattle.pkcs12.specs.Values.{same_enclosing}
use Rattle.pkcs12.specs.Table.{no_attribute, no_bag}
use Rattle.pkcs12.specs.declared.kind.BagKind.{BagKind}
use Rattle.pkcs12.specs.declared.row.BagRow.{BagRow}
use Rattle.std.specs.Prelude.{None, Option as Maybe, Some}
use Rattle.pkcs12.specs.declared.table.Table.{Table}
use Rattle.sizes.specs.Bodies.{content_of, attribute_in, attribute_body}
use Rattle.sizes.specs.Picked.{attribute_end, bag_end, attribute_value, bag_value, form_of, SetPicked, set_picked}
use Rattle.sizes.specs.Picked.{Picked, OnePicked, bag_picked, bags_picked}
use Rattle.sizes.specs.Sizes.{bag_size, present_as, set_sized, sized_as, taken_sized, one_sized}
use Rattle.encode.specs.Sizes.{capped, element_size}
use Rattle.sizes.specs.declared.rows.Owned.{Owned}
use Rattle.sizes.specs.declared.rows.Taken.{Taken}
use Rattle.sizes.specs.declared.rows.Form.{Form}
use Rattle.encode.proofs.Capped.{Sized, sized_told, sum_is, element_is, sized_element, near_element}
use Rattle.sizes.proofs.Nears.{near_bag}
use Rattle.sizes.proofs.Lengths.{length_bag}
use Rattle.sizes.proofs.Picks.{bag_ahead}
use Rattle.sizes.proofs.Loops.{OwnSeen, OwnAll, own_start, own_ends, own_leaves, own_turn, BagsSeen}
use Rattle.sizes.proofs.Loops.{BagsAll, bags_start, bags_end_lem, bags_leave, bags_not, bags_turn}
use Rattle.sizes.proofs.Taken.{owned_sized, owned_next, taken_sized_lem, taken_bag, taken_attribute, found_one}
use Rattle.sizes.proofs.Taken.{none_one, BagTaken, bag_is_empty, bag_is_leaf, bag_is_too_deep, bag_is_nest}

-- a test that the code makes of a bool's opposite
pub off : (u : Bool) → not u ≡ true → u ≡ false
off true e = cc
off false e = refl

pub on : (u : Bool) → not u ≡ false → u ≡ true
on true e = refl
on false e = cc

-- ---- a set

pub present_is : (body size next : ℕ) → size ≡ capped (element_size body)
    → ◌≡◌ {A = Owned} (record { body = body; size = size; next = next }) (present_as body next)
present_is body size next e = rw e refl

-- the loop of `set`: the size of the attributes seen so far
pub record OwnGoing (t : Table) (s : List ℕ) (n from end body next : ℕ) : Type 0 where
  pub seen_bytes : List ℕ
  pub seen : OwnSeen t s n from next seen_bytes
  pub size : body ≡ capped (length seen_bytes)
  pub end_is : end ≡ attribute_end t
  pub within : end ≤ attribute_rows

module _ (t : Table) (s : List ℕ) (h : Bool) (n from : ℕ) where
  pub set_absent : h ≡ false → record { body = 0; size = 0; next = from } ≡ set_sized (set_picked t s h n from)
  unfolding set_sized set_picked set_bytes capped
  set_absent e = rw e refl

  pub set_starts : (end : ℕ) → end ≡ attribute_end t → OwnGoing t s n from end 0 from
  unfolding capped
  set_starts end e =
      record { seen_bytes = []; seen = own_start t s n from; size = refl; end_is = e; within = omega (arith, e) }

  module _ (end body next : ℕ) (g : OwnGoing t s n from end body next) where
    all_seen : (r : Owned) → h ≡ true → OwnAll t s n from next g.seen_bytes → r ≡ present_as body next
        → r ≡ set_sized (set_picked t s h n from)
    unfolding set_sized set_picked set_bytes
    all_seen r e a p =
        let size : capped (element_size body) ≡ capped (length (set_bytes (set_picked t s true n from).set)) =
        rw a.0 (element_is (capped (element_size body)) body set_tag g.seen_bytes refl
        (sized_told body g.seen_bytes g.size)) in
        p ∙ rw (e, a.0, a.1, ← g.size) (λ i. record { body = body; size = (rw a.0 at size) i; next = next })

    pub set_ends : (r : Owned) → h ≡ true → end ≤ next → r ≡ present_as body next → r ≡ set_sized (set_picked t s h n from)
    set_ends r e k p = all_seen r e (own_ends t s n from next g.seen_bytes g.seen (rw g.end_is at k)) p

    module _ (k : next < end) where
      pub set_leaves : (r : Owned) → h ≡ true → ((attribute_value t s next).bag ≡ n → ⊥) → r ≡ present_as body next
          → r ≡ set_sized (set_picked t s h n from)
      set_leaves r e o p = all_seen r e (own_leaves t s n from next g.seen_bytes g.seen (rw g.end_is at k) o) p

      pub set_turn : (inner one sum : ℕ) → (attribute_value t s next).bag ≡ n
          → inner ≡ capped (length (attribute_body (attribute_in s (get_or t.attributes next no_attribute))))
          → one ≡ capped (element_size inner) → sum ≡ capped (body + one) → OwnGoing t s n from end sum (next + 1)
      unfolding attribute_bytes attribute_body
      set_turn inner one sum o p q r =
          let a = attribute_in s (get_or t.attributes next no_attribute) in
          record {
            seen_bytes = g.seen_bytes ++ attribute_bytes a;
            seen = own_turn t s n from next g.seen_bytes g.seen (rw g.end_is at k) o;
            size = sum_is sum body one g.seen_bytes (attribute_bytes a) r (sized_told body g.seen_bytes g.size)
                (sized_element one inner sequence_tag (attribute_body a) q (sized_told inner (attribute_body a) p));
            end_is = g.end_is;
            within = g.within;
          }

-- ---- one bag

-- by the sizes of its content and of its set
one_of_lem : (o : Option OnePicked) (k : BagKind) (c : List ℕ) (set : SetPicked) (next : ℕ) → BagTaken o k c set next
    → (content bag : ℕ) (owned : Owned) (r : Taken) → Sized content c → owned ≡ set_sized set → bag ≡ next
    → r ≡ sized_as (element_size (bag_size content owned.size)) bag owned.next → Some r ≡ one_sized o
unfolding one_sized
one_of_lem o k c set next b content bag owned r p w q e =
    let size : capped (element_size (bag_size content owned.size)) ≡ capped (length (bag_bytes k c set.set)) =
    (near_element _ _
    (near_bag content owned.size (length c) (length (set_bytes set.set)) p (owned_sized set owned w))).alike
    ∙ ap capped (sym (length_bag k c set.set b.kind)) in
    ap Some e ∙ rw (b.found, b.bytes, b.bag, b.attribute, size, q, owned_next set owned w) refl

module _ (t : Table) (s : List ℕ) (l k n from : ℕ) (row : BagRow) (e : row ≡ get_or t.bags n no_bag) (f : Maybe Form)
    (o : f ≡ form_of row.kind) where
  pub one_none : f ≡ None → None ≡ one_sized (bag_picked t s l k n from)
  unfolding one_sized
  one_none h = rw (bag_is_empty t s l k n from row e (sym o ∙ h)) refl

  pub one_leaf : (content : ℕ) (owned : Owned) (r : Taken) → f ≡ Some Form.Leaf
      → content ≡ capped (length (content_of s row.kind row.parts))
      → owned ≡ set_sized (set_picked t s row.has_set n from)
      → r ≡ sized_as (element_size (bag_size content owned.size)) (n + 1) owned.next
      → Some r ≡ one_sized (bag_picked t s l k n from)
  one_leaf content owned r h c w p =
      one_of_lem _ _ _ _ _ (bag_is_leaf t s l k n from row e (sym o ∙ h)) content (n + 1) owned r
      (sized_told content (content_of s row.kind row.parts) c) w refl p

  module _ (h : f ≡ Some Form.Nested) where
    pub one_too_deep : l ≡ 0 → None ≡ one_sized (bag_picked t s l k n from)
    unfolding one_sized
    one_too_deep z = rw (bag_is_too_deep t s l k n from row e (sym o ∙ h) z) refl

    pub one_nest : (below : ℕ) → l ≡ below + 1 → (inner : Taken) (content : ℕ) (owned : Owned) (r : Taken)
        → inner ≡ taken_sized (bags_picked t s below k (Some n) (n + 1) from) → content ≡ capped (element_size inner.size)
        → owned ≡ set_sized (set_picked t s row.has_set n inner.attribute)
        → r ≡ sized_as (element_size (bag_size content owned.size)) inner.bag owned.next
        → Some r ≡ one_sized (bag_picked t s l k n from)
    one_nest below z inner content owned r i c w p =
        let all : Picked = bags_picked t s below k (Some n) (n + 1) from in
        one_of_lem _ _ _ _ _ (bag_is_nest t s l k n from row e (sym o ∙ h) below z) content inner.bag owned r
        (sized_element content inner.size sequence_tag (bags_bytes all.bags) c (taken_sized_lem all inner i))
        (rw (taken_attribute all inner i) at w) (taken_bag all inner i) p

-- ---- bags side by side

-- the loop of `bags`
pub record BagsGoing (t : Table) (s : List ℕ) (l k : ℕ) (e : Maybe ℕ) (first from end : ℕ)
    (taken : Taken) : Type 0 where
  pub seen_bytes : List ℕ
  pub seen : BagsSeen t s l k e first from taken.bag taken.attribute seen_bytes
  pub size : taken.size ≡ capped (length seen_bytes)
  pub end_is : end ≡ bag_end t
  pub within : end ≤ bag_rows

module _ (t : Table) (s : List ℕ) (l k : ℕ) (e : Maybe ℕ) (first from : ℕ) where
  pub bags_starts : (end : ℕ) → end ≡ bag_end t
      → BagsGoing t s l k e first from end (record { size = 0; bag = first; attribute = from })
  unfolding capped
  bags_starts end h = record {
    seen_bytes = [];
    seen = bags_start t s l k e first from;
    size = refl;
    end_is = h;
    within = omega (arith, h);
  }

  module _ (end : ℕ) (taken : Taken) (g : BagsGoing t s l k e first from end taken) where
    all_taken : BagsAll t s l k e first from taken.bag taken.attribute g.seen_bytes
        → taken ≡ taken_sized (bags_picked t s l k e first from)
    unfolding taken_sized
    all_taken a = rw (a.bytes, a.bag, a.attribute)
        (λ i. record { size = g.size i; bag = taken.bag; attribute = taken.attribute })

    pub bags_ends : end ≤ taken.bag → taken ≡ taken_sized (bags_picked t s l k e first from)
    bags_ends h = all_taken
        (bags_end_lem t s l k e first from taken.bag taken.attribute g.seen_bytes g.seen (rw g.end_is at h))

    module _ (h : taken.bag < end) (u : Bool) (b : u ≡ both (eqb (bag_value t s taken.bag).safe k)
        (same_enclosing (bag_value t s taken.bag).enclosing e)) where
      pub bags_leaves : u ≡ false → taken ≡ taken_sized (bags_picked t s l k e first from)
      bags_leaves z = all_taken (bags_leave t s l k e first from taken.bag taken.attribute g.seen_bytes
          g.seen (rw g.end_is at h) (sym b ∙ z))

      module _ (z : u ≡ true) (r : Maybe Taken) (o : r ≡ one_sized (bag_picked t s l k taken.bag taken.attribute)) where
        pub bags_nots : r ≡ None → taken ≡ taken_sized (bags_picked t s l k e first from)
        bags_nots q =
            all_taken (bags_not t s l k e first from taken.bag taken.attribute g.seen_bytes g.seen
            (rw g.end_is at h) (sym b ∙ z) (none_one _ (sym q ∙ o)))

        pub bags_goes : (one joined : Taken) → r ≡ Some one
            → joined ≡ sized_as (taken.size + one.size) one.bag one.attribute
            → BagsGoing t s l k e first from end joined
        bags_goes one joined q j =
            let a = found_one one _ (sym q ∙ o) in
            let bytes : List ℕ = bags_bytes (a.0.front none) in
            rw (j, a.2) record {
              seen_bytes = g.seen_bytes ++ bytes;
              seen = bags_turn t s l k e first from taken.bag taken.attribute g.seen_bytes g.seen
                  (rw g.end_is at h) (sym b ∙ z) a.0 a.1;
              size = sum_is _ taken.size (capped (length bytes)) g.seen_bytes bytes refl
                  (sized_told taken.size g.seen_bytes g.size) (sized_told (capped (length bytes)) bytes refl);
              end_is = g.end_is;
              within = g.within;
            }

        -- and the rows to come are fewer
        pub bags_less : (one joined : Taken) → r ≡ Some one
            → joined ≡ sized_as (taken.size + one.size) one.bag one.attribute
            → end - joined.bag < end - taken.bag
        bags_less one joined q j =
            let a = found_one one _ (sym q ∙ o) in
            omega (
              arith,
              h,
              bag_ahead t s l k taken.bag taken.attribute a.0 a.1,
              ap (λ (x : Taken). x.bag) j,
              ap (λ (x : Taken). x.bag) a.2,
            )
