-- What a row comes to, by its kind: the bag or the safe that is taken, and its bytes; the same for
-- measuring and for writing.
use mathlib.Core.Path.{◌≡◌, refl, sym, ap, ◌∙◌}
use mathlib.Core.List.{List, append-nil}
use mathlib.Core.Option.{Option, some}
use mathlib.Core.Option as option
use Prim.Native.Nat.{ℕ, ◌+◌}
use native.Mathlib.Omega.{arith}
use lib.ListN.{length, get_or}
use Rattle.pkcs12.specs.Syntax.{Leaf, none, plain, encrypted, kind_of_leaf}
use Rattle.pkcs12.specs.Encode.{set_bytes, leaf_bytes, bag_bytes, bags_bytes, safe_bytes}
use Rattle.der.specs.Octets.{sequence}
use Rattle.pkcs12.specs.Values.{SafeValue, empty_bag, leaf, nested}
use Rattle.pkcs12.specs.Table.{no_safe, no_bag, sealed_in, content_in, safe_shown}
use Rattle.pkcs12.specs.declared.row.Parts.{Parts}
use Rattle.pkcs12.specs.declared.kind.BagKind.{BagKind}
use Rattle.pkcs12.specs.declared.kind.BagKind.TheVariants.{Key, ShroudedKey, Certificate, Crl, Secret, Nested}
use Rattle.pkcs12.specs.declared.row.BagRow.{BagRow}
use Rattle.pkcs12.specs.declared.kind.SafeKind.{SafeKind}
use Rattle.pkcs12.specs.declared.kind.SafeKind.TheVariants.{Plain, Encrypted}
use Rattle.pkcs12.specs.declared.row.SafeRow.{SafeRow}
use Rattle.std.specs.Prelude.{None, Some}
use Rattle.pkcs12.specs.declared.table.Table.{Table}
use Rattle.sizes.specs.Bodies.{content_of}
use Rattle.sizes.specs.Picked.{bag_value, form_of, SetPicked, set_picked, Picked, bags_picked, OnePicked, bag_picked}
use Rattle.sizes.specs.Picked.{SafePicked, safe_of, safe_picked}
use Rattle.sizes.specs.Sizes.{set_body, sized_as, set_sized, taken_sized, one_sized, safe_sized}
use Rattle.encode.specs.Sizes.{capped}
use Rattle.sizes.specs.declared.rows.Owned.{Owned}
use Rattle.sizes.specs.declared.rows.Taken.{Taken}
use Rattle.sizes.specs.declared.rows.Form.{Form}
use Rattle.encode.proofs.Capped.{Sized, sized_told}
use Rattle.sizes.proofs.Picks.{bag_empty, bag_leaf, bag_too_deep, bag_nest}

-- ---- what was measured

-- a set
module _ (p : SetPicked) (owned : Owned) (e : owned ≡ set_sized p) where
  pub owned_body : owned.body ≡ capped (length (set_body p.set))
  unfolding set_sized
  owned_body = ap (λ (x : Owned). x.body) e

  pub owned_sized : Sized owned.size (set_bytes p.set)
  unfolding set_sized
  owned_sized = sized_told owned.size (set_bytes p.set) (ap (λ (x : Owned). x.size) e)

  pub owned_next : owned.next ≡ p.next
  unfolding set_sized
  owned_next = ap (λ (x : Owned). x.next) e

-- bags
module _ (p : Picked) (taken : Taken) (e : taken ≡ taken_sized p) where
  pub taken_sized_lem : Sized taken.size (bags_bytes p.bags)
  unfolding taken_sized
  taken_sized_lem = sized_told taken.size (bags_bytes p.bags) (ap (λ (x : Taken). x.size) e)

  pub taken_bag : taken.bag ≡ p.bag
  unfolding taken_sized
  taken_bag = ap (λ (x : Taken). x.bag) e

  pub taken_attribute : taken.attribute ≡ p.attribute
  unfolding taken_sized
  taken_attribute = ap (λ (x : Taken). x.attribute) e

-- one bag, and one safe
found_same : (a b : Taken) → Some a ≡ Some b → a ≡ b
found_same a b e = cc

pub found_one : (one : Taken) (o : Option OnePicked) → Some one ≡ one_sized o
    → (p : OnePicked) × (o ≡ some p) × (one ≡ sized_as (length (bags_bytes (p.front none))) p.bag p.attribute)
unfolding one_sized
found_one one option.none e = (let z : ◌≡◌ {A = ℕ} 0 1 = cc in absurd (omega arith))
found_one one (some p) e = (p, refl, found_same _ _ e)

pub none_one : (o : Option OnePicked) → None ≡ one_sized o → o ≡ option.none
unfolding one_sized
none_one option.none e = refl
none_one (some p) e = cc

pub found_safe : (one : Taken) (o : Option SafePicked) → Some one ≡ safe_sized o
    → (p : SafePicked) × (o ≡ some p) × (one ≡ sized_as (length (safe_bytes p.safe)) p.bag p.attribute)
unfolding safe_sized
found_safe one option.none e = (let z : ◌≡◌ {A = ℕ} 0 1 = cc in absurd (omega arith))
found_safe one (some p) e = (p, refl, found_same _ _ e)

pub none_safe : (o : Option SafePicked) → None ≡ safe_sized o → o ≡ option.none
unfolding safe_sized
none_safe option.none e = refl
none_safe (some p) e = cc

-- ---- what a bag's row shows, by its kind

pub leaf_some : (k : BagKind) → form_of k ≡ Some Form.Leaf → form_of k ≡ None → ⊥
leaf_some k h e = (let z : ◌≡◌ {A = ℕ} 0 1 = cc in omega arith)

nested_some : (k : BagKind) → form_of k ≡ Some Form.Nested → form_of k ≡ None → ⊥
nested_some k h e = (let z : ◌≡◌ {A = ℕ} 0 1 = cc in omega arith)

form_none : (s : List ℕ) (k : BagKind) (p : Parts) → form_of k ≡ None → content_in s k p ≡ empty_bag
form_none s BagKind.None p e = refl
form_none s Key p e = cc
form_none s ShroudedKey p e = cc
form_none s Certificate p e = cc
form_none s Crl p e = cc
form_none s Secret p e = cc
form_none s Nested p e = cc

form_nested : (s : List ℕ) (k : BagKind) (p : Parts) → form_of k ≡ Some Form.Nested
    → (content_in s k p ≡ nested) × (k ≡ Nested)
form_nested s BagKind.None p e = (let z : ◌≡◌ {A = ℕ} 0 1 = cc in absurd (omega arith))
form_nested s Key p e = (let z : ◌≡◌ {A = ℕ} 0 1 = cc in absurd (omega arith))
form_nested s ShroudedKey p e = (let z : ◌≡◌ {A = ℕ} 0 1 = cc in absurd (omega arith))
form_nested s Certificate p e = (let z : ◌≡◌ {A = ℕ} 0 1 = cc in absurd (omega arith))
form_nested s Crl p e = (let z : ◌≡◌ {A = ℕ} 0 1 = cc in absurd (omega arith))
form_nested s Secret p e = (let z : ◌≡◌ {A = ℕ} 0 1 = cc in absurd (omega arith))
form_nested s Nested p e = (refl, refl)

record LeafIs (s : List ℕ) (k : BagKind) (p : Parts) : Type 0 where
  value : Leaf
  shows : content_in s k p ≡ leaf value
  kind : kind_of_leaf value ≡ k
  bytes : leaf_bytes value ≡ content_of s k p

form_leaf : (s : List ℕ) (k : BagKind) (p : Parts) → form_of k ≡ Some Form.Leaf → LeafIs s k p
unfolding content_of
form_leaf s BagKind.None p e = (let z : ◌≡◌ {A = ℕ} 0 1 = cc in absurd (omega arith))
form_leaf s Key p e = record { value = _; shows = refl; kind = refl; bytes = refl }
form_leaf s ShroudedKey p e = record { value = _; shows = refl; kind = refl; bytes = refl }
form_leaf s Certificate p e = record { value = _; shows = refl; kind = refl; bytes = refl }
form_leaf s Crl p e = record { value = _; shows = refl; kind = refl; bytes = refl }
form_leaf s Secret p e = record { value = _; shows = refl; kind = refl; bytes = refl }
form_leaf s Nested p e = (let z : ◌≡◌ {A = ℕ} 0 1 = cc in absurd (omega arith))

-- ---- one bag

-- a bag of kind k with a content and a set was taken, and `next` is the bag row behind it
pub record BagTaken (o : Option OnePicked) (k : BagKind) (content : List ℕ) (set : SetPicked) (next : ℕ) : Type 0 where
  pub picked : OnePicked
  pub found : o ≡ some picked
  pub kind : form_of k ≡ None → ⊥
  pub bytes : bags_bytes (picked.front none) ≡ bag_bytes k content set.set
  pub bag : picked.bag ≡ next
  pub attribute : picked.attribute ≡ set.next

module _ (t : Table) (s : List ℕ) (l k n from : ℕ) (row : BagRow) (e : row ≡ get_or t.bags n no_bag) where
  content_is : (bag_value t s n).content ≡ content_in s row.kind row.parts
  content_is = ap (λ (r : BagRow). content_in s r.kind r.parts) (sym e)

  set_is : (m : ℕ) → set_picked t s (bag_value t s n).has_set n m ≡ set_picked t s row.has_set n m
  set_is m = ap (λ (r : BagRow). set_picked t s r.has_set n m) (sym e)

  pub bag_is_empty : form_of row.kind ≡ None → bag_picked t s l k n from ≡ option.none
  bag_is_empty h = bag_empty t s l k n from (content_is ∙ form_none s row.kind row.parts h)

  pub bag_is_leaf : form_of row.kind ≡ Some Form.Leaf
      → BagTaken (bag_picked t s l k n from) row.kind (content_of s row.kind row.parts)
      (set_picked t s row.has_set n from) (n + 1)
  unfolding bags_bytes
  bag_is_leaf h =
      let q = form_leaf s row.kind row.parts h in
      record {
        picked = _;
        found = bag_leaf t s l k n from q.value (content_is ∙ q.shows);
        kind = leaf_some row.kind h;
        bytes = rw (append-nil, set_is from, q.kind, q.bytes) refl;
        bag = refl;
        attribute = ap (λ (w : SetPicked). w.next) (set_is from);
      }

  module _ (h : form_of row.kind ≡ Some Form.Nested) where
    pub bag_is_too_deep : l ≡ 0 → bag_picked t s l k n from ≡ option.none
    bag_is_too_deep z = bag_too_deep t s l k n from (content_is ∙ (form_nested s row.kind row.parts h).0) z

    pub bag_is_nest : (below : ℕ) → l ≡ below + 1
        → BagTaken (bag_picked t s l k n from) row.kind
        (sequence (bags_bytes (bags_picked t s below k (Some n) (n + 1) from).bags))
        (set_picked t s row.has_set n (bags_picked t s below k (Some n) (n + 1) from).attribute)
        (bags_picked t s below k (Some n) (n + 1) from).bag
    unfolding bags_bytes
    bag_is_nest below z =
        let q = form_nested s row.kind row.parts h in
        let all : Picked = bags_picked t s below k (Some n) (n + 1) from in
        record {
          picked = _;
          found = bag_nest t s l k n from below (content_is ∙ q.0) (omega arith);
          kind = nested_some row.kind h;
          bytes = rw (append-nil, set_is all.attribute, q.1) refl;
          bag = refl;
          attribute = ap (λ (w : SetPicked). w.next) (set_is all.attribute);
        }

-- ---- one safe

module _ (t : Table) (s : List ℕ) (k first from : ℕ) (row : SafeRow) (e : row ≡ get_or t.safes k no_safe) where
  shown_is : (v : SafeValue) → safe_shown s row ≡ v → safe_picked t s k first from ≡ safe_of t s v k first from
  unfolding safe_picked
  shown_is v p = ap (λ (r : SafeRow). safe_of t s (safe_shown s r) k first from) (sym e)
      ∙ ap (λ (x : SafeValue). safe_of t s x k first from) p

  by_kind : (c : SafeKind) → row.kind ≡ c → safe_shown s row ≡ safe_shown s (record { kind = c; parts = row.parts })
  by_kind c h = ap (λ (x : SafeKind). safe_shown s (record { kind = x; parts = row.parts })) h

  pub safe_is_empty : row.kind ≡ SafeKind.None → safe_picked t s k first from ≡ option.none
  safe_is_empty h = shown_is _ (by_kind SafeKind.None h)

  pub safe_is_plain : row.kind ≡ Plain → safe_picked t s k first from
      ≡ some (record {
        safe = plain (bags_picked t s 7 k None first from).bags;
        bag = (bags_picked t s 7 k None first from).bag;
        attribute = (bags_picked t s 7 k None first from).attribute;
      })
  safe_is_plain h = shown_is _ (by_kind Plain h)

  pub safe_is_encrypted : row.kind ≡ Encrypted → safe_picked t s k first from
      ≡ some (record { safe = encrypted (sealed_in s row.parts); bag = first; attribute = from })
  safe_is_encrypted h = shown_is _ (by_kind Encrypted h)
