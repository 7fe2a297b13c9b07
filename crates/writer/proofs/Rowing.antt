-- Writing rows: what the code's loops and calls write is what the definitions take.
use mathlib.Core.Path.{◌≡◌, refl, sym, ap, ◌∙◌}
use mathlib.Core.Bool.{Bool, true, false}
use mathlib.Core.List.{List, [], ◌++◌, append-nil}
use mathlib.Core.Option.{Option, some}
use mathlib.Core.Option as option
use Prim.Native.Nat.{ℕ, ◌+◌, ◌≤◌, ◌<◌}
use native.Mathlib.Omega.{arith}
use lib.Dec.{eqb}
use lib.ListN.{length, get_or}
use Rattle.der.specs.Octets.{tlv, sequence}
use Rattle.buffer.specs.Numbers.{file_bytes}
use Rattle.pkcs12.specs.Numbers.{bag_rows, attribute_rows}
use Rattle.der.specs.Numbers.{sequence_tag, set_tag}
use Rattle.pkcs12.specs.Syntax.{none}
use Rattle.pkcs12.specs.Encode.{attribute_bytes, set_bytes, bag_bytes, bags_bytes}
use Rattle.der.specs.Choice.{both}
use Rattle.pkcs12.specs.Values.{same_enclosing}
use Rattle.pkcs12.specs.Table.{no_attribute, no_bag}
use Rattle.pkcs12.specs.declared.kind.BagKind.{BagKind}
use Rattle.pkcs12.specs.declared.row.BagRow.{BagRow}
use Rattle.std.specs.Prelude.{None, Option as Maybe, Some}
use Rattle.pkcs12.specs.declared.table.Table.{Table}
use Rattle.sizes.specs.Bodies.{content_of, attribute_in}
use Rattle.sizes.specs.Picked.{attribute_end, bag_end, attribute_value, bag_value, form_of, SetPicked, set_picked, Picked}
use Rattle.sizes.specs.Picked.{OnePicked, bag_picked, bags_picked}
use Rattle.sizes.specs.Sizes.{bag_size, set_body, set_sized, taken_sized}
use Rattle.encode.specs.Sizes.{capped, element_size}
use Rattle.sizes.specs.declared.rows.Owned.{Owned}
use Rattle.sizes.specs.declared.rows.Taken.{Taken}
use Rattle.sizes.specs.declared.rows.Form.{Form}
use Rattle.encode.proofs.Capped.{Sized, sized_told, sized_element}
use Rattle.sizes.proofs.Loops.{OwnSeen, OwnAll, own_start, own_ends, own_leaves, own_turn, BagsSeen, BagsAll}
use Rattle.sizes.proofs.Loops.{bags_start, bags_end_lem, bags_leave, bags_not, bags_turn}
use Rattle.sizes.proofs.Picks.{bag_ahead}
use Rattle.sizes.proofs.Taken.{owned_body, owned_sized, taken_sized_lem, taken_attribute, leaf_some, BagTaken}
use Rattle.sizes.proofs.Taken.{bag_is_empty, bag_is_leaf, bag_is_too_deep, bag_is_nest}
use Rattle.buffer.specs.declared.write.Out.{Out}
use Rattle.buffer.specs.Wrote.{Wrote}
use Rattle.encode.specs.Header.{header}
use Rattle.writer.specs.Heads.{bag_head}
use Rattle.writer.specs.Rows.{SetPut, RowsPut, leaf_part, one_part, bags_part}
use Rattle.writer.specs.Wrote.{WroteIf, WroteShort}
use Rattle.writer.specs.declared.rows.RowsEnd.{RowsEnd}
use Rattle.writer.proofs.Puts.{short_nothing, short_as, short_then, put_element, put_sized}
use Rattle.writer.proofs.Elements.{bag_put}

-- ---- a set

-- the loop of `set`: the attributes seen so far are written
pub record SetPutting (t : Table) (s : List ℕ) (n from end : ℕ) (m e : Out) (next : ℕ) : Type 0 where
  pub seen_bytes : List ℕ
  pub seen : OwnSeen t s n from next seen_bytes
  pub put : WroteShort m seen_bytes e
  pub end_is : end ≡ attribute_end t
  pub within : end ≤ attribute_rows

module _ (t : Table) (s : List ℕ) (h : Bool) (n from : ℕ) where
  pub set_nothing : (d : Out) → h ≡ false → SetPut d (set_picked t s h n from) d from
  unfolding set_picked set_bytes
  set_nothing d e = rw e record { put = short_nothing d; next = refl }

  pub set_begins : (end : ℕ) (m : Out) → end ≡ attribute_end t → SetPutting t s n from end m m from
  set_begins end m e =
      record { seen_bytes = []; seen = own_start t s n from; put = short_nothing m; end_is = e; within = omega (arith, e) }

  module _ (end : ℕ) (m e : Out) (next : ℕ) (g : SetPutting t s n from end m e next) where
    pub set_more : (f : Out) → next < end → (attribute_value t s next).bag ≡ n
        → WroteShort e (attribute_bytes (attribute_in s (get_or t.attributes next no_attribute))) f → SetPutting t s n from end m f (next + 1)
    set_more f k o w =
        let x : List ℕ = attribute_bytes (attribute_in s (get_or t.attributes next no_attribute)) in
        record {
          seen_bytes = g.seen_bytes ++ x;
          seen = own_turn t s n from next g.seen_bytes g.seen (rw g.end_is at k) o;
          put = short_then g.put w;
          end_is = g.end_is;
          within = g.within;
        }

    -- the header before them has their size
    module _ (d : Out) (body : ℕ) (y : h ≡ true)
        (z : body ≡ capped (length (set_body (set_picked t s h n from).set)))
        (w : Wrote d (header set_tag body) m) where
      whole : OwnAll t s n from next g.seen_bytes → SetPut d (set_picked t s h n from) e next
      unfolding set_picked set_bytes
      whole a =
          let b : body ≡ capped (length g.seen_bytes) = (rw y at z) ∙ ap (λ (x : List ℕ). capped (length x)) a.0 in
          rw y record {
            put = short_as (ap (tlv set_tag) (sym a.0)) (put_sized _ w b g.put);
            next = sym a.1;
          }

      pub set_all : end ≤ next → SetPut d (set_picked t s h n from) e next
      set_all k = whole (own_ends t s n from next g.seen_bytes g.seen (rw g.end_is at k))

      pub set_leave : next < end → ((attribute_value t s next).bag ≡ n → ⊥) → SetPut d (set_picked t s h n from) e next
      set_leave k o = whole (own_leaves t s n from next g.seen_bytes g.seen (rw g.end_is at k) o)

-- ---- one bag

module _ (t : Table) (s : List ℕ) (row : BagRow) (n from : ℕ) where
  pub leaf_put : (content : ℕ) (owned : Owned) (d m m2 e : Out) (r : ℕ)
      → form_of row.kind ≡ Some Form.Leaf → content ≡ capped (length (content_of s row.kind row.parts))
      → owned ≡ set_sized (set_picked t s row.has_set n from)
      → WroteIf (bag_size content owned.size ≤ file_bytes) d (bag_head row.kind content owned.size) m
      → WroteShort m (content_of s row.kind row.parts) m2 → SetPut m2 (set_picked t s row.has_set n from) e r
      → RowsPut d (leaf_part t s row n from) e (record { bag = n + 1; attribute = r })
  unfolding leaf_part
  leaf_put content owned d m m2 e r h c w f g v =
      let set : SetPicked = set_picked t s row.has_set n from in
      let body : List ℕ = content_of s row.kind row.parts in
      record {
        put = bag_put row.kind body set.set content owned.size (leaf_some row.kind h)
            (sized_told content body c) (owned_sized set owned w) f g v.put;
        bag = refl;
        attribute = v.next;
      }

-- a bag that was taken is written, by its content and its set
taken_put : (o : Option OnePicked) (k : BagKind) (c : List ℕ) (set : SetPicked) (next : ℕ) → BagTaken o k c set next
    → (n m : ℕ) (d z : Out) (r : RowsEnd) → WroteShort d (bag_bytes k c set.set) z → r.bag ≡ next → r.attribute ≡ set.next
    → RowsPut d (one_part o n m) z r
unfolding one_part
taken_put o k c set next b n m d z r w p q =
    rw b.found record { put = short_as (sym b.bytes) w; bag = p ∙ sym b.bag; attribute = q ∙ sym b.attribute }

module _ (t : Table) (s : List ℕ) (l k n from : ℕ) (row : BagRow) (e : row ≡ get_or t.bags n no_bag) (f : Maybe Form) (o : f ≡ form_of row.kind) where
  pub bag_nothing : (d : Out) → f ≡ None
      → RowsPut d (one_part (bag_picked t s l k n from) n from) d (record { bag = n; attribute = from })
  unfolding one_part
  bag_nothing d h = rw (bag_is_empty t s l k n from row e (sym o ∙ h)) record { put = short_nothing d; bag = refl; attribute = refl }

  pub bag_of_leaf : (d z : Out) (r : RowsEnd) → f ≡ Some Form.Leaf → RowsPut d (leaf_part t s row n from) z r
      → RowsPut d (one_part (bag_picked t s l k n from) n from) z r
  unfolding leaf_part
  bag_of_leaf d z r h w = taken_put _ _ _ _ _ (bag_is_leaf t s l k n from row e (sym o ∙ h)) n from d z r w.put w.bag w.attribute

  module _ (h : f ≡ Some Form.Nested) where
    pub bag_deep : (d : Out) → l ≡ 0 → RowsPut d (one_part (bag_picked t s l k n from) n from) d (record { bag = n; attribute = from })
    unfolding one_part
    bag_deep d z = rw (bag_is_too_deep t s l k n from row e (sym o ∙ h) z) record { put = short_nothing d; bag = refl; attribute = refl }

    module _ (below : ℕ) (y : l ≡ below + 1) (inner : Taken) (i : inner ≡ taken_sized (bags_picked t s below k (Some n) (n + 1) from))
        (owned : Owned) (w : owned ≡ set_sized (set_picked t s row.has_set n inner.attribute))
        (m3 m4 : Out) (all : RowsEnd) (a : RowsPut m3 (bags_part (bags_picked t s below k (Some n) (n + 1) from)) m4 all) where
      next_is : inner.attribute ≡ all.attribute
      unfolding bags_part
      next_is = taken_attribute (bags_picked t s below k (Some n) (n + 1) from) inner i ∙ sym a.attribute

      -- what writing the set behind the bags requires
      pub nest_body : owned.body ≡ capped (length (set_body (set_picked t s row.has_set n all.attribute).set))
      nest_body = rw next_is at (owned_body (set_picked t s row.has_set n inner.attribute) owned w)

      pub nest_put : (content : ℕ) (d m z : Out) (r : ℕ)
          → content ≡ capped (element_size inner.size)
          → WroteIf (bag_size content owned.size ≤ file_bytes) d (bag_head row.kind content owned.size) m
          → Wrote m (header sequence_tag inner.size) m3 → SetPut m4 (set_picked t s row.has_set n all.attribute) z r
          → RowsPut d (one_part (bag_picked t s l k n from) n from) z (record { bag = all.bag; attribute = r })
      unfolding bags_part
      nest_put content d m z r c u v b =
          let picked : Picked = bags_picked t s below k (Some n) (n + 1) from in
          let set : SetPicked = set_picked t s row.has_set n picked.attribute in
          let body : List ℕ = bags_bytes picked.bags in
          let inside : Sized inner.size body = taken_sized_lem picked inner i in
          let own : owned ≡ set_sized set = rw (taken_attribute picked inner i) at w in
          let behind : SetPut m4 set z r = rw a.attribute at b in
          let found = bag_is_nest t s l k n from row e (sym o ∙ h) below y in
          taken_put _ _ _ _ _ found n from d z _
          (bag_put row.kind (sequence body) set.set content owned.size found.kind
          (sized_element content inner.size sequence_tag body c inside) (owned_sized set owned own) u
          (put_element _ v inside a.put) behind.put)
          a.bag behind.next

-- ---- bags side by side

-- the loop of `bags`: the bags seen so far are written
pub record BagsPutting (t : Table) (s : List ℕ) (l k : ℕ) (e : Maybe ℕ) (first from end : ℕ) (m z : Out) (r : RowsEnd) : Type 0 where
  pub seen_bytes : List ℕ
  pub seen : BagsSeen t s l k e first from r.bag r.attribute seen_bytes
  pub put : WroteShort m seen_bytes z
  pub end_is : end ≡ bag_end t
  pub within : end ≤ bag_rows

-- what writing one row did: nothing is written if it was no bag
abbrev OneGave : Out → Option OnePicked → ℕ → ℕ → Out → RowsEnd → Type 0
OneGave d option.none n m z r = (WroteShort d [] z) × (r.bag ≡ n) × (r.attribute ≡ m)
OneGave d (some p) n m z r = (WroteShort d (bags_bytes (p.front none)) z) × (r.bag ≡ p.bag) × (r.attribute ≡ p.attribute)

one_gave : (d : Out) (o : Option OnePicked) (n m : ℕ) (z : Out) (r : RowsEnd) → RowsPut d (one_part o n m) z r → OneGave d o n m z r
unfolding one_part
one_gave d option.none n m z r w = (w.put, w.bag, w.attribute)
one_gave d (some p) n m z r w = (w.put, w.bag, w.attribute)

module _ (t : Table) (s : List ℕ) (l k : ℕ) (e : Maybe ℕ) (first from : ℕ) where
  pub bags_begin : (end : ℕ) (m : Out) → end ≡ bag_end t
      → BagsPutting t s l k e first from end m m (record { bag = first; attribute = from })
  bags_begin end m h =
      record { seen_bytes = []; seen = bags_start t s l k e first from; put = short_nothing m; end_is = h; within = omega (arith, h) }

  module _ (end : ℕ) (m z : Out) (r : RowsEnd) (g : BagsPutting t s l k e first from end m z r) where
    all_put : (y : Out) (x : RowsEnd) → x.bag ≡ r.bag → x.attribute ≡ r.attribute → WroteShort m g.seen_bytes y
        → BagsAll t s l k e first from r.bag r.attribute g.seen_bytes → RowsPut m (bags_part (bags_picked t s l k e first from)) y x
    unfolding bags_part
    all_put y x u v w a = rw (a.bytes, a.bag, a.attribute) record { put = w; bag = u; attribute = v }

    pub bags_done : end ≤ r.bag → RowsPut m (bags_part (bags_picked t s l k e first from)) z r
    bags_done h = all_put z r refl refl g.put (bags_end_lem t s l k e first from r.bag r.attribute g.seen_bytes g.seen (rw g.end_is at h))

    module _ (h : r.bag < end) (u : Bool) (b : u ≡ both (eqb (bag_value t s r.bag).safe k) (same_enclosing (bag_value t s r.bag).enclosing e)) where
      pub bags_other_place : u ≡ false → RowsPut m (bags_part (bags_picked t s l k e first from)) z r
      bags_other_place y =
          all_put z r refl refl g.put (bags_leave t s l k e first from r.bag r.attribute g.seen_bytes g.seen (rw g.end_is at h) (sym b ∙ y))

      module _ (y : u ≡ true) (f : Out) (x : RowsEnd)
          (w : RowsPut z
          (one_part (bag_picked t s l k r.bag r.attribute) r.bag r.attribute) f x) where
        gave : (o : Option OnePicked) → bag_picked t s l k r.bag r.attribute ≡ o → OneGave z o r.bag r.attribute f x
        gave o q = one_gave z o r.bag r.attribute f x (rw q at w)

        -- the row was no bag
        pub bags_no_bag : x.bag ≤ r.bag → RowsPut m (bags_part (bags_picked t s l k e first from)) f x
        bags_no_bag v = go (bag_picked t s l k r.bag r.attribute) refl
          where
            go : (o : Option OnePicked) → bag_picked t s l k r.bag r.attribute ≡ o → RowsPut m (bags_part (bags_picked t s l k e first from)) f x
            go option.none q =
                let a = gave option.none q in
                all_put f x a.1 a.2 (short_as (append-nil g.seen_bytes) (short_then g.put a.0))
                (bags_not t s l k e first from r.bag r.attribute g.seen_bytes g.seen (rw g.end_is at h) (sym b ∙ y) q)
            go (some j) q = absurd (omega (arith, v, bag_ahead t s l k r.bag r.attribute j q, (gave (some j) q).1))

        -- the row was a bag
        pub bags_one_more : r.bag < x.bag → BagsPutting t s l k e first from end m f x
        bags_one_more v = go (bag_picked t s l k r.bag r.attribute) refl
          where
            go : (o : Option OnePicked) → bag_picked t s l k r.bag r.attribute ≡ o → BagsPutting t s l k e first from end m f x
            go option.none q = absurd (omega (arith, v, (gave option.none q).1))
            go (some j) q =
                let a = gave (some j) q in
                record {
                  seen_bytes = g.seen_bytes ++ bags_bytes (j.front none);
                  seen =
                      rw (a.1, a.2) (bags_turn t s l k e first from r.bag r.attribute g.seen_bytes
                      g.seen (rw g.end_is at h) (sym b ∙ y) j q);
                  put = short_then g.put a.0;
                  end_is = g.end_is;
                  within = g.within;
                }
