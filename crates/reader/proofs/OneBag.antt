-- A bag: what the code has learnt of it before its row, and each way on from there, as the walk
-- goes.
use mathlib.Core.Path.{◌≡◌, refl, sym, ap, ◌∙◌}
use mathlib.Core.Bool.{Bool, true, false}
use mathlib.Core.List.{List}
use Prim.Native.Nat.{ℕ, ◌+◌, ◌≤◌, ◌<◌}
use native.Mathlib.Omega.{arith}
use lib.Dec.{leb, ltb}
use lib.ListN.{length}
use borrow.Author.Tests.{leb-false}
use mir.Val.{Fits}
use mir.Syntax.{w64}
use Rattle.std.specs.Prelude.{if◌then◌else◌}
use Rattle.der.specs.Content.{bytes_of}
use Rattle.der.specs.declared.Fault.{Fault}
use Rattle.der.specs.declared.Cursor.{Cursor}
use Rattle.der.proofs.Choices.{by_test}
use Rattle.buffer.specs.Numbers.{file_bytes}
use Rattle.pkcs12.specs.Numbers.{bag_rows}
use Rattle.der.specs.Numbers.{sequence_tag, context_tag}
use Rattle.pkcs12.specs.Identifiers.{kind_of}
use Rattle.pkcs12.specs.Table.{bag_row, Rows}
use Rattle.pkcs12.specs.Walk.{Walked, Refused, Went, on_walked, add_bag, owner, bag_at, safe_contents_at}
use Rattle.pkcs12.specs.declared.row.Parts.{Parts}
use Rattle.pkcs12.specs.declared.answers.Parsed.{Parsed}
use Rattle.reader.specs.declared.bags.Bag.{Bag}
use Rattle.std.specs.Prelude.{Err, Ok, Option, Result, Some}
use Rattle.pkcs12.specs.declared.kind.BagKind.{BagKind}
use Rattle.pkcs12.specs.declared.kind.BagKind.TheVariants.{Key, ShroudedKey, Certificate, Crl, Secret, Nested}
use Rattle.pkcs12.specs.declared.row.BagRow.{BagRow}
use Rattle.pkcs12.proofs.Named.{by_kind}
use Rattle.words.specs.InPlace.{bag_stored}
use Rattle.words.specs.declared.Counts.{Counts}
use Rattle.load.specs.Wordable.{EnclosingFits, BagFits}
use Rattle.load.specs.Holds.{Holds, rows_at}
use Rattle.load.proofs.Held.{bag_count, count_of}
use Rattle.load.proofs.Counted.{with_bag, rows_with_bag, held_with_bag}
use Rattle.reader.specs.Steps.{on_bag, leaf_of, bag_value_at, bag_of_at, bag_head_at, bag_end_at, inside_at, is_nested}
use Rattle.reader.specs.Steps.{start_count}
use Rattle.reader.specs.Memory.{Ready, Inside, Shown}
use Rattle.reader.specs.declared.rows.Progress.{Progress}
use Rattle.parts.proofs.Past.{Past, by_expect, by_identifier, key_past, sealed_past, typed_past}
use Rattle.reader.proofs.Past.{contents_past}
use Rattle.reader.proofs.BridgeRows.{bag_law}
use Rattle.reader.proofs.Shown.{shown_refused, shown_went, walk_went, walk_refused}

not_true : false ≡ true → ⊥
not_true h = let z : ◌≡◌ {A = ℕ} 0 1 = ap (λ (b : Bool). if b then 1 else 0) h in omega (arith, z)

-- What is known of a bag before its row is stored: a row is left for it, its elements are no more
-- than the bytes before its attributes, and nested contents begin past those elements and end before
-- its attributes.
pub record Known (s : List ℕ) (c : Cursor) (kind : BagKind) (k : ℕ) (v e : Cursor) : Type 0 where
  pub counted : c.at + k ≤ e.at
  pub inside : e.at ≤ length s
  pub nested : is_nested kind ≡ true → (c.at + k ≤ v.at) × (v.end ≤ e.at)

abbrev OfBag : List ℕ → Cursor → Bool → Result Bag Fault → Type 0
OfBag s c full (Err f) = Unit {0}
OfBag s c full (Ok x) = (full ≡ false) × Known s c x.kind x.count x.value x.set

-- in [0] with body v, which ends where e begins
module _ (s : List ℕ) (c : Cursor) (full : Bool) (free : full ≡ false) (v e n : Cursor) (head : c.at + 3 ≤ v.at)
    (order : v.at ≤ v.end) (stop : e.at ≡ v.end) (inside : e.at ≤ length s) where
  leaf_of_lem : (kind : BagKind) → is_nested kind ≡ false → (x : Result (Parsed Parts) Fault)
      → ((p : Parsed Parts) → x ≡ Ok p → Past s v 0 p.count p.next)
      → OfBag s c full (leaf_of kind x e n)
  unfolding leaf_of
  leaf_of_lem kind not (Err f) past = tt
  leaf_of_lem kind not (Ok x) past =
      let o = past x refl in (
        free,
        record {
          counted = omega (arith, head, o.long, o.within, stop);
          inside = inside;
          nested = λ h. absurd (not_true (sym not ∙ h));
        },
      )

  value_of : (kind : BagKind) → OfBag s c full (bag_value_at s kind v e n)
  unfolding bag_value_at
  value_of BagKind.None = tt
  value_of Key = leaf_of_lem Key refl _ (λ p q. key_past s v _ p refl q)
  value_of ShroudedKey = leaf_of_lem ShroudedKey refl _ (λ p q. sealed_past s v _ p refl q)
  value_of Certificate = leaf_of_lem Certificate refl _ (λ p q. typed_past true s v _ p refl q)
  value_of Crl = leaf_of_lem Crl refl _ (λ p q. typed_past false s v _ p refl q)
  value_of Secret = leaf_of_lem Secret refl _ (λ p q. typed_past false s v _ p refl q)
  value_of Nested = (
    free,
    record {
      counted = omega (arith, head, order, stop);
      inside = inside;
      nested = λ h. (head, omega (arith, stop));
    },
  )

bag_of : (s : List ℕ) (full : Bool) (c : Cursor) → OfBag s c full (bag_head_at s full c)
unfolding bag_head_at bag_of_at
bag_of s full c =
    by_expect s (OfBag s c full) _ (λ f. tt) c sequence_tag _
    (λ t b n h.
    by_test (OfBag s c full) _ _ full (λ y. tt)
    (λ y.
    by_identifier s (OfBag s c full) _ (λ f. tt) b _
    (λ t i m j.
    by_kind (OfBag s c full) _ _ (bytes_of s i) tt
    (λ z.
    by_expect s (OfBag s c full) _ (λ f. tt) m context_tag _
    (λ t v e q.
    value_of s c full y v e n (omega (arith, h, j, q)) q.size q.stop (omega (arith, h, j, q))
    (kind_of (bytes_of s i)))))))

-- what is in a bag whose row is stored ends before its attributes: it counts no more elements than
-- there are bytes
module _ (below : ℕ) (s : List ℕ) (safe number : ℕ) (st : Rows) (c : Cursor) (k : ℕ) (v e : Cursor) (st' : Rows)
    (f : Cursor) (i : ℕ)
    (b : st.count ≤ c.at + k + i) where
  leaf_count_lem : c.at + k ≤ e.at → Went st v ≡ Went st' f → st'.count ≤ e.at + i
  leaf_count_lem o h =
      let z : st.count ≡ st'.count = ap (λ (x : Walked). on_walked x (λ g. 0) (λ u g. u.count)) h in
      omega (arith, z, b, o)

  inside_count : (kind : BagKind) → Known s c kind k v e
      → inside_at (safe_contents_at below s) kind safe number st v ≡ Went st' f
      → st'.count ≤ e.at + i
  unfolding inside_at
  inside_count kind o h = go (is_nested kind) refl h
    where
      go : (b : Bool) → is_nested kind ≡ b
          → (if b then safe_contents_at below s (owner safe (Some number)) st v else Went st v) ≡ Went st' f
          → st'.count ≤ e.at + i
      go false n h = leaf_count_lem o.counted h
      go true n h =
          let x = contents_past below s _ st v st' f h in
          let y = o.nested n in
          omega (arith, b, x.long, x.within, y.0, y.1)

-- in a bag whose row is stored
module _ (below : ℕ) (s : List ℕ) (kind : BagKind) (safe number : ℕ) (m : List ℕ) (k : Counts) (c : Cursor)
    (pre : Inside m kind number k c.at) where
  abbrev in_bag : Walked
  in_bag = inside_at (safe_contents_at below s) kind safe number (rows_at m k) c

  module _ (b : Bool) (e : b ≡ is_nested kind) where
    pub inside_nested : b ≡ true → (m' : List ℕ) (r : Result Progress Fault)
        → Shown m' r (safe_contents_at below s (owner safe (Some number)) (rows_at m k) c) → Shown m' r in_bag
    unfolding inside_at
    inside_nested y m' r h = rw (sym e ∙ y) h

    pub inside_ready : b ≡ true → EnclosingFits (Some number) × Ready m k c.at
    inside_ready y = (pre.fits, pre.ready (sym e ∙ y))

    pub inside_leaf : b ≡ false → Shown m (Ok (record { counts = k; next = c })) in_bag
    unfolding inside_at
    inside_leaf y = shown_went m in_bag _ pre.held (rw (sym e ∙ y))

-- a bag of a safe and its enclosing bag at c, where the memory m holds the rows before
module _ (s : List ℕ) (below safe : ℕ) (enclosing : Option ℕ) (m : List ℕ) (k : Counts) (c : Cursor) where
  abbrev whole_bag : Walked
  whole_bag = bag_at (safe_contents_at below s) s (owner safe enclosing) (rows_at m k) c

  module _ (pre : EnclosingFits enclosing × Ready m k c.at) (w : Result Bag Fault)
      (p : w ≡ bag_head_at s (leb bag_rows k.bags) c) where
    bag_is : whole_bag
        ≡ on_bag w Refused
        (λ kind p j v e n.
        on_walked (inside_at (safe_contents_at below s) kind safe k.bags
        (add_bag (rows_at m k) (bag_row kind safe enclosing p (ltb e.at e.end)) j) v) Refused
        (λ st' f. bag_end_at s k.bags st' f e n))
    bag_is = sym (bag_law (safe_contents_at below s) s (owner safe enclosing) (rows_at m k) c) ∙ rw (bag_count m k, ← p)

    facts : OfBag s c (leb bag_rows k.bags) w
    facts = rw (← p) at (bag_of s (leb bag_rows k.bags) c)

    pub bag_refused : (f : Fault) (r : Result Progress Fault) → w ≡ Err f → r ≡ Err f → Shown m r whole_bag
    bag_refused f r q i = shown_refused m whole_bag r f (bag_is ∙ rw q) i

    module _ (x : Bag) (q : w ≡ Ok x) where
      found_facts : (leb bag_rows k.bags ≡ false) × Known s c x.kind x.count x.value x.set
      found_facts = rw q at facts

      pub bag_few : k.bags < bag_rows
      bag_few = leb-false bag_rows k.bags found_facts.0

      pub bag_fits : length s ≤ file_bytes → Fits w64 (k.elements + x.count)
      unfolding start_count
      bag_fits l = let o = found_facts.1 in omega (arith, pre.1.counted, l, o.counted, o.inside)

      -- its row is stored
      module _ (row : BagRow) (u : row ≡ bag_row x.kind safe enclosing x.parts (ltb x.set.at x.set.end))
          (m' : List ℕ) (t : m' ≡ bag_stored m k.bags row) where
        row_fits : BagFits row
        row_fits = rw u pre.0

        stored_rows : rows_at m' (with_bag k x.count) ≡ add_bag (rows_at m k) row x.count
        stored_rows = rows_with_bag m k pre.1.held m' row x.count row_fits bag_few t

        stored_held : Holds m' (rows_at m' (with_bag k x.count))
        stored_held = held_with_bag m k pre.1.held m' row x.count row_fits bag_few t

        pub bag_inside : Inside m' x.kind k.bags (with_bag k x.count) x.value.at
        bag_inside =
            record {
              held = stored_held;
              fits = omega (arith, bag_few);
              ready =
                  λ h.
                  let o = found_facts.1.nested h in
                  record {
                    held = stored_held;
                    counted = omega (arith, pre.1.counted, o.0);
                  };
            }

        -- what is in it, which the code holds as y, in the memory m₁
        abbrev inner_of : Walked
        inner_of =
            inside_at (safe_contents_at below s) x.kind safe k.bags (rows_at m' (with_bag k x.count)) x.value

        found_is : whole_bag ≡ on_walked inner_of Refused (λ st' f. bag_end_at s k.bags st' f x.set x.next)
        found_is = bag_is ∙ rw (q, ← u, ← stored_rows)

        module _ (m₁ : List ℕ) (y : Result Progress Fault) (z : Shown m₁ y inner_of) where
          pub inner_refused : (f : Fault) (r : Result Progress Fault) → y ≡ Err f → r ≡ Err f → Shown m₁ r whole_bag
          inner_refused f r h i =
              shown_refused m₁ whole_bag r f (found_is ∙ rw (walk_refused m₁ inner_of y f z h)) i

          module _ (v : Progress) (h : y ≡ Ok v) where
            pub inner_on : Ready m₁ v.counts x.set.at
            inner_on =
                let i : (rows_at m₁ v.counts).count ≡ v.counts.elements = count_of m₁ v.counts in
                let l : (rows_at m' (with_bag k x.count)).count ≡ k.elements + x.count =
                count_of m' (with_bag k x.count) in
                let o = inside_count below s safe k.bags (rows_at m' (with_bag k x.count)) c x.count x.value x.set _
                v.next start_count (omega (arith, l, pre.1.counted)) x.kind found_facts.1
                (walk_went m₁ inner_of y v z h) in
                record { held = z.held v h; counted = omega (arith, i, o) }

            pub bag_ends : (m₂ : List ℕ) (r : Result Progress Fault)
                → Shown m₂ r (bag_end_at s k.bags (rows_at m₁ v.counts) v.next x.set x.next) → Shown m₂ r whole_bag
            bag_ends m₂ r i = rw (found_is, walk_went m₁ inner_of y v z h) i
