-- The loop over the attributes of a bag: each turn of the code is one of the walk, and each way out
-- is the walk's.
use mathlib.Core.Path.{◌≡◌, refl, sym, ◌∙◌}
use mathlib.Core.Bool.{Bool, true, false}
use mathlib.Core.List.{List}
use Prim.Native.Nat.{ℕ, ◌+◌, ◌-◌, ◌≤◌, ◌<◌}
use native.Mathlib.Omega.{arith}
use lib.Dec.{leb, eqb}
use lib.ListN.{length}
use borrow.Author.Tests.{leb-false}
use mir.Val.{Fits}
use mir.Syntax.{w64}
use Rattle.der.specs.Element.{cursor, tag_at, finish_at, expect_at}
use Rattle.der.specs.Content.{identifier_at}
use Rattle.der.specs.Opaque.{on_checked}
use Rattle.der.specs.declared.Fault.{Fault}
use Rattle.der.specs.declared.Cursor.{Cursor}
use Rattle.der.specs.declared.Checked.{Checked}
use Rattle.pkcs12.specs.declared.answers.Parsed.{Parsed}
use Rattle.std.specs.Prelude.{Err, None, Ok, Option, Result, Some}
use Rattle.der.proofs.Choices.{by_test}
use Rattle.der.proofs.Placed.{by_element, found, expected}
use Rattle.der.proofs.Opaque.{by_checked}
use Rattle.buffer.specs.Numbers.{file_bytes}
use Rattle.pkcs12.specs.Numbers.{attribute_rows}
use Rattle.der.specs.Numbers.{sequence_tag, set_tag}
use Rattle.pkcs12.specs.Table.{attribute_row, Rows}
use Rattle.pkcs12.specs.Walk.{on_parts, Walked, Refused, Went, on_walked, run, counting, add_attribute, attribute_at}
use Rattle.pkcs12.specs.declared.row.Parts.{Parts}
use Rattle.pkcs12.specs.declared.row.AttributeRow.{AttributeRow}
use Rattle.words.specs.InPlace.{attribute_stored}
use Rattle.words.specs.declared.Counts.{Counts}
use Rattle.load.specs.Holds.{rows_at}
use Rattle.load.proofs.Held.{attribute_count, count_of}
use Rattle.load.proofs.Counted.{with_count, rows_counted, held_counted, with_attribute, rows_with_attribute}
use Rattle.load.proofs.Counted.{held_with_attribute, attribute_length}
use Rattle.reader.specs.Steps.{attribute_values_at, attribute_parts_at, on_set, set_head_at, set_body_at, bag_end_at}
use Rattle.reader.specs.Steps.{start_count}
use Rattle.reader.specs.Memory.{Ready, Shown}
use Rattle.reader.specs.declared.bags.Set.{Set}
use Rattle.reader.specs.declared.rows.Progress.{Progress}
use Rattle.reader.proofs.Past.{attribute_past}
use Rattle.parts.proofs.Past.{Past}
use Rattle.reader.proofs.Bridge.{attribute_law, end_law}
use Rattle.reader.proofs.Shown.{shown_refused, shown_went}
use Rattle.reader.proofs.Loops.{Rowing, rowing_start, rowing_end, rowing_refused, rowing_on}

-- where the set of a bag is: its body, within the bytes
abbrev OfSet : List ℕ → Cursor → Result (Option Set) Fault → Type 0
OfSet s c (Err f) = Unit {0}
OfSet s c (Ok None) = Unit {0}
OfSet s c (Ok (Some x)) = (c.at + 2 ≤ x.body.at) × (x.body.at ≤ x.body.end) × (x.body.end ≤ length s)

set_of_lem : (s : List ℕ) (e c : Cursor) → OfSet s c (set_head_at s e c)
unfolding set_head_at
set_of_lem s e c =
    by_checked (OfSet s c) (λ x. Unit {0}) _ _ (λ f. tt)
    (λ z g u.
    by_test (OfSet s c) _ _ (eqb (tag_at s c) set_tag)
    (λ h.
    by_element (OfSet s c) (λ x. expect_at set_tag s c ≡ x) _ _ (λ f. tt)
    (λ t b n p.
    let o = found s c _ t b n refl (expected set_tag s c (expect_at set_tag s c) t b n refl p).1 in
    (o.body.past, o.body.size, omega (arith, o.body.within, o.inside)))
    (expect_at set_tag s c) refl)
    (λ h. by_checked (OfSet s c) (λ x. Unit {0}) _ _ (λ f. tt) (λ z g u. tt) (finish_at c) tt))
    (finish_at e) tt

-- an attribute was found only where a row was left for it
abbrev OfRoom : Bool → Result (Parsed Parts) Fault → Type 0
OfRoom full (Err f) = Unit {0}
OfRoom full (Ok x) = full ≡ false

values_room : (s : List ℕ) (i m n : Cursor) → OfRoom false (attribute_values_at s i m n)
values_room s i m n = go (attribute_values_at s i m n)
  where
    go : (x : Result (Parsed Parts) Fault) → OfRoom false x
    go (Err f) = tt
    go (Ok x) = refl

room_of : (s : List ℕ) (full : Bool) (c : Cursor) → OfRoom full (attribute_parts_at s full c)
unfolding attribute_parts_at
room_of s true c =
    by_element (OfRoom true) (λ x. Unit {0}) _ _ (λ f. tt) (λ t b n u. tt) (expect_at sequence_tag s c) tt
room_of s false c =
    by_element (OfRoom false) (λ x. Unit {0}) _ _ (λ f. tt)
    (λ t b n u. by_element (OfRoom false) (λ x. Unit {0}) _ _ (λ f. tt) (λ t i m v. values_room s i m n)
    (identifier_at s b) tt)
    (expect_at sequence_tag s c) tt

-- an attribute of the walk, by its parts, behind the rows that are counted
module _ (s : List ℕ) (number : ℕ) (m : List ℕ) (k : Counts) (c : Cursor) (x : Result (Parsed Parts) Fault)
    (p : x ≡ attribute_parts_at s (leb attribute_rows k.attributes) c) where
  attribute_is : attribute_at s number (rows_at m k) c
      ≡ on_parts x Refused
      (λ p j n. Went (add_attribute (rows_at m k) (attribute_row number p.identifier p.value) j) n)
  attribute_is = sym (attribute_law s number (rows_at m k) c) ∙ rw (attribute_count m k, ← p)

  pub attribute_refused : (f : Fault) → x ≡ Err f → attribute_at s number (rows_at m k) c ≡ Refused f
  attribute_refused f q = attribute_is ∙ rw q

  module _ (a : Parsed Parts) (q : x ≡ Ok a) where
    pub attribute_found : attribute_at s number (rows_at m k) c
        ≡ Went (add_attribute (rows_at m k) (attribute_row number a.value.identifier a.value.value) a.count) a.next
    attribute_found = attribute_is ∙ rw q

    -- a row is left, and how far the turn goes
    pub attribute_few : k.attributes < attribute_rows
    attribute_few =
        leb-false attribute_rows k.attributes (rw (sym p ∙ q) at (room_of s (leb attribute_rows k.attributes) c))

    pub attribute_goes : Past s c (rows_at m k).count ((rows_at m k).count + a.count) a.next
    attribute_goes = attribute_past s number (rows_at m k) c _ a.next attribute_found

-- the attributes in the body b of a set, which e is past; n is past the bag
module _ (s : List ℕ) (number : ℕ) (m₀ : List ℕ) (k₀ : Counts) (b e n : Cursor) where
  abbrev step_of : Rows → Cursor → Walked
  step_of = attribute_at s number

  abbrev loop_of : Walked
  loop_of = run step_of (rows_at m₀ k₀) b

  abbrev whole_body : Walked
  whole_body = set_body_at s number (rows_at m₀ k₀) b e n

  body_is : (y : Walked) → loop_of ≡ y
      → whole_body ≡ on_walked y Refused (λ st' f. on_checked (finish_at e) Refused (λ z g. Went st' n))
  unfolding set_body_at
  body_is y h = rw h

  pub body_start : Ready m₀ k₀ b.at → Rowing step_of b.end loop_of (length m₀) m₀ k₀ b.at
  body_start r = rowing_start step_of m₀ k₀ b r

  module _ (m : List ℕ) (k : Counts) (at : ℕ) (g : Rowing step_of b.end loop_of (length m₀) m k at) where
    abbrev here : Cursor
    here = cursor at b.end

    module _ (v : Result Checked Fault) (h : b.end ≤ at) (y : v ≡ finish_at e) where
      ends_is : whole_body ≡ on_checked v Refused (λ z g. Went (rows_at m k) n)
      ends_is = body_is _ (rowing_end step_of _ _ _ m k at g h) ∙ rw (← y)

      pub body_refused : (f : Fault) (r : Result Progress Fault) → v ≡ Err f → r ≡ Err f → Shown m r whole_body
      body_refused f r z i = shown_refused m whole_body r f (ends_is ∙ rw z) i

      pub body_end : (z : Checked) → v ≡ Ok z → Shown m (Ok (record { counts = k; next = n })) whole_body
      body_end z i = shown_went m whole_body _ g.ready.held (ends_is ∙ rw i)

    -- a turn
    module _ (x : Result (Parsed Parts) Fault)
        (y : x ≡ attribute_parts_at s (leb attribute_rows k.attributes) here) where
      pub turn_refused : (f : Fault) (r : Result Progress Fault) → at < b.end → x ≡ Err f → r ≡ Err f
          → Shown m r whole_body
      turn_refused f r h z i =
          shown_refused m whole_body r f
          (body_is _ (rowing_refused step_of _ _ _ m k at g f h (attribute_refused s number m k here x y f z))) i

      module _ (a : Parsed Parts) (z : x ≡ Ok a) where
        pub turn_few : k.attributes < attribute_rows
        turn_few = attribute_few s number m k here x y a z

        pub turn_fits : length s ≤ file_bytes → Fits w64 (k.elements + a.count)
        unfolding start_count
        turn_fits l =
            let v = attribute_goes s number m k here x y a z in
            let i = count_of m k in
            omega (arith, i, g.ready.counted, l, v.long, v.within, v.inside)

        pub turn_less : at < b.end → b.end - a.next.at < b.end - at
        turn_less h = let v = attribute_goes s number m k here x y a z in omega (arith, v.some)

        -- the row is stored
        pub turn_on : at < b.end → (row : AttributeRow)
            → row ≡ attribute_row number a.value.identifier a.value.value → (m' : List ℕ)
            → m' ≡ attribute_stored m k.attributes row
            → Rowing step_of b.end loop_of (length m₀) m' (with_attribute k a.count) a.next.at
        turn_on h row u m' t =
            let held = g.ready.held in
            let w : m' ≡ attribute_stored m k.attributes (attribute_row number a.value.identifier a.value.value) =
            rw u at t in
            rowing_on step_of _ _ _ m k at g s _ a.next m' (with_attribute k a.count) h
            (attribute_found s number m k here x y a z) (attribute_goes s number m k here x y a z)
            (attribute_length m k held m' _ a.count turn_few w) (rows_with_attribute m k held m' _ a.count turn_few w)
            (held_with_attribute m k held m' _ a.count turn_few w)

not_some : (o : Option Set) → ((x : Set) → o ≡ Some x → ⊥) → o ≡ None
not_some None h = refl
not_some (Some x) h = absurd (h x refl)

-- the attributes of the bag with this number, at the end of [0]
module _ (s : List ℕ) (number : ℕ) (m₀ : List ℕ) (k₀ : Counts) (e c n : Cursor) (ready : Ready m₀ k₀ c.at)
    (w : Result (Option Set) Fault) (p : w ≡ set_head_at s e c) where
  abbrev whole_end : Walked
  whole_end = bag_end_at s number (rows_at m₀ k₀) e c n

  end_is : whole_end
      ≡ on_set w Refused (Went (rows_at m₀ k₀) n)
      (λ b m. on_walked (run (attribute_at s number) (counting (rows_at m₀ k₀) 1) b) Refused
      (λ st' f. on_checked (finish_at m) Refused (λ z g. Went st' n)))
  end_is = sym (end_law s number (rows_at m₀ k₀) e c n) ∙ rw (← p)

  pub end_refused : (f : Fault) (r : Result Progress Fault) → w ≡ Err f → r ≡ Err f → Shown m₀ r whole_end
  end_refused f r q i = shown_refused m₀ whole_end r f (end_is ∙ rw q) i

  module _ (o : Option Set) (u : w ≡ Ok o) where
    pub end_none : ((x : Set) → o ≡ Some x → ⊥) → Shown m₀ (Ok (record { counts = k₀; next = n })) whole_end
    end_none h = shown_went m₀ whole_end _ ready.held (end_is ∙ rw (u, not_some o h))

    module _ (x : Set) (q : o ≡ Some x) where
      body_of : (c.at + 2 ≤ x.body.at) × (x.body.at ≤ x.body.end) × (x.body.end ≤ length s)
      body_of = rw (sym p ∙ u, q) at (set_of_lem s e c)

      pub end_fits : length s ≤ file_bytes → Fits w64 (k₀.elements + 1)
      unfolding start_count
      end_fits l = let o = body_of in omega (arith, ready.counted, l, o.0, o.1, o.2)

      pub end_ready : Ready m₀ (with_count k₀ 1) x.body.at
      end_ready =
          let o = body_of in
          record {
            held = held_counted m₀ k₀ ready.held 1;
            counted = omega (arith, ready.counted, o.0);
          }

      pub end_returns : (m₁ : List ℕ) (r : Result Progress Fault)
          → Shown m₁ r (set_body_at s number (rows_at m₀ (with_count k₀ 1)) x.body x.next n) → Shown m₁ r whole_end
      unfolding set_body_at
      end_returns m₁ r h = rw (end_is, u, q, ← rows_counted m₀ k₀ ready.held 1) h
