-- Safe contents: the loop over their bags, as the walk goes.
use mathlib.Core.Path.{◌≡◌, refl, sym, ◌∙◌}
use mathlib.Core.List.{List}
use Prim.Native.Nat.{ℕ, zero, suc, ◌+◌, ◌-◌, ◌≤◌, ◌<◌}
use native.Mathlib.Omega.{arith}
use lib.Dec.{eqb, eqb-suc-zero}
use lib.ListN.{length}
use borrow.Author.Tests.{eq-eqb, ne_eqb}
use mir.Val.{Fits}
use mir.Syntax.{w64}
use Rattle.std.specs.Prelude.{if◌then◌else◌}
use Rattle.der.specs.Numbers.{too_many, sequence_tag}
use Rattle.der.specs.Element.{cursor, fault, expect_at, on_element}
use Rattle.der.specs.declared.Fault.{Fault}
use Rattle.der.specs.declared.Cursor.{Cursor}
use Rattle.der.specs.declared.Element.{Element}
use Rattle.std.specs.Prelude.{Err, Ok, Option, Result}
use Rattle.buffer.specs.Numbers.{file_bytes}
use Rattle.pkcs12.specs.Table.{Rows}
use Rattle.pkcs12.specs.Walk.{Walked, Refused, Went, on_walked, run, counting, Owner, owner, bag_at, safe_contents_at}
use Rattle.words.specs.declared.Counts.{Counts}
use Rattle.load.specs.Holds.{rows_at}
use Rattle.load.proofs.Counted.{with_count, rows_counted, held_counted}
use Rattle.reader.specs.Steps.{start_count}
use Rattle.reader.specs.Memory.{Ready, Shown}
use Rattle.reader.specs.declared.rows.Progress.{Progress}
use Rattle.reader.proofs.Past.{bag_past}
use Rattle.parts.proofs.Past.{Past, Head, expect_head}
use Rattle.reader.proofs.Shown.{shown_refused, shown_went, walk_went, walk_refused}
use Rattle.reader.proofs.Loops.{Rowing, rowing_start, rowing_end, rowing_refused, rowing_on}

-- a bag of safe contents with this many levels left
abbrev pub bag_in : ℕ → List ℕ → Owner → Rows → Cursor → Walked
bag_in level s w = bag_at (safe_contents_at (level - 1) s) s w

-- safe contents by their level as the code has it, which tests the level and takes one from it
contents_law : (level : ℕ) (s : List ℕ) (w : Owner) (st : Rows) (c : Cursor)
    → safe_contents_at level s w st c
    ≡ on_element (expect_at sequence_tag s c) Refused
    (λ t b n.
    if eqb level 0 then Refused (fault too_many c.at) else
    on_walked (run (bag_in level s w) (counting st 1) b) Refused (λ st f. Went st n))
unfolding safe_contents_at
contents_law zero s w st c = refl
contents_law (suc l) s w st c =
    let d : suc l - 1 ≡ l = omega arith in
    simp (eqb-suc-zero, d)

module _ (s : List ℕ) (level safe : ℕ) (enclosing : Option ℕ) (m₀ : List ℕ) (k₀ : Counts) (c : Cursor) where
  abbrev whole_contents : Walked
  whole_contents = safe_contents_at level s (owner safe enclosing) (rows_at m₀ k₀) c

  abbrev step_of : Rows → Cursor → Walked
  step_of = bag_in level s (owner safe enclosing)

  module _ (ready : Ready m₀ k₀ c.at) (x : Result Element Fault) (p : x ≡ expect_at sequence_tag s c) where
    contents_is : whole_contents
        ≡ on_element x Refused
        (λ t b n.
        if eqb level 0 then Refused (fault too_many c.at) else
        on_walked (run step_of (counting (rows_at m₀ k₀) 1) b) Refused (λ st f. Went st n))
    contents_is = contents_law level s (owner safe enclosing) (rows_at m₀ k₀) c ∙ rw (← p)

    pub contents_refused : (f : Fault) (r : Result Progress Fault) → x ≡ Err f → r ≡ Err f
        → Shown m₀ r whole_contents
    contents_refused f r q i = shown_refused m₀ whole_contents r f (contents_is ∙ rw q) i

    module _ (e : Element) (q : x ≡ Ok e) where
      pub contents_deep : level ≡ 0 → Shown m₀ (Err (fault too_many c.at)) whole_contents
      contents_deep z =
          shown_refused m₀ whole_contents _ (fault too_many c.at) (contents_is ∙ rw (q, eq-eqb level 0 z)) refl

      head : Head s c e.body e.next
      head = expect_head sequence_tag s c e (sym p ∙ q)

      pub contents_fits : length s ≤ file_bytes → Fits w64 (k₀.elements + 1)
      unfolding start_count
      contents_fits l = omega (arith, ready.counted, l, head)

      module _ (deep : level ≡ 0 → ⊥) where
        abbrev loop_of : Walked
        loop_of = run step_of (rows_at m₀ (with_count k₀ 1)) e.body

        pub contents_start : Rowing step_of e.body.end loop_of (length m₀) m₀ (with_count k₀ 1) e.body.at
        contents_start =
            rowing_start step_of m₀ (with_count k₀ 1) e.body
            (record {
              held = held_counted m₀ k₀ ready.held 1;
              counted = omega (arith, ready.counted, head.past);
            })

        loop_is : (y : Walked) → loop_of ≡ y → whole_contents ≡ on_walked y Refused (λ st f. Went st e.next)
        loop_is y h = contents_is ∙ rw (q, ne_eqb level 0 deep, ← rows_counted m₀ k₀ ready.held 1, h)

        module _ (m : List ℕ) (k : Counts) (at : ℕ) (g : Rowing step_of e.body.end loop_of (length m₀) m k at) where
          pub contents_end : e.body.end ≤ at → Shown m (Ok (record { counts = k; next = e.next })) whole_contents
          contents_end h =
              shown_went m whole_contents _ g.ready.held (loop_is _ (rowing_end step_of _ _ _ m k at g h))

          -- a turn, whose answer the code holds as y, in the memory m'
          module _ (m' : List ℕ) (l : length m' ≡ length m) (y : Result Progress Fault) (h : at < e.body.end)
              (z : Shown m' y (step_of (rows_at m k) (cursor at e.body.end))) where
            abbrev turn : Walked
            turn = step_of (rows_at m k) (cursor at e.body.end)

            pub bag_stops : (f : Fault) (r : Result Progress Fault) → y ≡ Err f → r ≡ Err f
                → Shown m' r whole_contents
            bag_stops f r i j =
                shown_refused m' whole_contents r f
                (loop_is _ (rowing_refused step_of _ _ _ m k at g f h (walk_refused m' turn y f z i))) j

            module _ (v : Progress) (i : y ≡ Ok v) where
              bag_goes : Past s (cursor at e.body.end) (rows_at m k).count (rows_at m' v.counts).count v.next
              bag_goes = bag_past (level - 1) s _ (rows_at m k) _ _ v.next (walk_went m' turn y v z i)

              pub bag_on : Rowing step_of e.body.end loop_of (length m₀) m' v.counts v.next.at
              bag_on =
                  rowing_on step_of _ _ _ m k at g s _ v.next m' v.counts h (walk_went m' turn y v z i) bag_goes l
                  refl (z.held v i)

              pub bag_less : e.body.end - v.next.at < e.body.end - at
              bag_less = omega (arith, bag_goes.some)
