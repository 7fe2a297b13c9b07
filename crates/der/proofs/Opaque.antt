-- The laws of the opaque check that the code leans on: how far it goes, how many elements it
-- counts, and its loop over siblings.
use mathlib.Core.Bool.{Bool, true, false}
use mathlib.Core.Path.{◌≡◌, refl, sym, ap, ◌∙◌}
use mathlib.Core.List.{List}
use Prim.Native.Nat.{ℕ, zero, suc, ◌+◌, ◌*◌, ◌-◌, ◌/◌, ◌%◌, ◌^◌, ◌≤◌, ◌<◌}
use native.Mathlib.Omega.{arith}
use lib.Dec.{eqb, eqb-suc-zero}
use lib.ListN.{length}
use mir.Val.{Fits}
use mir.Syntax.{w64}
use Rattle.std.specs.Prelude.{if◌then◌else◌}
use borrow.Author.Tests.{eq-eqb, ne_eqb, leb-true}
use Rattle.der.specs.Element.{cursor, fault, element_at, on_element, on_result}
use Rattle.der.specs.Numbers.{missing, too_many}
use Rattle.der.specs.Opaque.{on_checked, counted, go_on, at_end, run, opaque_at, elements_at, number_at, childless}
use Rattle.der.specs.declared.Fault.{Fault}
use Rattle.der.specs.declared.Cursor.{Cursor}
use Rattle.der.specs.Element.{checked}
use Rattle.der.specs.declared.Checked.{Checked}
use Rattle.der.specs.declared.Element.{Element}
use Rattle.std.specs.Prelude.{Err, Ok, Result}
use Rattle.der.proofs.Choices.{by_eq, never}
use Rattle.der.proofs.Placed.{OfElement, element_of_lem, element_missing, by_element}
use Rattle.der.proofs.Many.{many_holds, Going, going_start, going_on, going_end}

-- one element checked: m elements from c on, up to n
pub record Went (s : List ℕ) (c : Cursor) (m : ℕ) (n : Cursor) : Type 0 where
  pub some : 1 ≤ m
  pub long : c.at + 2 * m ≤ n.at
  pub within : n.at ≤ c.end
  pub inside : c.end ≤ length s
  pub end : n.end ≡ c.end

-- a run of elements checked: m elements from c on, up to c's end
pub record Ran (c : Cursor) (m : ℕ) (n : Cursor) : Type 0 where
  pub long : c.at + 2 * m ≤ n.at
  pub stop : c.at ≤ c.end → n.at ≡ c.end
  pub end : n.end ≡ c.end

abbrev OfOpaque : List ℕ → Cursor → Result Checked Fault → Type 0
OfOpaque s c (Err f) = Unit {0}
OfOpaque s c (Ok x) = Went s c x.count x.next

abbrev OfRun : Cursor → Result Checked Fault → Type 0
OfRun c (Err f) = Unit {0}
OfRun c (Ok x) = Ran c x.count x.next

-- what holds of a refusal and of a check that passed holds of what is made of them
pub by_checked : {A : Type 0} (P : A → Type 0) (Q : Result Checked Fault → Type 0) (bad : Fault → A) (good : ℕ → Cursor → A)
    → ((f : Fault) → P (bad f)) → ((m : ℕ) (n : Cursor) → Q (Ok (checked m n)) → P (good m n)) → (x : Result Checked Fault) → Q x
    → P (on_checked x bad good)
by_checked P Q bad good f g (Err e) q = f e
by_checked P Q bad good f g (Ok x) q = g x.count x.next q

-- one step of the loop over siblings: a refusal, or the loop from where the checked element ends
pub by_step : (P : Result Checked Fault → Type 0) (check : Cursor → Result Checked Fault) (end m at : ℕ)
    (k : ℕ → ℕ → Result Checked Fault) (Q : Result Checked Fault → Type 0)
    → ((f : Fault) → P (Err f)) → ((i : ℕ) (n : Cursor) → Q (Ok (checked i n)) → P (k (m + i) n.at))
    → Q (check (cursor at end))
    → P (go_on (counted check end m at) k)
by_step P check end m at k Q f g q = go (check (cursor at end)) q
  where
    go : (x : Result Checked Fault) → Q x → P (go_on (on_checked x Err (λ i n. Ok (checked (m + i) n))) k)
    go (Err e) r = f e
    go (Ok x) r = g x.count x.next r

run_of : (s : List ℕ) (check : Cursor → Result Checked Fault) → ((c : Cursor) → OfOpaque s c (check c))
    → (c : Cursor) → OfRun c (run check c)
unfolding run
run_of s check each c =
    many_holds go_on (at_end c.end) (counted check c.end) c.end (λ m at. OfRun c)
    (λ m at. (c.at + 2 * m ≤ at) × (c.at ≤ c.end → at ≤ c.end))
    (λ m at h i. record { long = i.0; stop = λ l. omega (arith, i.1 l); end = refl })
    (λ m at h i k go.
    by_step (OfRun c) check c.end m at k (OfOpaque s (cursor at c.end)) (λ f. tt)
    (λ j n w. go (m + j) n.at (omega (arith, w.some, w.long)) (omega (arith, w.long, i.0), λ l. w.within))
    (each (cursor at c.end)))
    (c.end - c.at) 0 c.at (omega arith) (omega arith, λ l. l)

opaque_of : (l : ℕ) (s : List ℕ) (c : Cursor) → OfOpaque s c (opaque_at l s c)
unfolding opaque_at
opaque_of zero s c = by_element (OfOpaque s c) (OfElement s c) _ _ (λ f. tt) (λ t b n p. tt)
    (element_at s c) (element_of_lem s c)
opaque_of (suc l) s c =
    by_element (OfOpaque s c) (OfElement s c) _ _ (λ f. tt)
    (λ t b n p.
    by_eq (OfOpaque s c) _ _ (t / 32 % 2) 0
    (λ h. rw p.next record {
      some = omega arith;
      long = omega (arith, p.body.past, p.body.size);
      within = p.body.within;
      inside = p.inside;
      end = refl;
    })
    (λ h.
    by_checked (OfOpaque s c) (OfRun b) _ _ (λ f. tt)
    (λ m e r. rw p.next record {
      some = omega arith;
      long = omega (arith, p.body.past, p.body.size, r.long, r.stop p.body.size);
      within = p.body.within;
      inside = p.inside;
      end = refl;
    })
    (run (opaque_at l s) b) (run_of s (opaque_at l s) (opaque_of l s) b)))
    (element_at s c) (element_of_lem s c)

-- the facts of an element, or of a run of them, that was checked
pub went : (l : ℕ) (s : List ℕ) (c : Cursor) (w : Result Checked Fault) (m : ℕ) (n : Cursor) → w ≡ opaque_at l s c
    → w ≡ Ok (checked m n) → Went s c m n
went l s c w m n p q = rw (sym p ∙ q) at (opaque_of l s c)

pub ran : (l : ℕ) (s : List ℕ) (c : Cursor) (w : Result Checked Fault) (m : ℕ) (n : Cursor) → w ≡ elements_at l s c
    → w ≡ Ok (checked m n) → Ran c m n
unfolding elements_at
ran l s c w m n p q = rw (sym p ∙ q) at (run_of s (opaque_at l s) (opaque_of l s) c)

-- the check by its level as the code has it, which tests the level and takes one from it
abbrev pub opaque_step : ℕ → List ℕ → Cursor → Result Checked Fault
opaque_step l s c =
    on_element (element_at s c)
    Err
    (λ t b n.
    if eqb l 0 then Err (fault too_many c.at) else
    if eqb (t / 32 % 2) 0 then Ok (checked 1 n) else
    on_checked (elements_at (l - 1) s b) Err (λ m e. Ok (checked (m + 1) n)))

pub opaque_step_lem : (l : ℕ) (s : List ℕ) (c : Cursor) (r : Result Checked Fault) → r ≡ opaque_step l s c → r ≡ opaque_at l s c
unfolding opaque_at elements_at
opaque_step_lem zero s c r e = e
opaque_step_lem (suc l) s c r e =
    let d : suc l - 1 ≡ l = omega arith in
    e ∙ simp (eqb-suc-zero, d)

-- a refusal is no value, and a value is one
never_ok : {A T : Type 0} {f : Fault} {y : T} → Err f ≡ Ok y → A
never_ok e = never (ap (λ x. on_result x (λ g. false) (λ z. true)) e)

err_fault : {f g : Fault} → ◌≡◌ {A = Result ℕ Fault} (Err f) (Err g) → f ≡ g
err_fault {f} e = ap (λ x. on_result x (λ h. h) (λ z. f)) e

ok_value : {m k : ℕ} → ◌≡◌ {A = Result ℕ Fault} (Ok m) (Ok k) → m ≡ k
ok_value e = ap (λ x. on_result x (λ g. 0) (λ z. z)) e

same_check : {m : ℕ} {y : Checked} {a : ℕ} → m ≡ y.count → y.next.at ≡ a → y.next.end ≡ a
    → ◌≡◌ {A = Result Checked Fault} (Ok (checked m (cursor a a))) (Ok y)
same_check p q r = λ k. Ok (checked (p k) (record { at = sym q k; end = sym r k }))

-- one element's check, from what was found at the cursor
module _ (l : ℕ) (s : List ℕ) (c : Cursor) (x : Result Element Fault) (p : x ≡ element_at s c) where
  pub element_refused : (f : Fault) → x ≡ Err f → Err f ≡ opaque_at l s c
  element_refused f q = opaque_step_lem l s c _ (rw (sym p ∙ q) refl)

  module _ (e : Element) (q : x ≡ Ok e) where
    pub element_deep : l ≡ 0 → Err (fault too_many c.at) ≡ opaque_at l s c
    element_deep z = opaque_step_lem l s c _ (rw (sym p ∙ q, eq-eqb l 0 z) refl)

    module _ (n : l ≡ 0 → ⊥) where
      pub element_leaf : e.tag / 32 % 2 ≡ 0 → Ok (checked 1 e.next) ≡ opaque_at l s c
      element_leaf z = opaque_step_lem l s c _ (rw (sym p ∙ q, ne_eqb l 0 n, eq-eqb (e.tag / 32 % 2) 0 z) refl)

      module _ (t : e.tag / 32 % 2 ≡ 0 → ⊥) where
        nested : on_checked (elements_at (l - 1) s e.body) Err (λ m k. Ok (checked (m + 1) e.next)) ≡ opaque_at l s c
        nested = opaque_step_lem l s c _ (rw (sym p ∙ q, ne_eqb l 0 n, ne_eqb (e.tag / 32 % 2) 0 t) refl)

        module _ (w : Result ℕ Fault) (b : w ≡ number_at (l - 1) s e.body) where
          pub body_refused : (f : Fault) → w ≡ Err f → Err f ≡ opaque_at l s c
          body_refused f r = go (elements_at (l - 1) s e.body) refl
            where
              go : (y : Result Checked Fault) → elements_at (l - 1) s e.body ≡ y → Err f ≡ opaque_at l s c
              go (Err g) d = rw (err_fault (sym r ∙ rw d at b)) (rw d at nested)
              go (Ok y) d = never_ok (sym r ∙ rw d at b)

          pub body_counted : (m : ℕ) → w ≡ Ok m → Ok (checked (m + 1) e.next) ≡ opaque_at l s c
          body_counted m r = go (elements_at (l - 1) s e.body) refl
            where
              go : (y : Result Checked Fault) → elements_at (l - 1) s e.body ≡ y
                  → Ok (checked (m + 1) e.next) ≡ opaque_at l s c
              go (Err g) d = never_ok (sym (sym r ∙ rw d at b))
              go (Ok y) d = rw (ok_value (sym r ∙ rw d at b)) (rw d at nested)

-- the loop over siblings in the code: its invariant, what it begins with, its two ways out and its
-- turn
pub record Running (l : ℕ) (s : List ℕ) (end : ℕ) (whole : Result Checked Fault) (m at : ℕ) : Type 0 where
  pub going : Going go_on (at_end end) (counted (opaque_at l s) end) end whole m at

pub running_start : (l : ℕ) (s : List ℕ) (c : Cursor) → Running l s c.end (elements_at l s c) 0 c.at
unfolding elements_at run
running_start l s c = record { going = going_start _ _ _ c.end 0 c.at }

module _ (l : ℕ) (s : List ℕ) (end : ℕ) (whole : Result Checked Fault) (m at : ℕ) where
  pub running_end : Running l s end whole m at → end ≤ at → Ok (checked m (cursor at end)) ≡ whole
  running_end g h = going_end _ _ _ end whole m at g.going h

  pub running_refused : (w : Result Checked Fault) (f : Fault) → Running l s end whole m at → at < end
      → w ≡ opaque_at l s (cursor at end)
      → w ≡ Err f → Err f ≡ whole
  running_refused w f g h p q = sym ((going_on _ _ _ end whole m at g.going h).rest ∙ rw (sym p ∙ q))

  pub running_on : (w : Result Checked Fault) (x : Checked) → Running l s end whole m at → at < end
      → w ≡ opaque_at l s (cursor at end)
      → w ≡ Ok x → Running l s end whole (m + x.count) x.next.at
  running_on w x g h p q =
      let o = going_on _ _ _ end whole m at g.going h in
      let v = went l s (cursor at end) w x.count x.next p q in
      record {
        going = record {
          fuel = o.fuel;
          enough = omega (arith, o.enough, v.some, v.long);
          rest = o.rest ∙ rw (sym p ∙ q);
        };
      }

-- the number of elements that were checked fits 64 bits
pub body_fits : (l : ℕ) (s : List ℕ) (c : Cursor) (k : ℕ) (n : Cursor) → Ok (checked k n) ≡ opaque_at l s c
    → length s < 2 ^ 64 → Fits w64 k
body_fits l s c k n p z = let v = went l s c (Ok (checked k n)) k n p refl in omega (arith, v.long, v.within, v.inside)

-- The code's loop counts them: what it keeps, what it begins with, and how it ends.
pub record Numbering (l : ℕ) (s : List ℕ) (from end m at : ℕ) : Type 0 where
  pub running : Running l s end (elements_at l s (cursor from end)) m at
  pub long : from + 2 * m ≤ at

pub numbering_start : (l : ℕ) (s : List ℕ) (from end : ℕ) → Numbering l s from end 0 from
numbering_start l s from end = record { running = running_start l s (cursor from end); long = omega arith }

abbrev numbered : Result Checked Fault → Result ℕ Fault
numbered x = on_result x Err (λ k. Ok k.count)

module _ (l : ℕ) (s : List ℕ) (from end m at : ℕ) (g : Numbering l s from end m at) where
  pub numbering_end : end ≤ at → Ok m ≡ number_at l s (cursor from end)
  numbering_end h = ap numbered (running_end l s end _ m at g.running h)

  module _ (h : at < end) where
    pub numbering_refused : (f : Fault) → Err f ≡ opaque_at l s (cursor at end) → Err f ≡ number_at l s (cursor from end)
    numbering_refused f p = ap numbered (running_refused l s end _ m at (Err f) f g.running h p refl)

    module _ (k : ℕ) (n : Cursor) (p : Ok (checked k n) ≡ opaque_at l s (cursor at end)) where
      gone : Went s (cursor at end) k n
      gone = went l s (cursor at end) (Ok (checked k n)) k n p refl

      pub numbering_on : Numbering l s from end (m + k) n.at
      numbering_on =
          record {
            running = running_on l s end _ m at (Ok (checked k n)) (checked k n) g.running h p refl;
            long = omega (arith, g.long, gone.long);
          }

      pub numbering_falls : end - n.at < end - at
      numbering_falls = omega (arith, gone.some, gone.long)

      pub numbering_fits : length s < 2 ^ 64 → Fits w64 (m + k)
      numbering_fits z = omega (arith, g.long, gone.long, gone.within, gone.inside)

-- The check of a run by the number of its elements: none where the cursor is at its end, and 1 at the
-- end of a parent that is longer than the bytes.
pub elements_none : (l : ℕ) (s : List ℕ) (c : Cursor) → c.end ≤ c.at → Ok (checked 0 c) ≡ elements_at l s c
elements_none l s c h = running_end l s c.end _ 0 c.at (running_start l s c) h

pub elements_missing : (l : ℕ) (s : List ℕ) (c : Cursor) → c.at < c.end → length s < c.end
    → Err (fault missing c.end) ≡ elements_at l s c
elements_missing l s c h k =
    running_refused l s c.end _ 0 c.at _ (fault missing c.end) (running_start l s c) h
    (element_refused l s c (element_at s c) refl (fault missing c.end) (element_missing s c k)) refl

module _ (l : ℕ) (s : List ℕ) (c : Cursor) (w : Result ℕ Fault) (b : w ≡ number_at l s c) where
  pub elements_refused : (f : Fault) → w ≡ Err f → Err f ≡ elements_at l s c
  elements_refused f r = go (elements_at l s c) refl
    where
      go : (y : Result Checked Fault) → elements_at l s c ≡ y → Err f ≡ elements_at l s c
      go (Err g) d = rw (err_fault (sym r ∙ rw d at b)) (sym d)
      go (Ok y) d = never_ok (sym r ∙ rw d at b)

  pub elements_counted : (m : ℕ) → w ≡ Ok m → c.at < c.end → Ok (checked m (cursor c.end c.end)) ≡ elements_at l s c
  elements_counted m r h = go (elements_at l s c) refl
    where
      go : (y : Result Checked Fault) → elements_at l s c ≡ y → Ok (checked m (cursor c.end c.end)) ≡ elements_at l s c
      go (Err g) d = never_ok (sym (sym r ∙ rw d at b))
      go (Ok y) d =
          let o = ran l s c _ y.count y.next refl d in
          same_check (ok_value (sym r ∙ rw d at b)) (o.stop (omega arith)) o.end ∙ sym d

-- an element with nothing below it, and one with something, as the code tests that
module _ (l : ℕ) (s : List ℕ) (c : Cursor) (x : Result Element Fault) (p : x ≡ element_at s c) (e : Element)
    (q : x ≡ Ok e) (n : l ≡ 0 → ⊥) where
  bare : childless e ≡ true → Ok (checked 1 e.next) ≡ opaque_at l s c
  unfolding childless
  bare =
      by_eq (λ u. u ≡ true → Ok (checked 1 e.next) ≡ opaque_at l s c) _ _ (e.tag / 32 % 2) 0
      (λ z h. element_leaf l s c x p e q n z)
      (λ t h.
      body_counted l s c x p e q n t (Ok 0)
      (ap numbered (elements_none (l - 1) s e.body (leb-true e.body.end e.body.at h))) 0 refl)

  below : childless e ≡ false → e.tag / 32 % 2 ≡ 0 → ⊥
  unfolding childless
  below h z = never (sym (rw (eq-eqb (e.tag / 32 % 2) 0 z) at h))

  module _ (u : Bool) (a : u ≡ childless e) where
    pub childless_counted : u ≡ true → Ok (checked 1 e.next) ≡ opaque_at l s c
    childless_counted h = bare (sym a ∙ h)

    module _ (h : u ≡ false) (w : Result ℕ Fault) (b : w ≡ number_at (l - 1) s e.body) where
      pub below_refused : (f : Fault) → w ≡ Err f → Err f ≡ opaque_at l s c
      below_refused = body_refused l s c x p e q n (below (sym a ∙ h)) w b

      pub below_counted : (m : ℕ) → w ≡ Ok m → Ok (checked (m + 1) e.next) ≡ opaque_at l s c
      below_counted = body_counted l s c x p e q n (below (sym a ∙ h)) w b
