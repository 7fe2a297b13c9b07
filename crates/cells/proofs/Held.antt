-- What the calls leave in the cells is what the calls after them take: the calls on cells come to
-- those of `stream` on the upload itself, however the bytes are cut.
use mathlib.Core.Path.{◌≡◌, refl, sym, ap, ◌∙◌}
use mathlib.Core.List.{List, [], ◌∷◌, ◌++◌}
use Prim.Native.Nat.{ℕ, zero, suc, ◌≤◌, ◌<◌}
use native.Mathlib.Omega.{arith}
use lib.ListN.{length, take, drop, length-append, length-take, length-drop}
use lib.Seq.{drop_at}
use Rattle.der.specs.Named.{Each}
use Rattle.der.specs.Span.{Bytes}
use Rattle.der.proofs.Choices.{at_lt, at_not_lt, by_eq, either}
use Rattle.buffer.specs.Numbers.{not_sound}
use Rattle.stream.specs.declared.Upload.{Upload}
use Rattle.stream.specs.Upload.{begun, taken, status_of, ended}
use Rattle.stream.proofs.Taken.{taken_append}
use Rattle.cells.specs.declared.Plain.{Plain}
use Rattle.cells.specs.Cells.{upload_length, end_count, ends_at, cells_of, refusal_of, due_of, plain_in, upload_in}
use Rattle.cells.specs.Cells.{Outcome, leaving, storing, begun_in, taken_in, status_in, end_in}
use Rattle.cells.specs.Fitting.{Short, DueFits, Fitting}
use Rattle.cells.proofs.Back.{read_back}
use Rattle.cells.proofs.Fitting.{each_at, taken_fits, begun_fits}

-- ---- cells of 16 bits hold an upload that fits

each_take : (n : ℕ) (s : List ℕ) → Each Short s → Each Short (take n s)
unfolding Each
each_take zero [] e = tt
each_take zero (x ∷ s) e = tt
each_take (suc n) [] e = tt
each_take (suc n) (x ∷ s) e = (e.0, each_take n s e.1)

each_drop : (n : ℕ) (s : List ℕ) → Each Short s → Each Short (drop n s)
unfolding Each
each_drop zero s e = e
each_drop (suc n) [] e = tt
each_drop (suc n) (x ∷ s) e = each_drop n s e.1

module _ (p : Plain) (a : Short p.at) (t : Short p.tag) (l : Short p.low) (h : Short p.high) where
  refusal_fits : DueFits (refusal_of p)
  unfolding refusal_of
  refusal_fits =
      by_eq DueFits _ _ p.kind 8
      (λ i. (omega arith, (a, omega arith)))
      (λ i. (omega arith, (omega arith, omega arith)))

  due_fits : DueFits (due_of p)
  unfolding due_of
  due_fits =
      by_eq DueFits _ _ p.kind 1 (λ i. a)
      (λ i. by_eq DueFits _ _ p.kind 2 (λ j. (a, omega arith))
      (λ j. by_eq DueFits _ _ p.kind 3 (λ k. (a, omega arith))
      (λ k. by_eq DueFits _ _ p.kind 4 (λ m. (a, omega arith))
      (λ m. by_eq DueFits _ _ p.kind 5 (λ n. (a, (omega arith, omega arith)))
      (λ n. by_eq DueFits _ _ p.kind 6 (λ q. (a, l))
      (λ q. by_eq DueFits _ _ p.kind 7 (λ r. tt) (λ r. refusal_fits)))))))

pub held_fits : (s : List ℕ) → upload_length ≤ length s → Each Short s → Fitting (upload_in s)
unfolding upload_in plain_in
held_fits s h e =
    record {
      total = each_at s 1 e;
      due = due_fits (plain_in s) (each_at s 2 e) (each_at s 3 e) (each_at s 4 e) (each_at s 5 e);
      depth = omega arith;
      elements = each_at s 7 e;
      level = omega arith;
      ends = each_take end_count (drop ends_at s) (each_drop ends_at s e);
      twenty = omega (arith, length-take end_count (drop ends_at s), length-drop ends_at s);
    }

-- ---- an upload that was stored

module _ (u : Upload) (f : Fitting u) (s : List ℕ) where
  abbrev after : List ℕ
  after = (storing u s).cells

  cells_count : length (cells_of u) ≡ upload_length
  unfolding cells_of
  cells_count = omega (arith, f.twenty)

  still_enough : upload_length ≤ length after
  still_enough = omega (arith, length-append (cells_of u) (drop upload_length s), cells_count)

  behind : drop upload_length after ≡ drop upload_length s
  behind = drop_at (cells_of u) (drop upload_length s) upload_length cells_count

  pub stored_held : upload_in after ≡ u
  stored_held = read_back u f (drop upload_length s)

  pub stored_status : status_in after ≡ status_of u
  unfolding status_in
  stored_status = sym (at_not_lt _ _ _ _ _ still_enough (ap (λ (x : Upload). status_of x) (sym stored_held)))

  pub stored_end : end_in after ≡ ended u
  unfolding end_in
  stored_end = sym (at_not_lt _ _ _ _ _ still_enough (ap ended (sym stored_held)))

  pub stored_taken : (p : List ℕ) → taken_in after p ≡ storing (taken u p) s
  unfolding taken_in
  stored_taken p =
      sym (at_not_lt _ _ _ _ _ still_enough (sym (ap (λ (x : Upload). storing (taken x p) after) stored_held ∙ moved)))
    where
      moved : storing (taken u p) after ≡ storing (taken u p) s
      moved = λ k. record { answer = status_of (taken u p); cells = cells_of (taken u p) ++ behind k }

-- ---- the calls one after another

pub begun_is : (n : ℕ) (s : List ℕ) → upload_length ≤ length s → begun_in n s ≡ storing (begun n) s
unfolding begun_in
begun_is n s h = sym (at_not_lt _ _ _ _ _ h refl)

pub taken_is : (s p : List ℕ) → upload_length ≤ length s → taken_in s p ≡ storing (taken (upload_in s) p) s
unfolding taken_in
taken_is s p h = sym (at_not_lt _ _ _ _ _ h refl)

taken_few : (s p : List ℕ) → length s < upload_length → taken_in s p ≡ leaving not_sound s
unfolding taken_in
taken_few s p h = sym (at_lt _ _ _ _ _ h refl)

pub begun_taken : (n : ℕ) (s p : List ℕ) → upload_length ≤ length s
    → taken_in (begun_in n s).cells p ≡ storing (taken (begun n) p) s
begun_taken n s p h =
    ap (λ (o : Outcome). taken_in o.cells p) (begun_is n s h) ∙ stored_taken (begun n) (begun_fits n) s p

pub portions : (s p q : List ℕ) → Each Short s → Bytes p → taken_in (taken_in s p).cells q ≡ taken_in s (p ++ q)
portions s p q e b =
    either (length s) upload_length
    (λ h. ap (λ (o : Outcome). taken_in o.cells q) (taken_few s p h)
    ∙ (taken_few s q h ∙ sym (taken_few s (p ++ q) h)))
    (λ h. ap (λ (o : Outcome). taken_in o.cells q) (taken_is s p h)
    ∙ (stored_taken (taken (upload_in s) p) (taken_fits (upload_in s) p (held_fits s h e) b) s q
    ∙ (ap (λ (u : Upload). storing u s) (sym (taken_append (upload_in s) p q)) ∙ sym (taken_is s (p ++ q) h))))
