-- The ways out of the calls: fewer cells than an upload takes, or the upload that they hold.
use mathlib.Core.Path.{◌≡◌, refl, sym, ap, ◌∙◌}
use mathlib.Core.List.{List, [], ◌∷◌, ◌++◌, append_assoc}
use Prim.Native.Nat.{ℕ, ◌%◌, ◌≤◌, ◌<◌}
use lib.ListN.{length, drop, take, length-take}
use native.Mathlib.Omega.{arith}
use lib.Seq.{take_at, drop_at, drop-drop}
use borrow.Rule.Slice.PartMut.{put_mid}
use Rattle.der.specs.Element.{fault}
use Rattle.der.proofs.Choices.{at_lt, at_not_lt}
use Rattle.buffer.specs.Numbers.{short_buffer, not_sound}
use Rattle.stream.specs.declared.Upload.{Upload}
use Rattle.std.specs.Prelude.{Err, Result, ⊤}
use Rattle.stream.specs.declared.Counts.{Counts}
use Rattle.stream.specs.declared.Refusal.{Refusal}
use Rattle.stream.specs.Upload.{refusal, begun, taken, status_of, ended}
use Rattle.cells.specs.declared.Plain.{Plain}
use Rattle.cells.specs.Cells.{upload_length, end_count, ends_at, plain_of, cells_of, due_of}
use Rattle.cells.specs.Cells.{cell_at, plain_in, ends_in, upload_in}
use Rattle.cells.specs.Cells.{Outcome, refused_by, leaving, storing, begun_in, taken_in, status_in, end_in}

-- each field is what the cells have of it
pub upload_read : (s : List ℕ) (u : Upload) (p : Plain) → p ≡ plain_in s → u.due ≡ due_of p → u.total ≡ cell_at s 1
    → u.depth ≡ cell_at s 6 % 256 → u.elements ≡ cell_at s 7 → u.level ≡ cell_at s 8 % 256 → u.ends ≡ ends_in s
    → u ≡ upload_in s
unfolding upload_in
upload_read s u p e d total depth elements level ends =
    let due : u.due ≡ due_of (plain_in s) = d ∙ ap due_of e in
    λ k. record {
      total = total k;
      due = due k;
      ends = ends k;
      depth = depth k;
      elements = elements k;
      level = level k;
    }

-- the cells before the ends
abbrev front : Plain → Upload → List ℕ
front p u =
    p.kind ∷ u.total ∷ p.at ∷ p.tag ∷ p.low ∷ p.high ∷ u.depth ∷ u.elements ∷ u.level ∷ []

-- nine cells at the front, then twenty behind them
front_then : (f e s : List ℕ) → length f ≡ ends_at
    → put_mid ends_at end_count (f ++ drop ends_at s) e ≡ (f ++ e) ++ drop upload_length s
front_then f e s l =
    let rest = drop ends_at s in
    let behind : drop end_count (drop ends_at (f ++ rest)) ≡ drop upload_length s =
    ap (drop end_count) (drop_at f rest ends_at l) ∙ drop-drop end_count ends_at s in
    rw (take_at f rest ends_at l, behind) (sym (append_assoc f e (drop upload_length s)))

-- an upload at the front of cells
pub stored_cells : (s : List ℕ) (u : Upload) (p : Plain) (f e : List ℕ) → p ≡ plain_of u.due → f ≡ front p u
    → e ≡ u.ends → put_mid ends_at end_count (f ++ drop ends_at s) e ≡ cells_of u ++ drop upload_length s
unfolding cells_of
stored_cells s u p f e q i j = rw (i, j, q) (front_then (front (plain_of u.due) u) u.ends s refl)

-- these cells at the front of a caller's
pub stored_front : (s : List ℕ) (u : Upload) (x z : List ℕ) → x ≡ cells_of u → z ≡ x
    → z ++ drop upload_length s ≡ cells_of u ++ drop upload_length s
stored_front s u x z p q = ap (λ (y : List ℕ). y ++ drop upload_length s) (q ∙ p)

-- they are as many as those that they replace
pub as_many : (s x : List ℕ) → upload_length ≤ length s → length x ≡ upload_length → length (take upload_length s) ≡ length x
as_many s x h e = omega (arith, length-take upload_length s)

-- what a call leaves is this
abbrev Leaves : Outcome → Result ⊤ Refusal → List ℕ → Type 0
Leaves o r e = (r ≡ o.answer) × (e ≡ o.cells)

leaves_all : (o p : Outcome) → p ≡ o → Leaves o p.answer p.cells
leaves_all o p e = (ap (λ (x : Outcome). x.answer) e, ap (λ (x : Outcome). x.cells) e)

-- the answer of fewer cells, and of an upload that was stored
module _ (s : List ℕ) (o : Outcome) (r : Result ⊤ Refusal) where
  few_leaves : (n : ℕ) → r ≡ refused_by n → leaving n s ≡ o → Leaves o r s
  few_leaves n p e = let g = leaves_all o (leaving n s) e in (p ∙ g.0, g.1)

  stored_leaves : (u v : Upload) → u ≡ v → storing v s ≡ o → r ≡ status_of u → (e : List ℕ)
      → e ≡ cells_of u ++ drop upload_length s → Leaves o r e
  stored_leaves u v i f p e w =
      let g = leaves_all o (storing u s) (ap (λ (x : Upload). storing x s) i ∙ f) in
      (p ∙ g.0, w ∙ g.1)

-- ---- a length is announced

module _ (n : ℕ) (s : List ℕ) (r : Result ⊤ Refusal) where
  pub begin_few : length s < upload_length → r ≡ refused_by short_buffer → Leaves (begun_in n s) r s
  unfolding begun_in
  begin_few h p = few_leaves s (begun_in n s) r short_buffer p (at_lt _ _ _ _ _ h refl)

  pub begin_stored : upload_length ≤ length s → (u : Upload) → u ≡ begun n → r ≡ status_of u → (e : List ℕ)
      → e ≡ cells_of u ++ drop upload_length s → Leaves (begun_in n s) r e
  unfolding begun_in
  begin_stored h u i p = stored_leaves s (begun_in n s) r u (begun n) i (at_not_lt _ _ _ _ _ h refl) p

-- ---- a portion arrives

module _ (s portion : List ℕ) (r : Result ⊤ Refusal) where
  pub take_few : length s < upload_length → r ≡ refused_by not_sound → Leaves (taken_in s portion) r s
  unfolding taken_in
  take_few h p = few_leaves s (taken_in s portion) r not_sound p (at_lt _ _ _ _ _ h refl)

  pub take_stored : upload_length ≤ length s → (v u : Upload) → v ≡ upload_in s → u ≡ taken v portion
      → r ≡ status_of u → (e : List ℕ) → e ≡ cells_of u ++ drop upload_length s → Leaves (taken_in s portion) r e
  unfolding taken_in
  take_stored h v u i j p =
      stored_leaves s (taken_in s portion) r u (taken (upload_in s) portion)
      (j ∙ ap (λ (x : Upload). taken x portion) i)
      (at_not_lt _ _ _ _ _ h refl) p

-- ---- the status, and the answer at the end

module _ (s : List ℕ) where
  pub status_few : (r : Result ⊤ Refusal) → length s < upload_length → r ≡ refused_by not_sound → r ≡ status_in s
  unfolding status_in
  status_few r h p = at_lt _ _ _ _ _ h p

  pub status_held : (r : Result ⊤ Refusal) (u : Upload) → upload_length ≤ length s → u ≡ upload_in s → r ≡ status_of u
      → r ≡ status_in s
  unfolding status_in
  status_held r u h i p = at_not_lt _ _ _ _ _ h (p ∙ ap (λ (x : Upload). status_of x) i)

  pub end_few : (r : Result Counts Refusal) → length s < upload_length → r ≡ Err (refusal (fault not_sound 0) 0)
      → r ≡ end_in s
  unfolding end_in
  end_few r h p = at_lt _ _ _ _ _ h p

  pub end_held : (r : Result Counts Refusal) (u : Upload) → upload_length ≤ length s → u ≡ upload_in s → r ≡ ended u
      → r ≡ end_in s
  unfolding end_in
  end_held r u h i p = at_not_lt _ _ _ _ _ h (p ∙ ap ended i)
