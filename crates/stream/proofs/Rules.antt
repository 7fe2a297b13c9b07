-- Rules by which the code follows the definitions: w is what the code matched on.
use mathlib.Core.Path.{◌≡◌, refl, sym, ap, ◌∙◌}
use mathlib.Core.Bool.{Bool}
use mathlib.Core.List.{List}
use Prim.Native.Nat.{ℕ, zero, suc, ◌+◌, ◌-◌, ◌/◌, ◌%◌, ◌≤◌, ◌<◌, min}
use native.Mathlib.Omega.{arith}
use lib.Dec.{ltb, leb}
use lib.ListN.{length, set}
use borrow.Author.Tests.{lt-ltb, le-ltb, lt-leb, eq-eqb, ne_eqb}
use Rattle.std.specs.Borrow.{Bor}
use Rattle.std.specs.Slice.{IsItemAt}
use Rattle.std.specs.Prelude.{if◌then◌else◌}
use Rattle.std.specs.Prelude.{Option, None, Some, option_copied, unwrap_or}
use Rattle.std.specs.Prelude.{Err, IsErr, IsErrAnd, Ok, Result, ⊤}
use Rattle.der.proofs.Choices.{at_lt, at_not_lt, either, never}
use Rattle.der.specs.declared.Fault.{Fault}
use Rattle.header.specs.Numbers.{upload_levels}
use Rattle.header.specs.Header.{moved}
use Rattle.header.specs.declared.Due.{Due}
use Rattle.header.specs.declared.Due.TheVariants.{Tag, Length, One, First, Second, Body, Nothing}
use Rattle.header.specs.declared.Move.{Move}
use Rattle.stream.specs.declared.Upload.{Upload}
use Rattle.stream.specs.declared.Refusal.{Refusal}
use Rattle.stream.specs.Upload.{end_at, parent_end, still_open, closed_to, closed_at, body_before}
use Rattle.stream.specs.Upload.{body_from, one_more, counted, entered, applied, stepped, on_status}
use Rattle.stream.specs.Bulk.{bulk_of}

-- the end of the parent
module _ (total : ℕ) (ends : List ℕ) (k r : ℕ) where
  pub parent_none : k ≡ 0 → r ≡ total → r ≡ parent_end total ends k
  unfolding parent_end
  parent_none h e = rw h e

  pub parent_some : (k ≡ 0 → ⊥) → r ≡ end_at ends (k - 1) → r ≡ parent_end total ends k
  unfolding parent_end
  parent_some h e = go k h e
    where
      go : (j : ℕ) → (j ≡ 0 → ⊥) → r ≡ end_at ends (j - 1) → r ≡ parent_end total ends j
      go zero i q = absurd (i refl)
      go (suc j) i q = let z : suc j - 1 ≡ j = omega arith in rw z at q

-- where an open element ends: what is at its index, if anything is
pub end_read : (ends : List ℕ) (i : ℕ) (o : Option (Bor ℕ)) → length ends ≡ 20 → IsItemAt ends i o
    → unwrap_or (option_copied o) 0 ≡ end_at ends i
unfolding end_at
end_read ends i None l h = at_not_lt i 20 _ _ _ (omega (arith, l, h.3)) refl
end_read ends i (Some x) l h = at_lt i 20 _ _ _ (omega (arith, l, h.3.0)) (h.3.1 0)

-- the loop over the open elements, from the innermost on
module _ (ends : List ℕ) (p : ℕ) where
  still_some : (k : ℕ) → 0 < k
      → still_open ends k p ≡ (if ltb p (end_at ends (k - 1)) then k else still_open ends (k - 1) p)
  unfolding still_open
  still_some zero h = absurd (omega arith)
  still_some (suc k) h = let z : suc k - 1 ≡ k = omega arith in rw z

  pub still_stop : (k : ℕ) → 0 < k → p < end_at ends (k - 1) → k ≡ still_open ends k p
  still_stop k h l = rw (still_some k h, lt-ltb p (end_at ends (k - 1)) l)

  pub still_turn : (k : ℕ) → 0 < k → end_at ends (k - 1) ≤ p → still_open ends (k - 1) p ≡ still_open ends k p
  still_turn k h l = rw (still_some k h, le-ltb p (end_at ends (k - 1)) l)

  pub still_end : (k : ℕ) → k ≤ 0 → k ≡ still_open ends k p
  unfolding still_open
  still_end zero h = refl
  still_end (suc k) h = absurd (omega arith)

-- by cases of what is due
module _ (w : Due) where
  pub bulk_body : (r left k at e : ℕ) → w ≡ Body at e → k ≡ e - at → r ≡ min left k → r ≡ bulk_of w left
  unfolding bulk_of
  bulk_body r left k at e p o q = rw p (q ∙ (ap (min left) o ∙ few))
    where
      few : min left (e - at) ≡ (if ltb at e then (if ltb left (e - at) then left else e - at) else 0)
      few =
          either at e
          (λ h. at_lt at e _ _ _ h
          (either left (e - at)
          (λ i. at_lt left (e - at) _ _ _ i (omega arith))
          (λ i. at_not_lt left (e - at) _ _ _ i (omega arith))))
          (λ h. at_not_lt at e _ _ _ h (omega arith))

-- what is neither a body nor a fault
pub bulk_none : (w : Due) (left : ℕ) → ((at e : ℕ) → w ≡ Body at e → ⊥)
    → ((n o after : ℕ) → w ≡ Due.Refused n o after → ⊥) → 0 ≡ bulk_of w left
unfolding bulk_of
bulk_none (Tag at) left f g = refl
bulk_none (Length at t) left f g = refl
bulk_none (One at t) left f g = refl
bulk_none (First at t) left f g = refl
bulk_none (Second at t h) left f g = refl
bulk_none (Body at e) left f g = absurd (f at e refl)
bulk_none Nothing left f g = refl
bulk_none (Due.Refused n o after) left f g = absurd (g n o after refl)

-- one element more, up to the greatest number
pub one_more_least : (n : ℕ) → n ≤ 65_535 → min (n + 1) 65_535 ≡ one_more n
unfolding one_more
one_more_least n h =
    either n 65_535
    (λ i. at_lt n 65_535 _ _ _ i (omega arith))
    (λ i. at_not_lt n 65_535 _ _ _ i (omega arith))

-- by cases of a status
module _ {A : Type 0} (v w : Result ⊤ Refusal) (r none : A) (refused : Fault → ℕ → A) where
  pub on_none : w ≡ v → w ≡ Ok tt → r ≡ none → r ≡ on_status v none refused
  on_none p q e = rw (sym p ∙ q) e

  pub on_refused : (x : Refusal) → w ≡ v → w ≡ Err x → r ≡ refused x.fault x.after → r ≡ on_status v none refused
  on_refused x p q e = rw (sym p ∙ q) e

-- what `?` returns for a fault: the same one
pub kept : {A : Type 0} (r : Result A Refusal) (x : Refusal) → IsErr r × IsErrAnd r (λ y. y ≡ x) → r ≡ Err x
kept (Ok y) x h = never h.0
kept (Err y) x h = ap Err h.1

-- what a callee returned, for what the definition has
module _ (u r : Upload) where
  pub closed_to_lem : (p after k : ℕ) → k ≡ still_open u.ends u.depth p → r ≡ closed_to u p after k
      → r ≡ closed_at u p after
  unfolding closed_at
  closed_to_lem p after k q e = rw (sym q) e

  pub body_before_lem : (start stop : ℕ) (v : Upload) → v ≡ closed_at u stop start → r ≡ body_before u start stop v
      → r ≡ body_from u start stop
  unfolding body_from
  body_before_lem start stop v q e = rw (sym q) e

  pub entered_body : (at t start stop : ℕ) (v : Upload) → u.depth < upload_levels → t / 0x20 % 2 ≡ 0
      → v ≡ counted u (u.depth + 1) → r ≡ body_from v start stop → r ≡ entered u at t start stop
  unfolding entered
  entered_body at t start stop v d k q e =
      rw (lt-leb upload_levels u.depth d, eq-eqb (t / 0x20 % 2) 0 k, sym q) e

  abbrev opened : Upload → ℕ → Upload
  opened v stop =
      record {
        total = v.total;
        due = v.due;
        ends = set v.ends u.depth stop;
        depth = u.depth + 1;
        elements = v.elements;
        level = v.level;
      }

  pub entered_open : (at t start stop : ℕ) (v : Upload) → u.depth < upload_levels → (t / 0x20 % 2 ≡ 0 → ⊥)
      → v ≡ counted u (u.depth + 1) → r ≡ closed_at (opened v stop) start start → r ≡ entered u at t start stop
  unfolding entered
  entered_open at t start stop v d k q e =
      rw (lt-leb upload_levels u.depth d, ne_eqb (t / 0x20 % 2) 0 k) (rw q at e)

-- one byte
module _ (u r : Upload) (m : Move) where
  pub stepped_by : (b end : ℕ) (deep : Bool) → end ≡ parent_end u.total u.ends u.depth
      → deep ≡ leb upload_levels u.depth → m ≡ moved u.due b end deep → r ≡ applied u m → r ≡ stepped u b
  unfolding stepped
  stepped_by b end deep p q s e = rw (sym p, sym q, sym s) e
