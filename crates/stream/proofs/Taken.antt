-- Bytes that don't matter are passed at once: those of a body that isn't examined, and all after a
-- fault.
use mathlib.Core.Path.{◌≡◌, refl, sym, ap, ◌∙◌}
use mathlib.Core.List.{List, [], ◌∷◌, ◌++◌}
use Prim.Native.Nat.{ℕ, zero, suc, ◌+◌, ◌-◌, ◌≤◌, ◌<◌}
use native.Mathlib.Omega.{arith}
use lib.Dec.{leb}
use lib.ListN.{length, get_or, drop, length-drop, drop_of_length-le}
use lib.Seq.{drop-cons, drop-drop}
use borrow.Author.Tests.{lt-ltb}
use Rattle.der.proofs.Choices.{by_lt}
use Rattle.header.specs.Numbers.{upload_levels}
use Rattle.header.specs.Header.{moved}
use Rattle.header.specs.declared.Due.{Due}
use Rattle.header.specs.declared.Due.TheVariants.{Tag, Length, One, First, Second, Body, Nothing}
use Rattle.stream.specs.declared.Upload.{Upload}
use Rattle.stream.specs.Upload.{parent_end, with_due, closed_at, closed_to, passed, applied, stepped, taken}
use Rattle.stream.specs.Bulk.{bulk_of, skipped}

-- a byte by what is due
pub stepped_on : (u : Upload) (x : Due) (b : ℕ) → u.due ≡ x
    → stepped u b ≡ applied u (moved x b (parent_end u.total u.ends u.depth) (leb upload_levels u.depth))
unfolding stepped
stepped_on u x b e =
    ap (λ y. applied u (moved y b (parent_end u.total u.ends u.depth) (leb upload_levels u.depth))) e

pub taken_cons : (u v : Upload) (b : ℕ) (s : List ℕ) → stepped u b ≡ v → taken u (b ∷ s) ≡ taken v s
unfolding taken
taken_cons u v b s e = ap (λ x. taken x s) e

-- two portions one after the other are one
pub taken_append : (u : Upload) (p q : List ℕ) → taken u (p ++ q) ≡ taken (taken u p) q
unfolding taken
taken_append u [] q = refl
taken_append u (b ∷ p) q = taken_append (stepped u b) p q

-- after a fault nothing changes
pub taken_refused : (u : Upload) (n p after : ℕ) (s : List ℕ) → u.due ≡ Due.Refused n p after → taken u s ≡ u
unfolding taken
taken_refused u n p after [] e = refl
taken_refused u n p after (b ∷ s) e =
    taken_cons u u b s (stepped_on u (Due.Refused n p after) b e) ∙ taken_refused u n p after s e

passed_on : (u : Upload) (at e : ℕ) → at + 1 < e → passed u at e 1 ≡ with_due u (Body (at + 1) e) u.depth
unfolding passed
passed_on u at e h = rw (lt-ltb (at + 1) e h)

passed_twice : (u : Upload) (at e k : ℕ)
    → passed (with_due u (Body (at + 1) e) u.depth) (at + 1) e k ≡ passed u at e (suc k)
unfolding passed closed_at closed_to
passed_twice u at e k = let z : at + 1 + k ≡ at + suc k = omega arith in rw z

-- a body that isn't examined
pub taken_body : (u : Upload) (at e k : ℕ) (s : List ℕ) → u.due ≡ Body at e → at + suc k ≤ e → suc k ≤ length s
    → taken u s ≡ taken (passed u at e (suc k)) (drop (suc k) s)
taken_body u at e k [] d h l = absurd (omega arith)
taken_body u at e zero (b ∷ s) d h l = taken_cons u (passed u at e 1) b s (stepped_on u (Body at e) b d)
taken_body u at e (suc k) (b ∷ s) d h l =
    let v = with_due u (Body (at + 1) e) u.depth in
    taken_cons u v b s (stepped_on u (Body at e) b d ∙ passed_on u at e (omega arith))
    ∙ (taken_body v (at + 1) e k s refl (omega arith) (omega arith)
    ∙ ap (λ x. taken x (drop (suc k) s)) (passed_twice u at e (suc k)))

-- how many there are
pub bulk_least : (x : Due) (left : ℕ) → bulk_of x left ≤ left
unfolding bulk_of
bulk_least (Tag at) left = omega arith
bulk_least (Length at t) left = omega arith
bulk_least (One at t) left = omega arith
bulk_least (First at t) left = omega arith
bulk_least (Second at t h) left = omega arith
bulk_least (Body at e) left =
    by_lt (λ k. k ≤ left) _ _ at e
    (λ h. by_lt (λ k. k ≤ left) _ _ left (e - at) (λ i. omega arith) (λ i. omega arith))
    (λ h. omega arith)
bulk_least Nothing left = omega arith
bulk_least (Due.Refused n p after) left = omega arith

pub bulk_few : (k : ℕ) (x : Due) (left : ℕ) → k ≡ bulk_of x left → k ≤ left
bulk_few k x left e = rw e (bulk_least x left)

none_skips : (u : Upload) (k : ℕ) (s : List ℕ) → 0 < k → k ≡ 0 → taken u s ≡ taken u (drop k s)
none_skips u k s h e = absurd (omega arith)

-- so many at once
skips_by : (u : Upload) (x : Due) (k : ℕ) (s : List ℕ) → u.due ≡ x → 0 < k → k ≡ bulk_of x (length s)
    → taken u s ≡ taken (skipped u x k) (drop k s)
unfolding bulk_of
skips_by u (Tag at) k s d h e = none_skips u k s h e
skips_by u (Length at t) k s d h e = none_skips u k s h e
skips_by u (One at t) k s d h e = none_skips u k s h e
skips_by u (First at t) k s d h e = none_skips u k s h e
skips_by u (Second at t i) k s d h e = none_skips u k s h e
skips_by u (Body at f) zero s d h e = absurd (omega arith)
skips_by u (Body at f) (suc k) s d h e =
    taken_body u at f k s d (within (length s) (suc k) e h) (omega (arith, e, bulk_least (Body at f) (length s)))
  where
    within : (left j : ℕ) → j ≡ bulk_of (Body at f) left → 0 < j → at + j ≤ f
    within left j =
        by_lt (λ y. j ≡ y → 0 < j → at + j ≤ f) _ _ at f
        (λ i. by_lt (λ y. j ≡ y → 0 < j → at + j ≤ f) _ _ left (f - at) (λ m p q. omega arith) (λ m p q. omega arith))
        (λ i p q. omega arith)
skips_by u Nothing k s d h e = none_skips u k s h e
skips_by u (Due.Refused n p after) k s d h e =
    taken_refused u n p after s d ∙ sym (taken_refused u n p after (drop k s) d)

pub taken_skips : (u : Upload) (k : ℕ) (s : List ℕ) → 0 < k → k ≡ bulk_of u.due (length s)
    → taken u s ≡ taken (skipped u u.due k) (drop k s)
taken_skips u k s h e = skips_by u u.due k s refl h e

-- the loop over a portion: what is due of the rest is due of the whole
pub record Taking (p : List ℕ) (first u : Upload) (i : ℕ) : Type 0 where
  pub within : i ≤ length p
  pub rest : taken u (drop i p) ≡ taken first p

pub taking_start : (p : List ℕ) (u : Upload) → Taking p u u 0
taking_start p u = record { within = omega arith; rest = refl }

pub taking_byte : (p : List ℕ) (first u r : Upload) (i : ℕ) → Taking p first u i → i < length p
    → r ≡ stepped u (get_or p i 0) → Taking p first r (i + 1)
taking_byte p first u r i t h e =
    let z : suc i ≡ i + 1 = omega arith in
    let d : drop i p ≡ get_or p i 0 ∷ drop (i + 1) p = drop-cons p i 0 h ∙ rw z in
    record {
      within = omega arith;
      rest = sym (taken_cons u r (get_or p i 0) (drop (i + 1) p) (sym e)) ∙ (ap (taken u) (sym d) ∙ t.rest);
    }

pub taking_skip : (p : List ℕ) (first u r : Upload) (i k : ℕ) → Taking p first u i → i < length p
    → (k ≡ 0 → ⊥) → k ≡ bulk_of u.due (length p - i) → r ≡ skipped u u.due k → Taking p first r (i + k)
taking_skip p first u r i k t h o e q =
    let l : length (drop i p) ≡ length p - i = length-drop i p in
    let z : drop k (drop i p) ≡ drop (i + k) p = drop-drop k i p in
    let s = taken_skips u k (drop i p) (positive k o) (e ∙ ap (bulk_of u.due) (sym l)) in
    record {
      within = omega (arith, e, bulk_least u.due (length p - i));
      rest = rw q (sym (ap (taken (skipped u u.due k)) z) ∙ (sym s ∙ t.rest));
    }
  where
    positive : (j : ℕ) → (j ≡ 0 → ⊥) → 0 < j
    positive zero f = absurd (f refl)
    positive (suc j) f = omega arith

pub taking_end : (p : List ℕ) (first u : Upload) (i : ℕ) → Taking p first u i → length p ≤ i
    → u ≡ taken first p
unfolding taken
taking_end p first u i t h =
    sym (ap (taken u) (drop_of_length-le p h)) ∙ t.rest
