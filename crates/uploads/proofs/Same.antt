-- The check of the whole is the opaque check of `der` with 20 levels, and then no byte left: the
-- same refusals, and the same number of elements.
use mathlib.Core.Path.{◌≡◌, refl, sym, ap, ◌∙◌}
use mathlib.Core.List.{List}
use Prim.Native.Nat.{ℕ, zero, suc, ◌+◌, ◌-◌, ◌/◌, ◌%◌, ◌≤◌}
use native.Mathlib.Omega.{arith}
use lib.Dec.{ltb, eqb}
use lib.ListN.{length}
use borrow.Author.Tests.{le-ltb, ltb-false}
use Rattle.std.specs.Prelude.{if◌then◌else◌}
use Rattle.der.specs.Numbers.{left_over, too_many}
use Rattle.der.specs.Element.{cursor, fault, whole_of, element_at, on_element, finish_at}
use Rattle.der.specs.Many.{many}
use Rattle.der.specs.Opaque.{on_checked, counted, at_end, run, opaque_at, elements_at}
use Rattle.der.specs.Opaque as opaque
use Rattle.der.specs.declared.Cursor.{Cursor}
use Rattle.der.specs.Element.{checked}
use Rattle.der.specs.declared.Checked.{Checked}
use Rattle.der.specs.declared.Element.{Element}
use Rattle.der.specs.declared.Fault.{Fault}
use Rattle.std.specs.Prelude.{Err, Ok, Result}
use Rattle.der.proofs.Placed.{OfElement, element_of_lem}
use Rattle.der.proofs.Opaque.{went, ran}
use Rattle.buffer.specs.Numbers.{file_bytes}
use Rattle.header.specs.Numbers.{upload_levels}
use Rattle.uploads.specs.Whole.{Tally, no_element, tallied, Walked, Stopped, Reached, on_walked, go_on, walk_at}
use Rattle.uploads.specs.Whole.{Refused, Passed, whole}
use Rattle.uploads.specs.Same.{opaque_then_finish, forgotten}
use Rattle.uploads.proofs.Fed.{cases}

-- what was counted on from c elements, within a parent that ends at e, is what `der` returns
abbrev Alike : (c e : ℕ) → Walked → Result Checked Fault → Type 0
Alike c e (Stopped f) (Err g) = f ≡ g
Alike c e (Stopped f) (Ok x) = ⊥
Alike c e (Reached tl q) (Err g) = ⊥
Alike c e (Reached tl q) (Ok x) = (tl.elements ≡ c + x.count) × (x.next ≡ cursor q e)

-- one turn of the loop over siblings
turn_alike : (c e : ℕ) (tl : Tally) (m : ℕ) (k : Tally → ℕ → Walked) (j : ℕ → ℕ → Result Checked Fault)
    → tl.elements ≡ c + m
    → ((up : Tally) (i q : ℕ) → up.elements ≡ c + i → Alike c e (k up q) (j i q))
    → (x : Walked) (y : Result Checked Fault) → Alike tl.elements e x y
    → Alike c e (go_on x k) (opaque.go_on (on_checked y Err (λ i n. Ok (checked (m + i) n))) j)
turn_alike c e tl m k j h go (Stopped f) (Err g) a = a
turn_alike c e tl m k j h go (Stopped f) (Ok x) a = absurd a
turn_alike c e tl m k j h go (Reached up q) (Err g) a = absurd a
turn_alike c e tl m k j h go (Reached up q) (Ok y) a =
    let z : y.next.at ≡ q = ap (λ x. x.at) a.1 in
    rw z (go up (m + y.count) q (omega (arith, a.0)))

run_alike : (check : Tally → ℕ → Walked) (each : Cursor → Result Checked Fault) (c e : ℕ)
    → ((tl : Tally) (at : ℕ) → Alike tl.elements e (check tl at) (each (cursor at e)))
    → (fuel : ℕ) (tl : Tally) (m at : ℕ) → tl.elements ≡ c + m
    → Alike c e (many go_on Reached check fuel e tl at) (many opaque.go_on (at_end e) (counted each e) fuel e m at)
unfolding many
run_alike check each c e like zero tl m at h = (h, refl)
run_alike check each c e like (suc fuel) tl m at h =
    cases (ltb at e)
    (λ l. rw l
    (turn_alike c e tl m _ _ h (run_alike check each c e like fuel) (check tl at) (each (cursor at e)) (like tl at)))
    (λ l. rw l (h, refl))

-- the element around a run
around : (c e : ℕ) (b n : Cursor) → n ≡ cursor b.end e → (x : Walked) (y : Result Checked Fault)
    → ((m : ℕ) (p : Cursor) → y ≡ Ok (checked m p) → p.at ≡ b.end)
    → Alike (c + 1) b.end x y → Alike c e x (on_checked y Err (λ m p. Ok (checked (m + 1) n)))
around c e b n h (Stopped f) (Err g) r a = a
around c e b n h (Stopped f) (Ok x) r a = a
around c e b n h (Reached tl q) (Err g) r a = a
around c e b n h (Reached tl q) (Ok y) r a =
    let z : b.end ≡ q = sym (r y.count y.next refl) ∙ ap (λ x. x.at) a.1 in
    (omega (arith, a.0), h ∙ rw z)

walk_alike : (l v : ℕ) (s : List ℕ) (e : ℕ) (tl : Tally) (at : ℕ)
    → Alike tl.elements e (walk_at l v s e tl at) (opaque_at l s (cursor at e))
unfolding walk_at opaque_at elements_at run tallied
walk_alike zero v s e tl at = go (element_at s (cursor at e))
  where
    go : (x : Result Element Fault)
        → Alike tl.elements e (on_element x Stopped (λ t b n. Stopped (fault too_many at)))
        (on_element x Err (λ t b n. Err (fault too_many at)))
    go (Err f) = refl
    go (Ok x) = refl
walk_alike (suc l) v s e tl at =
    go (element_at s (cursor at e)) (element_of_lem s (cursor at e)) (λ f. walk_alike l (suc v) s f)
  where
    inner : Cursor → Walked
    inner b = many go_on Reached (walk_at l (suc v) s b.end) (b.end - b.at) b.end (tallied v tl) b.at

    go : (x : Result Element Fault) → OfElement s (cursor at e) x
        → ((f : ℕ) (up : Tally) (p : ℕ)
        → Alike up.elements f (walk_at l (suc v) s f up p) (opaque_at l s (cursor p f)))
        → Alike tl.elements e
        (on_element x Stopped (λ t b n. if eqb (t / 32 % 2) 0 then Reached (tallied v tl) b.end else inner b))
        (on_element x Err
        (λ t b n.
        if eqb (t / 32 % 2) 0 then Ok (checked 1 n) else
        on_checked (run (opaque_at l s) b) Err (λ m p. Ok (checked (m + 1) n))))
    go (Err f) o i = refl
    go (Ok x) o i =
        cases (eqb (x.tag / 32 % 2) 0)
        (λ k. rw k (refl, o.next))
        (λ k. rw k
        (around tl.elements e x.body x.next o.next (inner x.body) (run (opaque_at l s) x.body)
        (λ m p q. (ran l s x.body (run (opaque_at l s) x.body) m p refl q).stop o.body.size)
        (run_alike (walk_at l (suc v) s x.body.end) (opaque_at l s) (tl.elements + 1) x.body.end (i x.body.end)
        (x.body.end - x.body.at) (tallied v tl) 0 x.body.at (omega arith))))

-- The check of the whole returns what the opaque check of `der` returns.
pub whole_opaque : (s : List ℕ) → length s ≤ file_bytes → forgotten (length s) (whole s) ≡ opaque_then_finish s
unfolding whole opaque_then_finish forgotten finish_at
whole_opaque s h =
    rw (le-ltb file_bytes (length s) h)
    (go (walk_at upload_levels 1 s (length s) no_element 0) (opaque_at upload_levels s (whole_of s)) refl
    (walk_alike upload_levels 1 s (length s) no_element 0))
  where
    go : (x : Walked) (y : Result Checked Fault) → opaque_at upload_levels s (whole_of s) ≡ y → Alike 0 (length s) x y
        → forgotten (length s)
        (on_walked x Refused (λ tl p. if ltb p (length s) then Refused (fault left_over p) else Passed tl))
        ≡ on_checked y Err (λ m n. on_checked (finish_at n) Err (λ z e. Ok (checked m e)))
    go (Stopped f) (Err g) e a = rw a
    go (Stopped f) (Ok x) e a = absurd a
    go (Reached tl q) (Err g) e a = absurd a
    go (Reached tl q) (Ok v) e a =
        rw a.1
        (cases (ltb q (length s))
        (λ k. rw k)
        (λ k.
        let w = went upload_levels s (whole_of s) (opaque_at upload_levels s (whole_of s)) v.count v.next refl e in
        let y : v.next.at ≡ q = ap (λ x. x.at) a.1 in
        let z : q ≡ length s = omega (arith, w.within, ltb-false q (length s) k) in
        let c : tl.elements ≡ v.count = omega (arith, a.0) in
        rw (k, z, c)))
