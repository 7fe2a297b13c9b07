-- Opaque elements: the walk's check beside the account's.
use mathlib.Core.Bool.{Bool, true, false}
use mathlib.Core.Path.{refl}
use mathlib.Core.List.{List}
use Prim.Native.Nat.{ℕ, zero, suc, ◌+◌, ◌-◌, ◌/◌, ◌%◌, ◌≤◌, ◌<◌}
use native.Mathlib.Omega.{arith}
use lib.Dec.{eqb}
use lib.Seq.{length-slice}
use Rattle.std.specs.Prelude.{if◌then◌else◌}
use Rattle.der.specs.Element.{cursor, expect_at, on_element}
use Rattle.der.specs.Opaque.{on_checked, counted, go_on, at_end, run, opaque_at, elements_at}
use Rattle.der.specs.declared.Cursor.{Cursor}
use Rattle.der.specs.Element.{checked}
use Rattle.der.specs.declared.Checked.{Checked}
use Rattle.der.specs.declared.Fault.{Fault}
use Rattle.std.specs.Prelude.{Err, Ok, Result}
use Rattle.refusals.specs.Element.{Made, Account, Rule, closed, walked, judged, inside}
use Rattle.refusals.specs.Element.{onwards, each, is, any, anything, opaque}
use Rattle.refusals.proofs.Headers.{Lies}
use Rattle.refusals.proofs.Links.{here, left_to, Past, Stands, link_element, link_expect}
use Rattle.refusals.proofs.Loops.{link_many}
use Rattle.refusals.proofs.Agree.{Agree, Full, full_closed, checked_out, by_checked}

module _ (s : List ℕ) (made : Made) where
  -- at a level where every opaque element agrees, a run of them does
  run_agrees : (l : ℕ) → ((c : Cursor) → Lies s c → Agree s (Past s c) (checked_out made (opaque_at l s c))
      (opaque any l made (here s c)))
      → (c : Cursor) → Lies s c → Agree s (Full c) (checked_out made (run (opaque_at l s) c))
      (each (opaque any l) made (here s c))
  unfolding run
  run_agrees l one c h =
      rw (length-slice c.at c.end s h.inside)
      (link_many s go_on (at_end c.end) (counted (opaque_at l s) c.end) c.end h.inside (opaque any l)
      (λ m. made)
      (λ x a. Agree s (Full c) (checked_out made x) a) (λ a. a)
      (λ m. (refl, refl))
      (λ m at k next r rest. go m at next r rest (opaque_at l s (cursor at c.end))
      (opaque any l made (here s (cursor at c.end)))
      (one (cursor at c.end) (record { order = omega arith; inside = h.inside })))
      (c.end - c.at) 0 c.at h.order (omega (arith, h.order)))
    where
      go : (m at : ℕ) (next : ℕ → ℕ → Result Checked Fault) (r : Rule)
          → ((m' at' : ℕ) → at < at' → at' ≤ c.end → Agree s (Full c) (checked_out made (next m' at'))
          (r made (here s (cursor at' c.end))))
          → (x : Result Checked Fault) (a : Account) → Agree s (Past s (cursor at c.end)) (checked_out made x) a
          → Agree s (Full c) (checked_out made (go_on (on_checked x Err (λ k n. Ok (checked (m + k) n))) next))
          (onwards a r)
      go m at next r rest (Err f) a q = rw q refl
      go m at next r rest (Ok x) a q =
          let p = q.1 in
          rw q.0 (rw (left_to s x.next c.end p.end) at
          (rest (m + x.count) x.next.at p.on (omega (arith, p.end, p.lies.order))))

  -- what is done with an element that was found, l levels above the bottom
  inside_agrees : (l : ℕ) → ((c : Cursor) → Lies s c → Agree s (Past s c) (checked_out made (opaque_at l s c))
      (opaque any l made (here s c)))
      → (c : Cursor) (t : ℕ) (b n : Cursor) → Stands s c t b n
      → Agree s (Past s c) (checked_out made (if eqb (t / 32 % 2) 0 then Ok (checked 1 n) else on_checked
      (run (opaque_at l s) b) Err (λ m e. Ok (checked (m + 1) n))))
      (inside (if eqb (t / 32 % 2) 0 then judged anything else walked (each (opaque any l))) c.at made (here s b)
      (here s n))
  inside_agrees l one c t b n d = go (eqb (t / 32 % 2) 0)
    where
      go : (u : Bool)
          → Agree s (Past s c) (checked_out made (if u then Ok (checked 1 n) else on_checked (run (opaque_at l s) b)
          Err (λ m e. Ok (checked (m + 1) n))))
          (inside (if u then judged anything else walked (each (opaque any l))) c.at made (here s b) (here s n))
      go true = (refl, d.past)
      go false =
          by_checked s (λ x a. Agree s (Past s c) (checked_out made x) a) Err (λ a. closed a (here s n))
          (λ f. refl) (Full b) made
          (λ m e. Ok (checked (m + 1) n)) (run (opaque_at l s) b) _
          (run_agrees l one b d.body)
          (λ k e p. (full_closed s b e made (here s n) p, d.past))

  -- an opaque element, and a run of them that fills a body
  pub opaque_agrees : (l : ℕ) (c : Cursor) → Lies s c → Agree s (Past s c) (checked_out made (opaque_at l s c))
      (opaque any l made (here s c))
  unfolding opaque_at opaque
  opaque_agrees zero c h =
      link_element s (λ x a. Agree s (Past s c) (checked_out made x) a) Err (λ a. a) (λ f. refl) c h made _
      _ _ _ (λ t b n d. refl)
  opaque_agrees (suc l) c h =
      link_element s (λ x a. Agree s (Past s c) (checked_out made x) a) Err (λ a. a) (λ f. refl) c h made _
      _ _ _
      (λ t b n d. inside_agrees l (opaque_agrees l) c t b n d)

  pub elements_agree : (l : ℕ) (c : Cursor) → Lies s c
      → Agree s (Full c) (checked_out made (elements_at l s c)) (each (opaque any l) made (here s c))
  unfolding elements_at
  elements_agree l = run_agrees l (opaque_agrees l)

  -- an opaque element whose tag is due
  pub due_agrees : (l due : ℕ) (c : Cursor) → Lies s c
      → Agree s (Past s c) (checked_out made (on_element (expect_at due s c) Err
      (λ t b n. opaque_at (suc l) s c))) (opaque (is due) (suc l) made (here s c))
  unfolding opaque_at opaque
  due_agrees l due c h =
      link_expect s (λ x a. Agree s (Past s c) (checked_out made x) a) Err (λ a. a) (λ f. refl) c h made
      due _ _ _
      (λ b n d. rw d.found (inside_agrees l (opaque_agrees l) c due b n d))
