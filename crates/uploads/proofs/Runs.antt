-- Whole runs: an upload follows the machine up to the first fault, which it keeps.
use mathlib.Core.Path.{◌≡◌, refl, sym, ap, ◌∙◌}
use mathlib.Core.List.{List, [], ◌∷◌}
use mathlib.Core.Option.{Option, some}
use mathlib.Core.Option as option
use Prim.Native.Nat.{ℕ, zero, suc, ◌+◌, ◌≤◌, ◌<◌}
use native.Mathlib.Omega.{arith}
use lib.ListN.{length, take}
use lib.Seq.{take-nil}
use Rattle.der.specs.Element.{fault}
use Rattle.der.specs.declared.Fault.{Fault}
use Rattle.buffer.specs.Numbers.{file_bytes}
use Rattle.header.specs.declared.Due.{Due}
use Rattle.header.specs.declared.Due.TheVariants.{Tag, Length, One, First, Second, Body, Nothing}
use Rattle.stream.specs.declared.Upload.{Upload}
use Rattle.stream.specs.Upload.{taken, stepped}
use Rattle.stream.proofs.Taken.{taken_refused}
use Rattle.uploads.proofs.Machine.{State, Failed, Open, Done, step, feed, certainly}
use Rattle.uploads.proofs.Kept.{Given, step_given}
use Rattle.uploads.proofs.Follows.{state_at, Since, Follows}
use Rattle.uploads.proofs.Stepped.{step_follows}

-- what a run of p comes to, from an upload with i bytes: the first fault, after j bytes more, or
-- none
pub data Ran (n i : ℕ) (st : State) (u : Upload) (p : List ℕ) : Type 0 where
  found : (j m o : ℕ) → 0 < j → j ≤ length p → (taken u p).due ≡ Due.Refused m o (i + j)
      → feed n st (take j p) ≡ Failed (fault m o)
      → ((k : ℕ) → k < j → certainly (feed n st (take k p)) ≡ option.none) → Ran n i st u p
  ran : Follows n (i + length p) (feed n st p) (taken u p) → Given n (i + length p) (feed n st p)
      → ((k : ℕ) → k ≤ length p → certainly (feed n st (take k p)) ≡ option.none) → Ran n i st u p

-- an upload that follows a fault has it due, and the number of bytes
pub record Faulty (k : ℕ) (f : Fault) (x : Due) : Type 0 where
  pub number : ℕ
  pub offset : ℕ
  pub due : x ≡ Due.Refused number offset k
  pub same : f ≡ fault number offset

open_fails : {A : Type 0} (f : Fault) (st : State) → certainly st ≡ option.none → st ≡ Failed f → A
unfolding certainly
open_fails f st c e = let z : ◌≡◌ {A = Option Fault} (some f) option.none = sym (ap certainly e) ∙ c in no_fault z
  where
    no_fault : {A : Type 0} → ◌≡◌ {A = Option Fault} (some f) option.none → A
    no_fault z = let y : ◌≡◌ {A = ℕ} 0 1 = cc in absurd (omega arith)

faulty_of : (k : ℕ) (f : Fault) (x : Due) (u : Upload) → Since k x → state_at x u ≡ Failed f → Faulty k f x
unfolding certainly
faulty_of k f (Tag at) u s e = open_fails f _ refl e
faulty_of k f (Length at t) u s e = open_fails f _ refl e
faulty_of k f (One at t) u s e = open_fails f _ refl e
faulty_of k f (First at t) u s e = open_fails f _ refl e
faulty_of k f (Second at t h) u s e = open_fails f _ refl e
faulty_of k f (Body at d) u s e = open_fails f _ refl e
faulty_of k f Nothing u s e = open_fails f _ refl e
faulty_of k f (Due.Refused m o after) u s e =
    let z : fault m o ≡ f = cc in
    record { number = m; offset = o; due = rw s; same = sym z }

pub follows_faulty : (n k : ℕ) (f : Fault) (u : Upload) → Follows n k (Failed f) u → Faulty k f u.due
follows_faulty n k f u g = faulty_of k f u.due u g.since g.state

-- a fault or none
pub either_state : {A : Type 0} (st : State) → ((f : Fault) → st ≡ Failed f → A) → (certainly st ≡ option.none → A) → A
unfolding certainly
either_state (Failed f) g h = g f refl
either_state (Open x ends tl) g h = h refl
either_state (Done tl) g h = h refl

pub run : (n i k : ℕ) (st : State) (u : Upload) (p : List ℕ) → n ≤ file_bytes → Follows n k st u → Given n i st
    → certainly st ≡ option.none → k ≡ i → Ran n i st u p
unfolding feed taken
run n i k st u [] s f g c e =
    let z : i + 0 ≡ i = omega arith in
    ran (rw (z, sym e) f) (rw z g) (λ j h. ap (λ q. certainly (feed n st q)) (take-nil j) ∙ c)
run n i k st u (b ∷ p) s f g c e =
    let v = stepped u b in
    let next = step n st b in
    let follows : Follows n (i + 1) next v = step_follows n i k st u b s f g c in
    let given : Given n (i + 1) next = step_given n i st b g in
    either_state next
    (λ f₁ q.
    let y = follows_faulty n (i + 1) f₁ v (rw q at follows) in
    let kept : taken v p ≡ v = taken_refused v y.number y.offset (i + 1) p y.due in
    found 1 y.number y.offset (omega arith) (omega arith) (ap (λ x. x.due) kept ∙ y.due)
    (q ∙ ap Failed y.same) (λ j h. before j h))
    (λ q. on (run n (i + 1) (i + 1) next v p s follows given q refl) q)
  where
    before : (j : ℕ) → j < 1 → certainly (feed n st (take j (b ∷ p))) ≡ option.none
    before zero h = c
    before (suc j) h = absurd (omega arith)

    on : Ran n (i + 1) (step n st b) (stepped u b) p → certainly (step n st b) ≡ option.none → Ran n i st u (b ∷ p)
    on (found j m o h l d q all) w =
        let z : i + 1 + j ≡ i + suc j = omega arith in
        found (suc j) m o (omega arith) (omega arith) (rw z at d) q (later all)
      where
        later : ((a : ℕ) → a < j → certainly (feed n (step n st b) (take a p)) ≡ option.none)
            → (a : ℕ) → a < suc j → certainly (feed n st (take a (b ∷ p))) ≡ option.none
        later all zero h = c
        later all (suc a) h = all a (omega arith)
    on (ran f₁ g₁ all) w =
        let z : i + 1 + length p ≡ i + suc (length p) = omega arith in
        ran (rw z at f₁) (rw z at g₁) later
      where
        later : (a : ℕ) → a ≤ length (b ∷ p) → certainly (feed n st (take a (b ∷ p))) ≡ option.none
        later zero h = c
        later (suc a) h = all a (omega arith)
