-- The laws of the one loop over siblings, for any step: how the code's loop follows it, and what
-- holds of its answer.
use mathlib.Core.Path.{◌≡◌, refl, sym, ◌∙◌}
use Prim.Native.Nat.{ℕ, zero, suc, ◌+◌, ◌-◌, ◌≤◌, ◌<◌}
use native.Mathlib.Omega.{arith}
use borrow.Author.Tests.{lt-ltb, le-ltb}
use Rattle.der.specs.Many.{many}
use Rattle.der.proofs.Choices.{either}

module _ {A S : Type 0} (on : A → (S → ℕ → A) → A) (done : S → ℕ → A) (step : S → ℕ → A) (end : ℕ) where
  -- at the end
  pub many_end : (fuel : ℕ) (st : S) (at : ℕ) → end ≤ at → many on done step fuel end st at ≡ done st at
  unfolding many
  many_end zero st at h = refl
  many_end (suc f) st at h = rw (le-ltb at end h)

  -- before the end, with fuel for what is left
  pub many_more : (f : ℕ) (st : S) (at : ℕ) → at < end
      → many on done step (suc f) end st at ≡ on (step st at) (λ st' at'. many on done step f end st' at')
  unfolding many
  many_more f st at h = rw (lt-ltb at end h)

  -- The answer that is due is the loop's from here: the invariant of the code's loop.
  pub record Going (whole : A) (st : S) (at : ℕ) : Type 0 where
    pub fuel : ℕ
    pub enough : end ≤ at + fuel
    pub rest : whole ≡ many on done step fuel end st at

  pub going_start : (st : S) (at : ℕ) → Going (many on done step (end - at) end st at) st at
  going_start st at = record { fuel = end - at; enough = omega arith; rest = refl }

  pub going_end : (whole : A) (st : S) (at : ℕ) → Going whole st at → end ≤ at → done st at ≡ whole
  going_end whole st at g h = sym (g.rest ∙ many_end g.fuel st at h)

  -- one step, and the loop from where it leads
  pub record Stepped (whole : A) (st : S) (at : ℕ) : Type 0 where
    pub fuel : ℕ
    pub enough : end ≤ at + 1 + fuel
    pub rest : whole ≡ on (step st at) (λ st' at'. many on done step fuel end st' at')

  pub going_on : (whole : A) (st : S) (at : ℕ) → Going whole st at → at < end → Stepped whole st at
  going_on whole st at g h = go g.fuel g.enough g.rest
    where
      go : (fuel : ℕ) → end ≤ at + fuel → whole ≡ many on done step fuel end st at → Stepped whole st at
      go zero k e = absurd (omega arith)
      go (suc f) k e = record { fuel = f; enough = omega arith; rest = e ∙ many_more f st at h }

  -- What holds at the end, and passes from what follows a step to the step, holds of the whole
  -- loop; I is what each turn keeps.
  pub many_holds : (P : S → ℕ → A → Type 0) (I : S → ℕ → Type 0)
      → ((st : S) (at : ℕ) → end ≤ at → I st at → P st at (done st at))
      → ((st : S) (at : ℕ) → at < end → I st at → (k : S → ℕ → A)
      → ((st' : S) (at' : ℕ) → at < at' → I st' at' → P st' at' (k st' at')) → P st at (on (step st at) k))
      → (fuel : ℕ) (st : S) (at : ℕ) → end ≤ at + fuel → I st at → P st at (many on done step fuel end st at)
  many_holds P I ends steps zero st at h i = rw (many_end zero st at (omega arith)) (ends st at (omega arith) i)
  many_holds P I ends steps (suc f) st at h i =
      either at end
      (λ l. rw (many_more f st at l) (steps st at l i (λ st' at'. many on done step f end st' at')
      (λ st' at' m j. many_holds P I ends steps f st' at' (omega arith) j)))
      (λ l. rw (many_end (suc f) st at l) (ends st at l i))
