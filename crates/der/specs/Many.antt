-- Elements one after another, up to their parent's end, by any step: the one loop over siblings.
-- `on` says what to do with a step's answer: to go on from a state and a position, or to stop.
-- `done` is the answer at the end.
use Rattle.std.specs.Prelude.{ℕ, zero, suc, ltb}
use Rattle.std.specs.Prelude.{if◌then◌else◌}

unfoldable pub many : {A S : Type 0} → (A → (S → ℕ → A) → A) → (S → ℕ → A) → (S → ℕ → A) → ℕ → ℕ → S → ℕ → A
many on done step zero end st at = done st at
many on done step (suc fuel) end st at =
    if ltb at end then on (step st at) (λ st' at'. many on done step fuel end st' at') else done st at
