-- The walk's loop over siblings beside the account's.
use mathlib.Core.Path.{◌≡◌}
use mathlib.Core.List.{List}
use Prim.Native.Nat.{ℕ, zero, suc, ◌+◌, ◌≤◌, ◌<◌}
use native.Mathlib.Omega.{arith}
use lib.ListN.{length}
use Rattle.der.specs.Element.{cursor}
use Rattle.der.specs.Many.{many}
use Rattle.der.proofs.Choices.{either}
use Rattle.der.proofs.Many.{many_end, many_more}
use Rattle.refusals.specs.Element.{Made, Account, goes, Rule, onwards, each_of}
use Rattle.refusals.proofs.Headers.{some_chosen, none_chosen}
use Rattle.refusals.proofs.Links.{here}

module _ (s : List ℕ) {A S : Type 0} (on : A → (S → ℕ → A) → A) (done : S → ℕ → A) (step : S → ℕ → A) (end : ℕ)
    (inside : end ≤ length s)
    (rule : Rule) (made_of : S → Made) (P : A → Account → Type 0) (K : Account → Account)
    (ends : (st : S) → P (done st end) (K (goes (made_of st) (here s (cursor end end)))))
    (steps : (st : S) (at : ℕ) → at < end → (k : S → ℕ → A) (r : Rule)
    → ((st' : S) (at' : ℕ) → at < at' → at' ≤ end → P (k st' at') (K (r (made_of st') (here s (cursor at' end)))))
    → P (on (step st at) k) (K (onwards (rule (made_of st) (here s (cursor at end))) r))) where
  pub link_many : (fuel : ℕ) (st : S) (at : ℕ) → at ≤ end → end ≤ at + fuel
      → P (many on done step fuel end st at) (K (each_of fuel rule (made_of st) (here s (cursor at end))))
  unfolding each_of
  link_many zero st at h k =
      let e : at ≡ end = omega arith in
      rw (many_end on done step end zero st at (omega arith), e) (ends st)
  link_many (suc f) st at h k =
      either at end
      (λ l.
      rw (
        many_more on done step end f st at l,
        some_chosen s at end (goes (made_of st) (here s (cursor at end))) _ l
            inside,
      )
      (steps st at l _ (each_of f rule) (λ st' at' m n. link_many f st' at' n (omega arith))))
      (λ l.
      let e : at ≡ end = omega arith in
      rw (
        many_end on done step end (suc f) st at l,
        none_chosen s at end (goes (made_of st) (here s (cursor at end)))
            (onwards (rule (made_of st) (here s (cursor at end))) (each_of f rule)) l,
        e,
      ) (ends st))
