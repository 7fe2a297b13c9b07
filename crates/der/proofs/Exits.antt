-- The clauses of a contract in a walk by hand: shown at the exit, and read of what a callee
-- ensures.
use seplogic.Ra.Ura.{Ura}
use mathlib.Core.List.{List}
use base.Logic.{SProp, ent, sep, via, assoc∗, fst∗, snd∗}
use types.Logic.{Logic}
use contract.Monad.{fact, fact_i, fact_use}
use types.Kit.{Item, prop, Step, step, suffices, ◌$◌}
use denote.Triple.Walked.{says}

-- a goal P and two clauses, or three, or four: all are shown, and P is left
module _ {M : Type 1} {𝓤 : Ura M} {𝓛 : Logic 𝓤} {K : Type 0} {Γ : List (Item 𝓤)} where
  pub says_both : K → {φ ψ : Type 0} {P : SProp 𝓤} → φ → ψ
      → Step K 𝓛 Γ (prop P) Γ (prop (sep 𝓤 P (sep 𝓤 (fact 𝓤 φ) (fact 𝓤 ψ))))
  says_both t {φ} {ψ} {P} x y = step (λ s.
      suffices t (sep 𝓤 (sep 𝓤 P (fact 𝓤 φ)) (fact 𝓤 ψ)) (assoc∗ 𝓤 P (fact 𝓤 φ) (fact 𝓤 ψ)) $ says t y $ says t x $ s)

  pub says_three : K → {φ ψ ρ : Type 0} {P : SProp 𝓤} → φ → ψ → ρ
      → Step K 𝓛 Γ (prop P) Γ (prop (sep 𝓤 P (sep 𝓤 (fact 𝓤 φ) (sep 𝓤 (fact 𝓤 ψ) (fact 𝓤 ρ)))))
  says_three t {φ} {ψ} {ρ} {P} x y z = step (λ s.
      suffices t (sep 𝓤 (sep 𝓤 P (fact 𝓤 φ)) (sep 𝓤 (fact 𝓤 ψ) (fact 𝓤 ρ)))
      (assoc∗ 𝓤 P (fact 𝓤 φ) (sep 𝓤 (fact 𝓤 ψ) (fact 𝓤 ρ))) $
      says_both t y z $ says t x $ s)

  pub says_four : K → {φ ψ ρ σ : Type 0} {P : SProp 𝓤} → φ → ψ → ρ → σ
      → Step K 𝓛 Γ (prop P) Γ (prop (sep 𝓤 P (sep 𝓤 (fact 𝓤 φ) (sep 𝓤 (fact 𝓤 ψ) (sep 𝓤 (fact 𝓤 ρ) (fact 𝓤 σ))))))
  says_four t {φ} {ψ} {ρ} {σ} {P} x y z w = step (λ s.
      suffices t (sep 𝓤 (sep 𝓤 P (fact 𝓤 φ)) (sep 𝓤 (fact 𝓤 ψ) (sep 𝓤 (fact 𝓤 ρ) (fact 𝓤 σ))))
      (assoc∗ 𝓤 P (fact 𝓤 φ) (sep 𝓤 (fact 𝓤 ψ) (sep 𝓤 (fact 𝓤 ρ) (fact 𝓤 σ)))) $
      says_three t y z w $ says t x $ s)

-- of three clauses the first and the last
pub ends_said : {M : Type 1} (𝓤 : Ura M) (φ ψ ρ : Type 0)
    → ent 𝓤 (sep 𝓤 (fact 𝓤 φ) (sep 𝓤 (fact 𝓤 ψ) (fact 𝓤 ρ))) (fact 𝓤 (φ × ρ))
ends_said 𝓤 φ ψ ρ =
    fact_use 𝓤 φ (fst∗ 𝓤 (fact 𝓤 φ) (sep 𝓤 (fact 𝓤 ψ) (fact 𝓤 ρ))) (λ x.
    fact_use 𝓤 ρ
    (via 𝓤 (sep 𝓤 (fact 𝓤 ψ) (fact 𝓤 ρ)) (snd∗ 𝓤 (fact 𝓤 φ) (sep 𝓤 (fact 𝓤 ψ) (fact 𝓤 ρ)))
    (snd∗ 𝓤 (fact 𝓤 ψ) (fact 𝓤 ρ)))
    (λ y. fact_i 𝓤 (φ × ρ) (sep 𝓤 (fact 𝓤 φ) (sep 𝓤 (fact 𝓤 ψ) (fact 𝓤 ρ))) (x, y)))
