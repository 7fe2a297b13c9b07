-- Rows of one kind, collected in an array one by one.
use mathlib.Core.Path.{◌≡◌, refl, sym, ap, ◌∙◌}
use mathlib.Core.List.{List, [], ◌∷◌}
use Prim.Native.Nat.{ℕ, ◌+◌, ◌-◌, ◌≤◌, ◌<◌, min}
use native.Mathlib.Nat.{mul-one}
use native.Mathlib.Omega.{arith}
use lib.ListN.{length, set, replicate}
use Rattle.pkcs12.specs.Table.{padded}
use Rattle.buffer.specs.Placed.{each}
use Rattle.buffer.proofs.Placing.{each_more}
use Rattle.pkcs12.proofs.Stored as pkcs12
use Rattle.words.proofs.Rows.{each_length}
use Rattle.load.specs.Loaded.{rows_from}

module _ {A : Type 0} (f : ℕ → A) (none : A) (rows count end : ℕ) where
  -- i rows are collected
  pub record Collecting (xs : List A) (i : ℕ) : Type 0 where
    pub within : i ≤ end
    pub few : end ≤ rows
    pub due : end ≡ min count rows
    pub so_far : xs ≡ padded rows none (each (λ j. f j ∷ []) i)

  pub collect_start : (x : A) → end ≡ min count rows → x ≡ none → Collecting (replicate rows x) 0
  unfolding each
  collect_start x e p =
      let all : rows - 0 ≡ rows = omega arith in
      record { within = omega arith; few = omega (arith, e); due = e; so_far = rw (all, p) }

  module _ (xs : List A) (i : ℕ) (g : Collecting xs i) where
    pub collect_on : (x : A) → i < end → x ≡ f i → Collecting (set xs i x) (i + 1)
    collect_on x h e =
        let l : length (each (λ j. f j ∷ []) i) ≡ i = each_length (λ j. f j ∷ []) 1 (λ j. refl) i ∙ mul-one i in
        let s : set (padded rows none (each (λ j. f j ∷ []) i)) i (f i) ≡ padded rows none (each (λ j. f j ∷ []) (i + 1)) =
        ap (λ (k : ℕ). set (padded rows none (each (λ j. f j ∷ []) i)) k (f i)) (sym l)
        ∙ pkcs12.stored rows none (each (λ j. f j ∷ []) i) (f i) (omega (arith, l, h, g.few))
        ∙ ap (padded rows none) (sym (each_more (λ j. f j ∷ []) i)) in
        record { within = omega (arith, h); few = g.few; due = g.due; so_far = rw (g.so_far, e) s }

    pub collect_end : end ≤ i → xs ≡ rows_from f none rows count
    unfolding rows_from
    collect_end h = let e : i ≡ min count rows = omega (arith, h, g.within, g.due) in g.so_far ∙ rw e
