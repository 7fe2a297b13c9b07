-- Rows of one kind, stored one behind another; for any width and any kind.
use mathlib.Core.Path.{◌≡◌, refl, sym, ap, ◌∙◌}
use mathlib.Core.List.{List}
use Prim.Native.Nat.{ℕ, zero, suc, ◌+◌, ◌-◌, ◌*◌, ◌≤◌, ◌<◌, min}
use native.Mathlib.Nat.{zero-mul, suc-mul, add-mul}
use native.Mathlib.Omega.{arith}
use lib.ListN.{length, get_or, length-append, length-replicate}
use Rattle.buffer.specs.Placed.{each}
use Rattle.buffer.proofs.Placing.{each_more}
use Rattle.words.specs.Stored.{rows_words}
use Rattle.words.specs.Steps.{StoredAt}
use Rattle.words.proofs.Stores.{stored_then, stored_length}

pub each_length : {A : Type 0} (f : ℕ → List A) (w : ℕ) → ((i : ℕ) → length (f i) ≡ w) → (n : ℕ)
    → length (each f n) ≡ n * w
unfolding each
each_length f w h zero = sym (zero-mul w)
each_length f w h (suc n) = length-append (each f n) (f n) ∙ rw (each_length f w h n, h n, suc-mul n w)

-- rows of a width fill as many words as there are rows
pub rows_length : {A : Type 0} (words : A → List ℕ) (none : A) (width size : ℕ) (rows : List A) (count : ℕ)
    → ((x : A) → length (words x) ≡ width) → length (rows_words words none width size rows count) ≡ size * width
unfolding rows_words
rows_length words none width size rows count h =
    let k : min count size + (size - min count size) ≡ size = omega arith in
    length-append (each (λ i. words (get_or rows i none)) (min count size)) _
    ∙ rw (
      each_length (λ i. words (get_or rows i none)) width (λ i. h (get_or rows i none)) (min count size),
      length-replicate {A = ℕ} ((size - min count size) * width) 0,
      ← (add-mul (min count size) (size - min count size) width),
      k,
    )

-- ---- the loops

-- of the rows of a width, from an offset on, i of n are stored
pub record Filling (row : ℕ → List ℕ) (width : ℕ) (d : List ℕ) (at n : ℕ) (e : List ℕ) (i : ℕ) : Type 0 where
  pub some : i ≤ n
  pub stored : StoredAt d at (each row i) e
  pub long : length e ≡ length d

module _ (row : ℕ → List ℕ) (width : ℕ) (d : List ℕ) (at n : ℕ) where
  pub fill_start : Filling row width d at n d 0
  unfolding each
  fill_start = record { some = omega arith; stored = record { words = refl }; long = refl }

  module _ (e : List ℕ) (i : ℕ) (g : Filling row width d at n e i) where
    pub fill_on : (f : List ℕ) → i < n → ((j : ℕ) → length (row j) ≡ width) → StoredAt e (at + i * width) (row i) f
        → Filling row width d at n f (i + 1)
    fill_on f h w s =
        record {
          some = omega (arith, h);
          stored =
              rw (each_more row i)
              (stored_then g.stored s (ap (λ (k : ℕ). at + k) (sym (each_length row width w i))));
          long = stored_length s ∙ g.long;
        }

    pub fill_end : (m : ℕ) → n ≡ m → n ≤ i → StoredAt d at (each row m) e
    fill_end m p h = let s : i ≡ m = omega (arith, p, h, g.some) in rw s at g.stored
