-- Loops that write rows: any lists, one behind another.
use mathlib.Core.List.{List}
use mathlib.Core.Path.{◌≡◌}
use Prim.Native.Nat.{ℕ, suc, ◌+◌, ◌≤◌, ◌<◌}
use native.Mathlib.Omega.{arith}
use Rattle.buffer.specs.declared.write.Out.{Out}
use Rattle.buffer.specs.Placed.{each}
use Rattle.buffer.specs.Wrote.{Wrote}
use Rattle.buffer.proofs.Wrote.{wrote_nothing, ◌then◌}

-- i of n lines were written
pub record Lined (line : ℕ → List ℕ) (d : Out) (n : ℕ) (e : Out) (i : ℕ) : Type 0 where
  pub some : i ≤ n
  pub put : Wrote d (each line i) e

module _ (line : ℕ → List ℕ) (d : Out) (n : ℕ) where
  pub lines_start : Lined line d n d 0
  unfolding each
  lines_start = record { some = omega arith; put = wrote_nothing d }

  module _ (e : Out) (i : ℕ) (g : Lined line d n e i) where
    pub lines_turn : (f : Out) → i < n → Wrote e (line i) f → Lined line d n f (i + 1)
    unfolding each
    lines_turn f h w = let s : i + 1 ≡ suc i = omega arith in record { some = omega (arith, h); put = rw s (g.put then w) }

    pub lines_end : (m : ℕ) → n ≡ m → n ≤ i → Wrote d (each line m) e
    lines_end m p h = let s : i ≡ m = omega (arith, p, h, g.some) in rw s at g.put
