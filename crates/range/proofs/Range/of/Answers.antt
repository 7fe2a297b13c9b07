-- The two offsets, cut.
use Prim.Native.Nat.{ℕ, ◌<◌, min}
use mathlib.Core.Path.{◌≡◌}
use native.Mathlib.Omega.{arith}
use Rattle.std.specs.Prelude.{Result, Ok, Err}
use Rattle.std.specs.Result.{OkIff, result_unwrap_or}
use Rattle.range.specs.Range.{body_range}
use Rattle.range.proofs.Range.of.Goals as goal

-- an offset that fits 16 bits, or else the greatest that does
cut : {E : Type 0} (n : ℕ) (w : Result ℕ E) → OkIff w (n < 65536) n → result_unwrap_or w 65535 ≡ min n 65535
cut n (Ok x) h = omega (arith, h.0, h.1)
cut n (Err e) h = omega (arith, h)

pub returns : goal.returns
unfolding body_range
returns c = rw (c.unwrap_or.ensures, c.unwrap_or-2.ensures, cut _ _ c.try_from.ensures, cut _ _ c.try_from-2.ensures)
