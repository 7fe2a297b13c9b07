-- What a method of `Out` does: the bytes x are put at its offset, which moves behind them. `Out` keeps
-- its buffer.
use Rattle.std.specs.Prelude.{◌≡◌, List, ℕ}
use Rattle.buffer.specs.declared.write.Out.{Out}
use Rattle.buffer.specs.Placed.{Placed}

pub record Wrote (d : Out) (x : List ℕ) (e : Out) : Type 0 where
  pub put : Placed d.buffer.now d.at x e.buffer.now e.at
  pub same : e.buffer.ghost_name ≡ d.buffer.ghost_name
