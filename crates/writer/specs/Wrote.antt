-- What the functions that write do where a condition holds, by which the sizes that they compute are
-- the true ones. In any case `Out` keeps its buffer.
use Rattle.std.specs.Prelude.{◌≡◌, List, ℕ}
use Rattle.buffer.specs.declared.write.Out.{Out}
use Rattle.buffer.specs.Placed.{Placed, Short}

pub record WroteIf (P : Type 0) (d : Out) (x : List ℕ) (e : Out) : Type 0 where
  pub put : P → Placed d.buffer.now d.at x e.buffer.now e.at
  pub same : e.buffer.ghost_name ≡ d.buffer.ghost_name

-- the condition that sizes which are capped need: x is no longer than a file
abbrev pub WroteShort : Out → List ℕ → Out → Type 0
WroteShort d x e = WroteIf (Short x) d x e
