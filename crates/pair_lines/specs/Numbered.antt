-- The size of this crate, beside the name that the definitions use for it.
use Rattle.std.specs.Prelude.{List, [], ◌∷◌, ℕ}
use Rattle.der.specs.Named.{Named}
use Rattle.pair_lines.specs.Listed.{pairs_bytes}

unfoldable pub named_sizes : List (ℕ × ℕ)
named_sizes = (pairs_bytes, 4_288) ∷ []

pub record NumbersNamed : Type 0 where
  pub sizes : Named named_sizes
