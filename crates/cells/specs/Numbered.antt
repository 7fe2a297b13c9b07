-- The size of this crate, beside the name that the definitions use for it.
use Rattle.std.specs.Prelude.{List, [], ◌∷◌, ℕ}
use Rattle.der.specs.Named.{Named}
use Rattle.cells.specs.Cells.{upload_length}

-- the cells of an upload
unfoldable pub named_sizes : List (ℕ × ℕ)
named_sizes = (upload_length, 29) ∷ []

pub record NumbersNamed : Type 0 where
  pub sizes : Named named_sizes
