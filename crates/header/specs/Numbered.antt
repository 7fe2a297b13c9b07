-- The numbers of this crate, each beside the name that the definitions use for it.
use Rattle.std.specs.Prelude.{List, [], ◌∷◌, ℕ}
use Rattle.der.specs.Named.{Named}
use Rattle.header.specs.Numbers.{surplus, early, upload_levels}

-- Rules 5.19, 5.20
unfoldable pub named_refusals : List (ℕ × ℕ)
named_refusals = (surplus, 19) ∷ (early, 20) ∷ []

-- Rule 10.2 (the levels of an upload)
unfoldable pub named_sizes : List (ℕ × ℕ)
named_sizes = (upload_levels, 20) ∷ []

-- all of them
pub record NumbersNamed : Type 0 where
  pub refusals : Named named_refusals
  pub sizes : Named named_sizes
