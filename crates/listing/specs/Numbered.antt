-- The size of this crate, beside the name that the definitions use for it.
use Rattle.std.specs.Prelude.{List, [], ◌∷◌, ℕ}
use Rattle.der.specs.Named.{Named}
use Rattle.listing.specs.Listed.{listing_bytes}

unfoldable pub named_sizes : List (ℕ × ℕ)
named_sizes = (listing_bytes, 65_536) ∷ []

pub record NumbersNamed : Type 0 where
  pub sizes : Named named_sizes
