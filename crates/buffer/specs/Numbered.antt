-- The numbers of this crate, each beside the name that the definitions use for it.
use Rattle.std.specs.Prelude.{List, [], ◌∷◌, ℕ}
use Rattle.der.specs.Named.{Named}
use Rattle.buffer.specs.Numbers.{too_long, short_buffer, not_sound, file_bytes}

-- Rules 5.9 to 5.11
unfoldable pub named_refusals : List (ℕ × ℕ)
named_refusals = (too_long, 9) ∷ (short_buffer, 10) ∷ (not_sound, 11) ∷ []

-- Rule 1.1 (a file's bytes)
unfoldable pub named_sizes : List (ℕ × ℕ)
named_sizes = (file_bytes, 65_535) ∷ []

-- all of them
pub record NumbersNamed : Type 0 where
  pub refusals : Named named_refusals
  pub sizes : Named named_sizes
