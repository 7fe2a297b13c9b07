-- The numbers that only the calls for C have, beside the names that the definitions use for them.
use Rattle.std.specs.Prelude.{List, [], ◌∷◌, ℕ}
use Rattle.der.specs.Named.{Named}
use Rattle.p12.specs.Calls.{ok, done}

unfoldable pub named_refusals : List (ℕ × ℕ)
named_refusals = (ok, 0) ∷ (done, 255) ∷ []

pub record NumbersNamed : Type 0 where
  pub refusals : Named named_refusals
