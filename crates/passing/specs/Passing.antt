-- That bytes pass the check of the whole upload.
use Rattle.std.specs.Prelude.{◌≡◌, List, ℕ, ◌≤◌}
use Rattle.header.specs.Numbers.{upload_levels}
use Rattle.uploads.specs.Whole.{Tally, Passed, whole}

-- Rule 10.2: the bytes f pass, and the greatest level of an element in them is at most 20
pub record Passes (f : List ℕ) : Type 0 where
  pub tally : Tally
  pub passes : whole f ≡ Passed tally
  pub level : tally.level ≤ upload_levels
