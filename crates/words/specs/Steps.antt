-- What the private functions store.
use Rattle.std.specs.Prelude.{◌≡◌, List, ℕ}
use Rattle.std.proofs.lemmas.List.Edits.{sets}

-- The memory is m before and e afterwards: the words x are in it from an offset on.
pub record StoredAt (m : List ℕ) (at : ℕ) (x e : List ℕ) : Type 0 where
  pub words : e ≡ sets m at x
