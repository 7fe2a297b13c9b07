-- The numbers of this crate, each beside the name that the definitions use for it.
use Rattle.std.specs.Prelude.{List, [], ◌∷◌, ℕ}
use Rattle.der.specs.Named.{Named}
use Rattle.pairing.specs.Numbers.{no_certificate, more_certificates}

-- Rules 5.13, 5.14
unfoldable pub named_refusals : List (ℕ × ℕ)
named_refusals = (no_certificate, 13) ∷ (more_certificates, 14) ∷ []

pub record NumbersNamed : Type 0 where
  pub refusals : Named named_refusals
