-- By the test.
use mathlib.Core.Path.{◌≡◌, refl}
use mathlib.Core.Bool.{Bool, true, false, not}
use lib.Dec.{eqb}
use Rattle.std.specs.Prelude.{if◌then◌else◌}
use Rattle.load.specs.Loaded.{set_of}
use Rattle.load.proofs.get.set_of.Goals as goal

unset : (t : Bool) → not t ≡ (if t then false else true)
unset true = refl
unset false = refl

pub returns : goal.returns
unfolding set_of
returns c = unset (eqb c.args.w 0)
