-- By the number.
use mathlib.Core.Path.{refl}
use Rattle.load.specs.Loaded.{safe_kind_of}
use Rattle.der.proofs.Choices.{choices}
use Rattle.load.proofs.get.safe_kind_of.Goals as goal

pub returns-in-1 : goal.returns-in-1
unfolding safe_kind_of
returns-in-1 c = rw c.in-1.is refl

pub returns-in-2 : goal.returns-in-2
unfolding safe_kind_of
returns-in-2 c = rw c.in-2.is refl

pub returns-in_default : goal.returns-in_default
unfolding safe_kind_of
returns-in_default c = search choices depth 14
