-- Each name is its number, computed.
use mathlib.Core.Path.{refl}
use Rattle.der.proofs.Named.{each_named}
use Rattle.pairing.specs.Numbered.{NumbersNamed, named_refusals}

pub numbers_named : NumbersNamed
unfolding named_refusals
numbers_named = record { refusals = each_named named_refusals refl }
