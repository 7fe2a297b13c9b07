-- Each name is its number, computed.
use mathlib.Core.Path.{refl}
use Rattle.der.proofs.Named.{each_named}
use Rattle.header.specs.Numbered.{NumbersNamed, named_refusals, named_sizes}

pub numbers_named : NumbersNamed
unfolding named_refusals named_sizes
numbers_named = record { refusals = each_named named_refusals refl; sizes = each_named named_sizes refl }
