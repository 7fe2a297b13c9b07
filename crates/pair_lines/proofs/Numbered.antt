-- Each name is its number, computed.
use mathlib.Core.Path.{refl}
use Rattle.der.proofs.Named.{each_named}
use Rattle.pair_lines.specs.Numbered.{NumbersNamed, named_sizes}

pub numbers_named : NumbersNamed
unfolding named_sizes
numbers_named = record { sizes = each_named named_sizes refl }
