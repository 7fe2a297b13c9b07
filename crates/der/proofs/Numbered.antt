-- Each name is its number, computed.
use mathlib.Core.Path.{refl}
use Rattle.der.specs.Numbered.{NumbersNamed, named_refusals, named_sizes, named_tags, named_integers}
use Rattle.der.proofs.Named.{each_named}

pub numbers_named : NumbersNamed
unfolding named_refusals named_sizes named_tags named_integers
numbers_named =
    record {
      refusals = each_named named_refusals refl;
      sizes = each_named named_sizes refl;
      tags = each_named named_tags refl;
      integers = each_named named_integers refl;
    }
