-- By the number.
use mathlib.Core.Path.{refl}
use Rattle.load.specs.Loaded.{bag_kind_of}
use Rattle.der.proofs.Choices.{choices}
use Rattle.load.proofs.get.bag_kind_of.Goals as goal

pub returns-in-1 : goal.returns-in-1
unfolding bag_kind_of
returns-in-1 c = rw c.in-1.is refl

pub returns-in-2 : goal.returns-in-2
unfolding bag_kind_of
returns-in-2 c = rw c.in-2.is refl

pub returns-in-3 : goal.returns-in-3
unfolding bag_kind_of
returns-in-3 c = rw c.in-3.is refl

pub returns-in-4 : goal.returns-in-4
unfolding bag_kind_of
returns-in-4 c = rw c.in-4.is refl

pub returns-in-5 : goal.returns-in-5
unfolding bag_kind_of
returns-in-5 c = rw c.in-5.is refl

pub returns-in-6 : goal.returns-in-6
unfolding bag_kind_of
returns-in-6 c = rw c.in-6.is refl

pub returns-in_default : goal.returns-in_default
unfolding bag_kind_of
returns-in_default c = search choices depth 14
