-- The tag's bit is tested, and then the body's ends.
use mathlib.Core.Path.{refl}
use Prim.Native.Nat.{◌/◌, ◌%◌}
use borrow.Author.Tests.{eq-eqb}
use Rattle.der.proofs.Choices.{choices}
use Rattle.der.specs.Opaque.{childless}
use Rattle.der.proofs.childless.Goals as goal

pub returns-then-found-eq0 : goal.returns-then-found-eq0
unfolding childless
returns-then-found-eq0 c = rw (eq-eqb (c.args.found.tag / 32 % 2) 0 c.if-found-eq0.true) refl

pub returns-else-found-eq0 : goal.returns-else-found-eq0
unfolding childless
returns-else-found-eq0 c = search choices depth 14
