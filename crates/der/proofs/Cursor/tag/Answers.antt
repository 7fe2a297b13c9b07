-- The next byte is read as the definition tests for it.
use native.Mathlib.Omega.{arith}
use Rattle.der.proofs.Choices.{choices, told_true, told_false}
use Rattle.der.proofs.Placed.{left_within}
use Rattle.der.specs.Element.{tag_at}
use Rattle.der.proofs.Cursor.tag.Goals as goal

pub returns-then-no_byte_left : goal.returns-then-no_byte_left
unfolding tag_at
returns-then-no_byte_left c = search (choices, told_true) depth 14

pub bounds-s-here : goal.bounds-s-here
bounds-s-here c =
    let l = c in
    omega (arith, left_within _ l.args.self _ l.no_byte_left.ensures c.if-no_byte_left.false)

pub returns : goal.returns
unfolding tag_at
returns c = search (choices, told_false) depth 14
