-- Three digits more behind the first, each bound 256 times the last.
use native.Mathlib.Omega.{arith}
use Rattle.der.proofs.Content.{and_digit_next}
use Rattle.der.specs.Content.{integer_value}
use borrow.Author.Rules.{rules}
use Rattle.der.proofs.integer_value.Goals as goal

pub and_digit-v3-requires : goal.and_digit-v3-requires
and_digit-v3-requires c =
    let first = and_digit_next _ _ _ _ 128 _ c.and_digit-v2.ensures c.requires.first (c.type_inv.s _) in
    (search rules, omega (arith, first))

pub and_digit-requires : goal.and_digit-requires
and_digit-requires c =
    let first = and_digit_next _ _ _ _ 128 _ c.and_digit-v2.ensures c.requires.first (c.type_inv.s _) in
    let second = and_digit_next _ _ _ _ 32768 _ c.and_digit-v3.ensures (omega (arith, first)) (c.type_inv.s _) in
    (search rules, omega (arith, first, second))

pub returns : goal.returns
unfolding integer_value
returns c = cc
