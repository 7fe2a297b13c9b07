-- Each way out is the definition's, by the tests and answers on the way; offsets fit a range, and
-- no sum overflows.
use Rattle.der.proofs.Choices.{choices}
use native.Mathlib.Omega.{arith}
use Rattle.reader.specs.Steps.{attribute_values_at}
use Rattle.parts.proofs.Rules.{made, expected_from, expected_to}
use Rattle.reader.proofs.Heads.{elements_fits}
use Rattle.reader.proofs.bags.attribute_values.Goals as goal

pub range_of-requires : goal.range_of-requires
range_of-requires c =
    let p = c.requires in
    let l = c.args.s.fits in
    (omega (arith, p, l), omega (arith, p, l))

pub range_of-requires-2 : goal.range_of-requires-2
range_of-requires-2 c =
    let e = c.expect.ensures.value in
    let f = c.in_ok-set.was in
    let l = c.args.s.fits in
    (expected_from _ _ _ _ _ e f l, expected_to _ _ _ _ _ e f l)

pub overflow_add-result : goal.overflow_add-result
overflow_add-result c = search (elements_fits, c.in_ok-set.was, c.in_ok-values.was)

pub returns-in_err-set : goal.returns-in_err-set
unfolding attribute_values_at
returns-in_err-set c = search (choices, c.in_err-set.was) depth 14

pub returns-in_err-values : goal.returns-in_err-values
unfolding attribute_values_at
returns-in_err-values c = search (choices, c.in_ok-set.was, c.in_err-values.was) depth 14

pub returns-in_err-finish : goal.returns-in_err-finish
unfolding attribute_values_at
returns-in_err-finish c = search (choices, c.in_ok-set.was, c.in_ok-values.was, c.in_err-finish.was) depth 14

pub returns : goal.returns
unfolding attribute_values_at
returns c = search (choices, made, c.in_ok-set.was, c.in_ok-values.was, c.in_ok-finish.was) depth 14
