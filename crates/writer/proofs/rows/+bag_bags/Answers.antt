-- A bag is written with the bags in it: the level falls. Each writes what its definition takes
-- (Rowing).
use mathlib.Core.Path.{refl, sym, ap, ◌∙◌}
use Rattle.std.specs.Prelude.{Some}
use native.Mathlib.Omega.{arith}
use Rattle.writer.proofs.Rowing.{bag_nothing, bag_of_leaf, bag_deep, nest_body, nest_put}
use Rattle.writer.proofs.Rowing.{bags_begin, bags_done, bags_other_place, bags_no_bag}
use Rattle.writer.proofs.Rowing.{bags_one_more}
use Rattle.writer.proofs.rows.+bag_bags.Goals as goal

pub bag-leaf-requires : goal.bag-leaf-requires
bag-leaf-requires t c =
    (c.requires.0, sym c.form_of.ensures.value ∙ c.in-Some-Leaf.is ∙ ap Some c.in-Some-Leaf.field-0-is)

pub bag-returns-in_default : goal.bag-returns-in_default
bag-returns-in_default t c =
    bag_deep _ _ _ _ _ _ _ c.requires.1 _ c.form_of.ensures.value (c.in-Some-Nested.is ∙ ap Some c.in-Some-Nested.field-0-is) _
    (omega (arith, c.in_default.ensures))

pub bag-set-end-requires : goal.bag-set-end-requires
bag-set-end-requires t c =
    let nested = c.in-Some-Nested.is ∙ ap Some c.in-Some-Nested.field-0-is in
    nest_body _ _ c.args.level _ _ _ _ c.requires.1 _ c.form_of.ensures.value nested c.in-Some.below
    (omega (arith, c.in-Some.ensures)) _ c.bags-inner.ensures _
    c.set-owned.ensures _ _ _ c.bags-all.ensures

pub bag-returns-in-None : goal.bag-returns-in-None
bag-returns-in-None t c =
    bag_nothing _ _ c.args.level c.args.safe _ _ _ c.requires.1 _ c.form_of.ensures.value _
    c.in-None.is

pub bag-returns-in-Some-Leaf : goal.bag-returns-in-Some-Leaf
bag-returns-in-Some-Leaf t c =
    bag_of_leaf _ _ c.args.level c.args.safe _ _ _ c.requires.1 _ c.form_of.ensures.value _ _ _
    (c.in-Some-Leaf.is ∙ ap Some c.in-Some-Leaf.field-0-is) c.leaf.ensures

pub bag-returns-in-Some : goal.bag-returns-in-Some
bag-returns-in-Some t c =
    let nested = c.in-Some-Nested.is ∙ ap Some c.in-Some-Nested.field-0-is in
    nest_put _ _ _ _ _ _ _ c.requires.1 _ c.form_of.ensures.value nested c.in-Some.below
    (omega (arith, c.in-Some.ensures)) _ c.bags-inner.ensures _
    c.set-owned.ensures _ _ _ c.bags-all.ensures _ _ _ _ _ c.element.ensures
    c.bag_head.ensures c.header.ensures c.set-end.ensures

pub bags-loop-so_far-init : goal.bags-loop-so_far-init
bags-loop-so_far-init t c = bags_begin _ _ _ _ _ _ _ _ _ c.min-end.ensures

pub bags-returns-then-not-belongs : goal.bags-returns-then-not-belongs
bags-returns-then-not-belongs t c =
    bags_other_place _ _ _ _ _ _ _ _ _ _ _ c.loop-so_far.invariant c.loop-so_far-test.true _ c.belongs.ensures
    c.if-not-belongs.true

pub bags-bag-so_far-requires : goal.bags-bag-so_far-requires
bags-bag-so_far-requires t c =
    (omega arith, (omega (arith, c.loop-so_far-test.true, c.loop-so_far.invariant.within), refl))

pub bags-returns-then-so_far-n : goal.bags-returns-then-so_far-n
bags-returns-then-so_far-n t c =
    bags_no_bag _ _ _ _ _ _ _ _ _ _ _ c.loop-so_far.invariant c.loop-so_far-test.true _ c.belongs.ensures c.if-not-belongs.false _
    _ c.bag-so_far.ensures c.if-so_far-n.true

pub bags-loop-so_far-preserved : goal.bags-loop-so_far-preserved
bags-loop-so_far-preserved t c =
    bags_one_more _ _ _ _ _ _ _ _ _ _ _ c.loop-so_far.invariant c.loop-so_far-test.true _ c.belongs.ensures c.if-not-belongs.false
    _ _ c.bag-so_far.ensures c.if-so_far-n.false

pub bags-returns : goal.bags-returns
bags-returns t c = bags_done _ _ _ _ _ _ _ _ _ _ _ c.loop-so_far.invariant c.loop-so_far-test.false
