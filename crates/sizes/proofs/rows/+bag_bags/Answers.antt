-- A bag calls for the bags in it: the level falls. Each is measured as its definition takes rows
-- (Measures).
use native.Mathlib.Omega.{arith}
use mathlib.Core.Path.{refl, ap, ◌∙◌}
use Rattle.std.specs.Prelude.{Some}
use Rattle.sizes.proofs.Measures.{one_none, one_leaf, one_too_deep, one_nest, bags_starts}
use Rattle.sizes.proofs.Measures.{bags_ends, bags_leaves, bags_nots, bags_goes, bags_less}
use Rattle.sizes.proofs.rows.+bag_bags.Goals as goal

pub bag-returns-in_err-form_of : goal.bag-returns-in_err-form_of
bag-returns-in_err-form_of t c =
    c.from_residual.ensures ∙ one_none _ _ c.args.level c.args.safe _ _ _ c.requires.1 _
    c.form_of.ensures.value c.in_err-form_of.was

pub bag-returns-in_err-below-in-Nested : goal.bag-returns-in_err-below-in-Nested
bag-returns-in_err-below-in-Nested t c =
    c.from_residual-in_err-below-in-Nested.ensures ∙ one_too_deep _ _ _ _ _ _ _ c.requires.1 _
    c.form_of.ensures.value (c.in_ok-form_of.was ∙ ap Some c.in-Nested.is)
    (omega (arith, c.in_err-below-in-Nested.ensures))

pub bag-returns-in-Leaf : goal.bag-returns-in-Leaf
bag-returns-in-Leaf t c =
    one_leaf _ _ c.args.level c.args.safe _ _ _ c.requires.1 _ c.form_of.ensures.value _ _ _
    (c.in_ok-form_of.was ∙ ap Some c.in-Leaf.is)
    c.content-content.ensures c.set-owned.ensures c.one_bag.ensures

pub bag-returns-in_ok-below-in-Nested : goal.bag-returns-in_ok-below-in-Nested
bag-returns-in_ok-below-in-Nested t c =
    one_nest _ _ _ _ _ _ _ c.requires.1 _ c.form_of.ensures.value (c.in_ok-form_of.was ∙ ap Some c.in-Nested.is) _
    (omega (arith, c.in_ok-below-in-Nested.ensures)) _ _ _ _ c.bags-inner.ensures c.element-content.ensures
    c.set-owned-in-Nested.ensures c.one_bag-in-Nested.ensures

pub bags-loop-taken-init : goal.bags-loop-taken-init
bags-loop-taken-init t c = bags_starts _ _ _ _ _ _ _ _ c.min-end.ensures

pub bags-returns-then-not-belongs : goal.bags-returns-then-not-belongs
bags-returns-then-not-belongs t c =
    bags_leaves _ _ _ _ _ _ _ _ _ c.loop-taken.invariant c.loop-taken-test.true _ c.belongs.ensures
    c.if-not-belongs.true

pub bags-bag-requires : goal.bags-bag-requires
bags-bag-requires t c =
    (omega arith, (omega (arith, c.loop-taken-test.true, c.loop-taken.invariant.within), refl))

pub bags-returns-in_default : goal.bags-returns-in_default
bags-returns-in_default t c =
    bags_nots _ _ _ _ _ _ _ _ _ c.loop-taken.invariant c.loop-taken-test.true _ c.belongs.ensures
    c.if-not-belongs.false _ c.bag.ensures c.in_default.is

pub bags-loop-taken-smaller : goal.bags-loop-taken-smaller
bags-loop-taken-smaller t c =
    bags_less _ _ _ _ _ _ _ _ _ c.loop-taken.invariant c.loop-taken-test.true _ c.belongs.ensures
    c.if-not-belongs.false _ c.bag.ensures _ _ c.in-Some.is c.joined-taken.ensures

pub bags-loop-taken-preserved : goal.bags-loop-taken-preserved
bags-loop-taken-preserved t c =
    bags_goes _ _ _ _ _ _ _ _ _ c.loop-taken.invariant c.loop-taken-test.true _ c.belongs.ensures
    c.if-not-belongs.false _ c.bag.ensures _ _ c.in-Some.is c.joined-taken.ensures

pub bags-returns : goal.bags-returns
bags-returns t c = bags_ends _ _ _ _ _ _ _ _ _ c.loop-taken.invariant c.loop-taken-test.false
