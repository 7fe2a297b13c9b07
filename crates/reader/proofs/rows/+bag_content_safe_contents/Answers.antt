-- Safe contents call their bags, a bag what is in it, and a nested one its contents: the level falls.
-- Each is its definition (OneBag, Nesting).
use native.Mathlib.Omega.{arith}
use borrow.Author.Rules.{rules}
use Rattle.der.proofs.Choices.{handed}
use Rattle.reader.proofs.OneBag.{bag_refused, bag_few, bag_fits, bag_inside, inner_refused, inner_on}
use Rattle.reader.proofs.OneBag.{bag_ends, inside_nested, inside_ready, inside_leaf}
use Rattle.reader.proofs.Nesting.{contents_refused, contents_deep, contents_fits, contents_start}
use Rattle.reader.proofs.Nesting.{contents_end, bag_stops, bag_on, bag_less}
use Rattle.reader.proofs.rows.+bag_content_safe_contents.Goals as goal

pub bag-returns-in_err-found : goal.bag-returns-in_err-found
bag-returns-in_err-found t c =
    bag_refused _ c.args.below c.args.safe c.args.enclosing _ _ _ c.requires _ c.bag_at.ensures _ _
    c.in_err-found.was (handed _ _ c.from_residual.ensures)

pub bag-overflow_cast-number : goal.bag-overflow_cast-number
bag-overflow_cast-number t c =
    omega (
      arith,
      bag_few _ c.args.below c.args.safe c.args.enclosing _ _ _ c.requires _ c.bag_at.ensures _
          c.in_ok-found.was,
    )

pub bag-overflow_add-more : goal.bag-overflow_add-more
bag-overflow_add-more t c =
    omega (
      arith,
      bag_few _ c.args.below c.args.safe c.args.enclosing _ _ _ c.requires _ c.bag_at.ensures _
          c.in_ok-found.was,
    )

pub bag-overflow_add-more-2 : goal.bag-overflow_add-more-2
bag-overflow_add-more-2 t c =
    bag_fits _ c.args.below c.args.safe c.args.enclosing _ _ _ c.requires _ c.bag_at.ensures _
    c.in_ok-found.was c.args.s.fits

pub bag-content-requires : goal.bag-content-requires
bag-content-requires t c = (
  omega arith,
  bag_inside _ c.args.below c.args.safe c.args.enclosing _ _ _ c.requires _ c.bag_at.ensures _
      c.in_ok-found.was _ c.bag_row-stored.ensures _ c.bag.ensures,
)

pub bag-returns-in_err-inner : goal.bag-returns-in_err-inner
bag-returns-in_err-inner t c =
    inner_refused _ c.args.below c.args.safe c.args.enclosing _ _ _ c.requires _ c.bag_at.ensures _
    c.in_ok-found.was _ c.bag_row-stored.ensures _ c.bag.ensures _ _ c.content.ensures _ _ c.in_err-inner.was
    (handed _ _ c.from_residual-in_err-inner.ensures)

pub bag-attributes-requires : goal.bag-attributes-requires
bag-attributes-requires t c =
    inner_on _ c.args.below c.args.safe c.args.enclosing _ _ _ c.requires _ c.bag_at.ensures _
    c.in_ok-found.was _ c.bag_row-stored.ensures _ c.bag.ensures _ _ c.content.ensures _ c.in_ok-inner.was

pub bag-returns : goal.bag-returns
bag-returns t c =
    bag_ends _ c.args.below c.args.safe c.args.enclosing _ _ _ c.requires _ c.bag_at.ensures _
    c.in_ok-found.was _ c.bag_row-stored.ensures _ c.bag.ensures _ _ c.content.ensures _ c.in_ok-inner.was _ _
    c.attributes.ensures

pub content-safe_contents-requires : goal.content-safe_contents-requires
content-safe_contents-requires t c = (
  omega arith,
  inside_ready c.args.below c.args.s.bytes.now _ c.args.safe _ _ _ c.args.c c.requires _ c.is_nested.ensures
      c.if-is_nested.true,
)

pub content-returns-then-is_nested : goal.content-returns-then-is_nested
content-returns-then-is_nested t c =
    inside_nested c.args.below _ _ c.args.safe _ _ _ c.args.c c.requires _ c.is_nested.ensures
    c.if-is_nested.true _ _ c.safe_contents.ensures

pub content-returns : goal.content-returns
content-returns t c =
    inside_leaf c.args.below _ _ c.args.safe _ _ _ c.args.c c.requires _ c.is_nested.ensures
    c.if-is_nested.false

pub safe_contents-returns-in_err-found : goal.safe_contents-returns-in_err-found
safe_contents-returns-in_err-found t c =
    contents_refused _ c.args.level c.args.safe c.args.enclosing _ _ _ c.requires.1 _
    c.expect.ensures.value _ _ c.in_err-found.was (handed _ _ c.from_residual.ensures)

pub safe_contents-returns-then-level-eq0 : goal.safe_contents-returns-then-level-eq0
safe_contents-returns-then-level-eq0 t c =
    contents_deep _ c.args.level c.args.safe c.args.enclosing _ _ _ c.requires.1 _
    c.expect.ensures.value _ c.in_ok-found.was c.if-level-eq0.true

pub safe_contents-overflow_add-so_far : goal.safe_contents-overflow_add-so_far
safe_contents-overflow_add-so_far t c =
    contents_fits _ c.args.level c.args.safe c.args.enclosing _ _ _ c.requires.1 _
    c.expect.ensures.value _ c.in_ok-found.was c.args.s.fits

pub safe_contents-loop-at-init : goal.safe_contents-loop-at-init
safe_contents-loop-at-init t c =
    contents_start _ c.args.level c.args.safe c.args.enclosing _ _ _ c.requires.1 _
    c.expect.ensures.value _ c.in_ok-found.was c.if-level-eq0.false

pub safe_contents-bag-requires : goal.safe_contents-bag-requires
safe_contents-bag-requires t c =
    (omega (arith, c.if-level-eq0.false), (c.requires.0, c.loop-at.invariant.ready))

pub safe_contents-returns-in_err-one : goal.safe_contents-returns-in_err-one
safe_contents-returns-in_err-one t c =
    bag_stops _ c.args.level c.args.safe c.args.enclosing _ _ _ c.requires.1 _ c.expect.ensures.value _
    c.in_ok-found.was c.if-level-eq0.false _ _ _ c.loop-at.invariant _ (search rules) _ c.loop-at-test.true
    c.bag.ensures _ _ c.in_err-one.was (handed _ _ c.from_residual-in_err-one.ensures)

pub safe_contents-loop-at-smaller : goal.safe_contents-loop-at-smaller
safe_contents-loop-at-smaller t c =
    bag_less _ c.args.level c.args.safe c.args.enclosing _ _ _ c.requires.1 _ c.expect.ensures.value _
    c.in_ok-found.was c.if-level-eq0.false _ _ _ c.loop-at.invariant _ (search rules) _ c.loop-at-test.true
    c.bag.ensures _ c.in_ok-one.was

pub safe_contents-loop-at-preserved : goal.safe_contents-loop-at-preserved
safe_contents-loop-at-preserved t c =
    bag_on _ c.args.level c.args.safe c.args.enclosing _ _ _ c.requires.1 _ c.expect.ensures.value _
    c.in_ok-found.was c.if-level-eq0.false _ _ _ c.loop-at.invariant _ (search rules) _ c.loop-at-test.true
    c.bag.ensures _ c.in_ok-one.was

pub safe_contents-returns : goal.safe_contents-returns
safe_contents-returns t c =
    contents_end _ c.args.level c.args.safe c.args.enclosing _ _ _ c.requires.1 _ c.expect.ensures.value _
    c.in_ok-found.was c.if-level-eq0.false _ _ _ c.loop-at.invariant c.loop-at-test.false
