-- The row is stored; then the contents, and that they end what they are in.
use Rattle.der.proofs.Choices.{handed}
use Rattle.reader.proofs.OneSafe.{plain_fits, plain_ready, plain_refused, plain_open, plain_went}
use Rattle.reader.proofs.rows.plain_safe.Goals as goal

pub overflow_add-more-2 : goal.overflow_add-more-2
overflow_add-more-2 c = plain_fits _ _ _ c.args.body c.args.string c.args.content c.args.next c.requires c.args.s.fits

pub safe_contents-requires : goal.safe_contents-requires
safe_contents-requires c = (
  tt,
  plain_ready _ _ _ c.args.body c.args.string c.args.content c.args.next c.requires _ c.safe_row.ensures _
      c.safe.ensures,
)

pub returns-in_err-inner : goal.returns-in_err-inner
returns-in_err-inner c =
    plain_refused _ _ _ c.args.body c.args.string c.args.content c.args.next c.requires _ c.safe_row.ensures _
    c.safe.ensures _ _ c.safe_contents.ensures _ _ c.in_err-inner.was (handed _ _ c.from_residual.ensures)

pub returns-in_err-closed : goal.returns-in_err-closed
returns-in_err-closed c =
    plain_open _ _ _ c.args.body c.args.string c.args.content c.args.next c.requires _ c.safe_row.ensures _
    c.safe.ensures _ _ c.safe_contents.ensures _ c.in_ok-inner.was _ c.closed.ensures _ _ c.in_err-closed.was
    (handed _ _ c.from_residual-in_err-closed.ensures)

pub returns : goal.returns
returns c =
    plain_went _ _ _ c.args.body c.args.string c.args.content c.args.next c.requires _ c.safe_row.ensures _
    c.safe.ensures _ _ c.safe_contents.ensures _ c.in_ok-inner.was _ c.closed.ensures _ c.in_ok-closed.was
