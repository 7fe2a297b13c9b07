-- The set at the end of a bag: none, or the attributes in its body.
use Rattle.der.proofs.Choices.{handed}
use Rattle.reader.proofs.Attributes.{end_refused, end_none, end_fits, end_ready, end_returns}
use Rattle.reader.proofs.rows.attributes.Goals as goal

pub overflow_add-more : goal.overflow_add-more
overflow_add-more c =
    end_fits _ c.args.number _ _ _ _ c.args.n c.requires _ c.set_at.ensures _ c.in_ok-set.was _ c.in-Some.is c.args.s.fits

pub set_body-requires : goal.set_body-requires
set_body-requires c =
    end_ready _ c.args.number _ _ _ _ c.args.n c.requires _ c.set_at.ensures _ c.in_ok-set.was _ c.in-Some.is

pub returns-in_err-set : goal.returns-in_err-set
returns-in_err-set c =
    end_refused _ _ _ _ _ _ _ c.requires _ c.set_at.ensures _ _ c.in_err-set.was (handed _ _ c.from_residual.ensures)

pub returns-in_default : goal.returns-in_default
returns-in_default c =
    end_none _ _ _ _ _ _ _ c.requires _ c.set_at.ensures _ c.in_ok-set.was c.in_default.not-Some

pub returns : goal.returns
returns c =
    end_returns _ _ _ _ _ _ _ c.requires _ c.set_at.ensures _ c.in_ok-set.was _ c.in-Some.is _ _ c.set_body.ensures
