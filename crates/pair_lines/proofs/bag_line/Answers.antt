-- A key has a line, another bag none.
use Rattle.pair_lines.proofs.Ways.{is_line, no_line}
use Rattle.pair_lines.proofs.bag_line.Goals as goal

pub returns-then-not-is_key : goal.returns-then-not-is_key
returns-then-not-is_key c = no_line _ _ _ c.is_key.ensures c.if-not-is_key.true _ _

pub returns : goal.returns
returns c =
    is_line _ _ _ c.is_key.ensures _ c.if-not-is_key.false _ _ _ c.certificate_for-paired.ensures.value
    c.pair_line.ensures
