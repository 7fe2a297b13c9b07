-- The high digits first, bounded by one digit less; then the last one.
use Rattle.buffer.proofs.Writes.{digits_none, digits_last, digits_more}
use Rattle.buffer.proofs.write.Out.+digits.Goals as goal
use Rattle.buffer.proofs.write.Out.+digits.Goals.{then-n-ge10, else-n-ge10}

pub returns-then-places-eq0 : goal.returns-then-places-eq0
returns-then-places-eq0 t c = search digits_none

pub returns : goal.returns
returns t c =
    elim c.if-n-ge10.branch [
      | then-n-ge10 w ↦
          digits_more _ _ _ _ _ c.if-places-eq0.false w.if-n-ge10.true w.digits.ensures (rw w.self-is at c.byte.ensures)
      | else-n-ge10 w ↦ digits_last _ _ _ _ c.if-places-eq0.false w.if-n-ge10.false (rw w.self-is at c.byte.ensures)
    ]
