-- The high digits first, then the last one.
use Rattle.encode.proofs.Writes.{digits_last, digits_then}
use Rattle.encode.proofs.write.+digits.Goals as goal
use Rattle.encode.proofs.write.+digits.Goals.{then-n-ge256, else-n-ge256}

pub returns : goal.returns
returns t c =
    elim c.if-n-ge256.branch [
      | then-n-ge256 w ↦ digits_then _ _ _ _ w.if-n-ge256.true w.digits.ensures (rw w.out-is at c.byte.ensures)
      | else-n-ge256 w ↦ digits_last _ _ _ w.if-n-ge256.false (rw w.out-is at c.byte.ensures)
    ]
