-- By the first digit: a zero goes before one that would be taken for a sign.
use Rattle.encode.proofs.Writes.{octets_plain, octets_led}
use Rattle.encode.proofs.write.octets.Goals as goal
use Rattle.encode.proofs.write.octets.Goals.{then-first-ge128, else-first-ge128}

pub returns : goal.returns
returns c =
    elim c.if-first-ge128.branch [
      | then-first-ge128 w ↦
          octets_led _ _ c.first.ensures _ _ _ w.if-first-ge128.true w.byte.ensures (rw w.out-is at c.digits.ensures)
      | else-first-ge128 w ↦ octets_plain _ _ c.first.ensures _ _ w.if-first-ge128.false (rw w.out-is at c.digits.ensures)
    ]
