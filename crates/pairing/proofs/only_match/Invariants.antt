-- With what was found so far, the rows that are due come to what all rows come to.
use Rattle.pairing.proofs.Folds.{Due}
use Rattle.pairing.proofs.only_match.Given as goal

abbrev pub invariant-loop-i : goal.invariant-loop-i
invariant-loop-i l = Due l.bytes l.key l.rows l.found l.i
