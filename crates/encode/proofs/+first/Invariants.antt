use Rattle.encode.proofs.+first.Given as goal

abbrev pub decreases-first : goal.decreases-first
decreases-first l = l.n
