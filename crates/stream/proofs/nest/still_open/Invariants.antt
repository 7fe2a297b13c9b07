use mathlib.Core.Path.{◌≡◌}
use Rattle.stream.specs.Upload.{still_open}
use Rattle.stream.proofs.nest.still_open.Given as goal

abbrev pub invariant-loop-i : goal.invariant-loop-i
invariant-loop-i l = still_open l.ends l.i l.p ≡ still_open l.ends l.depth l.p
