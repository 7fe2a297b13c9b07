-- The remainder stays below its divisor, so that no step wraps.
use Rattle.std.proofs.Common.{◌<◌}
use Rattle.test_files.proofs.runs.summed.Given as goal

abbrev pub invariant-loop-b : goal.invariant-loop-b
invariant-loop-b l = l.remainder < 65521
