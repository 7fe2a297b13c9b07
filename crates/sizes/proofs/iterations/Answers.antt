-- Nothing is written for the default.
use Rattle.sizes.proofs.Leaves.{none_written, some_written}
use Rattle.sizes.proofs.iterations.Goals as goal

pub returns-then-n-eq-DEFAULT_ITERATIONS : goal.returns-then-n-eq-DEFAULT_ITERATIONS
returns-then-n-eq-DEFAULT_ITERATIONS c = search none_written

pub returns : goal.returns
returns c = search some_written
