-- Nothing is written for the default.
use borrow.Author.Tests.{eq-eqb, ne_eqb}
use Rattle.pkcs12.specs.Encode.{iterations_bytes}
use Rattle.buffer.proofs.Wrote.{wrote_nothing}
use Rattle.writer.proofs.parts.iterations.Goals as goal

pub returns-then-n-eq-DEFAULT_ITERATIONS : goal.returns-then-n-eq-DEFAULT_ITERATIONS
unfolding iterations_bytes
returns-then-n-eq-DEFAULT_ITERATIONS c = rw (eq-eqb _ _ c.if-n-eq-DEFAULT_ITERATIONS.true) (wrote_nothing _)

pub returns : goal.returns
unfolding iterations_bytes
returns c = rw (ne_eqb _ _ c.if-n-eq-DEFAULT_ITERATIONS.false) c.integer.ensures
