-- The bytes of the number, high first.
use native.Mathlib.Omega.{arith}
use Rattle.buffer.proofs.Wrote.{wrote_as}
use Rattle.buffer.proofs.Writes.{two_octets}
use Rattle.buffer.proofs.write.Out.u16_be.Goals as goal

pub returns : goal.returns
returns c = wrote_as (two_octets _ _ (omega arith) c.to_be_bytes-two.ensures) c.bytes.ensures
