-- The bytes of the number, high first.
use native.Mathlib.Omega.{arith}
use Rattle.buffer.proofs.Wrote.{wrote_as}
use Rattle.buffer.proofs.Writes.{four_octets}
use Rattle.buffer.proofs.write.Out.u32_be.Goals as goal

pub returns : goal.returns
returns c = wrote_as (four_octets _ _ (omega arith) c.to_be_bytes-four.ensures) c.bytes.ensures
