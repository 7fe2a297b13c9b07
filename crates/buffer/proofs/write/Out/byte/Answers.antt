-- A byte is stored if the buffer has its offset.
use mathlib.Core.Path.{refl}
use native.Mathlib.Omega.{arith}
use Rattle.buffer.proofs.Writes.{byte_past, byte_put}
use Rattle.buffer.proofs.write.Out.byte.Goals as goal
use Rattle.buffer.proofs.write.Out.byte.Goals.{then-self, else-self}

pub returns : goal.returns
returns c =
    elim c.if-self.branch [
      | then-self w ↦
          let next = rw w.self-is at c.after-self.ensures in
          rw w.self-is record { put = byte_put _ _ _ (omega arith) _ next; same = refl }
      | else-self w ↦
          let next = rw w.self-is at c.after-self.ensures in
          rw w.self-is record { put = byte_past _ _ _ (omega arith) _ w.if-self.false next; same = refl }
    ]
