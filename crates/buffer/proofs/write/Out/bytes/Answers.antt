-- The bytes that the buffer has offsets for are stored.
use mathlib.Core.Path.{refl}
use native.Mathlib.Omega.{arith}
use Rattle.buffer.proofs.Writes.{bytes_past, bytes_put}
use Rattle.buffer.proofs.write.Out.bytes.Goals as goal
use Rattle.buffer.proofs.write.Out.bytes.Goals.{then-self, else-self}

pub returns : goal.returns
returns c =
    elim c.if-self.branch [
      | then-self w ↦
          let next = rw w.self-is at c.after-self.ensures in
          rw w.self-is record {
            put = bytes_put _ _ _ _ w.if-self.true w.min-count.ensures _ _ (omega arith) w.store.ensures next;
            same = refl;
          }
      | else-self w ↦
          let next = rw w.self-is at c.after-self.ensures in
          rw w.self-is record { put = bytes_past _ _ _ _ (omega arith) w.if-self.false next; same = refl }
    ]
