use Rattle.writer.proofs.RowingSafes.{SafesPutting}
use Rattle.writer.proofs.rows.safes.Given as goal

abbrev pub invariant-loop-k : goal.invariant-loop-k
invariant-loop-k l =
    SafesPutting l.table l.bytes l.end l.initial.out l.out l.so_far l.k
