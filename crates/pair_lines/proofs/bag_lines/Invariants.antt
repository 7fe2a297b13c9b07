use Rattle.buffer.proofs.Rows.{Lined}
use Rattle.pair_lines.specs.Lines.{pair_row_line}
use Rattle.pair_lines.proofs.bag_lines.Given as goal

abbrev pub invariant-loop-i : goal.invariant-loop-i
invariant-loop-i l = Lined (pair_row_line l.fn.table l.file) l.initial.out l.n l.out l.i
