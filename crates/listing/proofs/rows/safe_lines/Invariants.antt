use Rattle.listing.specs.Lines.{safe_row_line}
use Rattle.buffer.proofs.Rows.{Lined}
use Rattle.listing.proofs.rows.safe_lines.Given as goal

abbrev pub invariant-loop-i : goal.invariant-loop-i
invariant-loop-i l = Lined (safe_row_line l.fn.table) l.initial.out l.n l.out l.i
