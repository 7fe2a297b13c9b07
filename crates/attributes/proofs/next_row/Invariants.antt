use Prim.Native.Nat.{◌≤◌, max}
use Rattle.pkcs12.specs.Numbers.{attribute_rows}
use Rattle.attributes.proofs.First.{Next}
use Rattle.attributes.proofs.next_row.Given as goal

abbrev pub invariant-loop-i : goal.invariant-loop-i
invariant-loop-i l = Next l.p l.end l.i × (l.end ≤ attribute_rows) × (l.i ≤ max l.end l.p.at)
