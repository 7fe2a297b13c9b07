use mathlib.Core.Path.{◌≡◌}
use Prim.Native.Nat.{◌≤◌}
use lib.Seq.{slice}
use Rattle.der.specs.Content.{identifier_body, parts}
use Rattle.der.specs.Content.{begins_at}
use Rattle.der.proofs.is_identifier.Given as goal

abbrev pub invariant-loop-i : goal.invariant-loop-i
invariant-loop-i l =
    (identifier_body (slice l.from l.to l.s) ≡ parts (begins_at l.s l.from l.i) (slice l.i l.to l.s)) × (l.i ≤ l.last)
