-- The loop writes a line for each row.
use Rattle.buffer.proofs.Rows.{lines_start, lines_turn, lines_end}
use Prim.Native.Nat.{◌<◌, ◌≤◌}
use native.Mathlib.Omega.{arith}
use Rattle.std.proofs.lemmas.List.{length-take, get_or-take}
use Rattle.listing.proofs.rows.bag_lines.Goals as goal

pub loop-i-init : goal.loop-i-init
loop-i-init c = lines_start _ _ _

pub loop-i-preserved : goal.loop-i-preserved
loop-i-preserved c =
    let h : c.loop-i.i < c.min-n.result = omega (arith, length-take c.min-n.result c.args.table.bags) in
    lines_turn _ _ _ _ _ c.loop-i.invariant _ h (rw get_or-take at (rw c.own_attributes-own.ensures at c.bag_line.ensures))

pub returns : goal.returns
returns c =
    let h : c.min-n.result ≤ c.loop-i.i = omega (arith, length-take c.min-n.result c.args.table.bags) in
    lines_end _ _ _ _ _ c.loop-i.invariant _ c.min-n.ensures h
