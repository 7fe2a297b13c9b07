-- Each way out is the definition's, by the tests and answers on the way.
use native.Mathlib.Omega.{arith}
use Prim.Native.Nat.{◌<◌}
use Rattle.der.proofs.Choices.{choices}
use Rattle.pkcs12.specs.Numbers.{bag_rows}
use Rattle.pkcs12.specs.Checks.{counts_fit}
use Rattle.sound.proofs.checks.counts_fit.Goals.{then-table-le-SAFE_ROWS, else-table-le-SAFE_ROWS}
use Rattle.sound.proofs.checks.counts_fit.Goals as goal

pub returns-then-table-le-BAG_ROWS : goal.returns-then-table-le-BAG_ROWS
unfolding counts_fit
returns-then-table-le-BAG_ROWS c = search choices depth 14

pub returns-else-table-le-BAG_ROWS : goal.returns-else-table-le-BAG_ROWS
unfolding counts_fit
returns-else-table-le-BAG_ROWS c =
    elim c.if-table-le-SAFE_ROWS.branch [
      | then-table-le-SAFE_ROWS w ↦ let over : bag_rows < c.args.table.bag_count = omega arith in search choices depth 14
      | else-table-le-SAFE_ROWS w ↦ search choices depth 14
    ]
