-- The rows that name the bag are counted.
use Prim.Native.Nat.{◌≤◌}
use mathlib.Core.Path.{◌≡◌}
use native.Mathlib.Omega.{arith}
use lib.Dec.{eqb}
use lib.ListN.{length, take}
use borrow.Author.Rules.{rules}
use Rattle.std.specs.List.{count_by}
use Rattle.std.proofs.lemmas.List.{length-take}
use Rattle.pkcs12.specs.declared.row.AttributeRow.{AttributeRow}
use Rattle.listing.proofs.Loops.{own_counted}
use Rattle.listing.proofs.rows.own_attributes.Goals as goal

pub returns : goal.returns
returns c =
    let h : c.min-n.result ≤ length c.args.table.attributes = omega (arith, length-take c.min-n.result c.args.table.attributes) in
    let k : c.count.result ≡ count_by (λ (r : AttributeRow). eqb r.bag c.args.bag) (take c.min-n.result c.args.table.attributes) = search rules in
    own_counted _ _ _ _ _ h c.min-n.ensures k
