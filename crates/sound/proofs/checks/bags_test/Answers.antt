-- What `all` returned says whether the test holds of each row.
use Rattle.std.proofs.Common.{rules}
use Rattle.pkcs12.specs.Checks.{bag_test}
use Rattle.pkcs12.specs.Table.{rows_in}
use Rattle.sound.proofs.Rules.{each}
use Rattle.sound.proofs.checks.bags_test.Goals as goal

pub returns : goal.returns
unfolding rows_in
returns c = each (bag_test c.args.bytes.now) c.all.result (rows_in c.args.table).bags (search rules)
