-- What `all` returned says whether the test holds of each row.
use Rattle.std.proofs.Common.{rules}
use Rattle.pkcs12.specs.Checks.{attribute_test}
use Rattle.pkcs12.specs.Table.{rows_in}
use Rattle.sound.proofs.Rules.{each}
use Rattle.sound.proofs.checks.attributes_test.Goals as goal

pub returns : goal.returns
unfolding rows_in
returns c = each (attribute_test c.args.bytes.now) c.all.result (rows_in c.args.table).attributes (search rules)
