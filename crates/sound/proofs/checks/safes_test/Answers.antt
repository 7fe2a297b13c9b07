-- What `all` returned says whether the test holds of each row.
use Rattle.std.proofs.Common.{rules}
use Rattle.pkcs12.specs.Checks.{safe_test}
use Rattle.pkcs12.specs.Table.{rows_in}
use Rattle.sound.proofs.Rules.{each}
use Rattle.sound.proofs.checks.safes_test.Goals as goal

pub returns : goal.returns
unfolding rows_in
returns c = each (safe_test c.args.bytes.now) c.all.result (rows_in c.args.table).safes (search rules)
