-- The table is computed.
use mathlib.Core.Path.{refl}
use Rattle.pkcs12.specs.Table.{empty_table, table_of}
use Rattle.pkcs12.proofs.table.Table.empty.Goals as goal

pub returns : goal.returns
unfolding empty_table table_of
returns c = refl
