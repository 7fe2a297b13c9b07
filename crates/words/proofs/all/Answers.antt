-- The parts, and at last the end of the table.
use Rattle.words.proofs.Filled.{table_stored}
use Rattle.words.proofs.all.Goals as goal

pub returns : goal.returns
returns c =
    table_stored c.args.table _ _ _ _ _ _ c.requires c.input.ensures c.rows.ensures c.rows-2.ensures
    c.rows-3.ensures c.finish.ensures
