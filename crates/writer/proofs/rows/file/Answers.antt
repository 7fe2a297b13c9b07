-- The parts of a PFX behind its header, which has their size.
use Rattle.writer.proofs.RowingSafes.{all_put_file}
use Rattle.writer.proofs.rows.file.Goals as goal

pub returns : goal.returns
returns c =
    all_put_file _ _ _ _ _ c.all_safes-all.ensures c.mac-mac.ensures c.pfx.ensures c.header.ensures
    c.integer.ensures c.data_head.ensures c.safes.ensures c.mac.ensures
