-- The MAC input is stored, and nothing else is counted; then the safes.
use Rattle.parts.proofs.Rules.{body_range_lem}
use Rattle.reader.proofs.OneSafe.{safes_ready, safes_from_lem}
use Rattle.reader.proofs.rows.safes.Goals as goal

pub more_safes-requires : goal.more_safes-requires
more_safes-requires c =
    safes_ready _ c.args.b _ _ c.requires.0 (body_range_lem _ _ c.of.ensures c.requires.1 c.requires.2) _
    c.input.ensures

pub returns : goal.returns
returns c =
    safes_from_lem _ _ _ _ c.requires.0 (body_range_lem _ _ c.of.ensures c.requires.1 c.requires.2) _
    c.input.ensures _ _ _ c.more_safes.ensures
