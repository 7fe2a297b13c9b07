-- The cells before the ends, then the ends.
use mathlib.Core.Path.{◌∙◌}
use Rattle.std.proofs.lemmas.List.{append-nil}
use Rattle.std.specs.Prelude.{replicate}
use Rattle.cells.specs.Cells.{upload_length}
use Rattle.cells.proofs.Outcomes.{stored_cells}
use Rattle.cells.proofs.put.cells.Goals as goal

pub returns : goal.returns
returns c =
    stored_cells (replicate upload_length 0) c.args.u _ _ _ c.plain_of-p.ensures c.copy_from_slice.ensures.after
    c.copy_from_slice-2.ensures.after ∙ append-nil _
