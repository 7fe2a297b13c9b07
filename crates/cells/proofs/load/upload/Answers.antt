-- Each field at its cell.
use mathlib.Core.Path.{refl}
use Rattle.cells.proofs.Outcomes.{upload_read}
use Rattle.cells.proofs.load.upload.Goals as goal

pub returns-clause-held : goal.returns-clause-held
returns-clause-held c = (
  c.if-cells-lt-UPLOAD_LENGTH.false,
  upload_read _ _ _ c.plain.ensures c.due_of-due.ensures refl refl refl refl c.ends.ensures,
)
