-- By the answer.
use mathlib.Core.Path.{◌∙◌}
use Rattle.p12.proofs.Gives.{row_told}
use Rattle.p12.proofs.row_of.Goals as goal

pub returns : goal.returns
returns c = c.unwrap_or.ensures ∙ row_told c.args.paired
