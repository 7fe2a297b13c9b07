-- By the answer.
use mathlib.Core.Path.{◌∙◌}
use Rattle.p12.proofs.Gives.{length_told}
use Rattle.p12.proofs.length_of.Goals as goal

pub returns : goal.returns
returns c = c.unwrap_or.ensures ∙ length_told c.args.written
