-- By what the callees return.
use Rattle.stream.proofs.Rules.{stepped_by}
use Rattle.stream.proofs.step.Goals as goal

pub returns : goal.returns
returns c = search stepped_by
