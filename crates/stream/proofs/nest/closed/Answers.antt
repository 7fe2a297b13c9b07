-- As the definition says.
use Rattle.der.proofs.Choices.{choices}
use Rattle.stream.specs.Upload.{closed_to}
use Rattle.stream.proofs.Rules.{closed_to_lem}
use Rattle.stream.proofs.nest.closed.Goals as goal

pub returns-then-depth-gt0 : goal.returns-then-depth-gt0
unfolding closed_to
returns-then-depth-gt0 c = search (choices, closed_to_lem) depth 14

pub returns-then-p-u : goal.returns-then-p-u
unfolding closed_to
returns-then-p-u c = search (choices, closed_to_lem) depth 14

pub returns : goal.returns
unfolding closed_to
returns c = search (choices, closed_to_lem) depth 14
