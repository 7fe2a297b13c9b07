-- As the definition says.
use Rattle.der.proofs.Choices.{choices, told_true, told_false}
use Rattle.stream.specs.Upload.{body_before}
use Rattle.stream.proofs.Rules.{body_before_lem}
use Rattle.stream.proofs.nest.body_from.Goals as goal

pub returns-then-is_refused : goal.returns-then-is_refused
unfolding body_before
returns-then-is_refused c = search (choices, told_true, body_before_lem) depth 14

pub returns-then-start-stop : goal.returns-then-start-stop
unfolding body_before
returns-then-start-stop c = search (choices, told_true, told_false, body_before_lem) depth 14

pub returns : goal.returns
unfolding body_before
returns c = search (choices, told_true, told_false, body_before_lem) depth 14
