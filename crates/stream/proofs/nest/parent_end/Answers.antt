-- None is open, or some are.
use Rattle.stream.proofs.Rules.{parent_none, parent_some}
use borrow.Author.Rules.{rules}
use Rattle.stream.proofs.nest.parent_end.Goals as goal

pub returns-then-depth-eq0 : goal.returns-then-depth-eq0
returns-then-depth-eq0 c = search (parent_none, parent_some, rules)

pub returns : goal.returns
returns c = search (parent_none, parent_some, rules)
