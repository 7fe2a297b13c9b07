-- As the definition says.
use borrow.Author.Rules.{rules}
use Rattle.stream.specs.Upload.{first, no_ends}
use Rattle.stream.proofs.first.Goals as goal

pub returns : goal.returns
unfolding first no_ends
returns c = search rules
