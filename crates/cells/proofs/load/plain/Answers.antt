-- Each number at its cell.
use Rattle.cells.specs.Cells.{plain_in}
use borrow.Author.Rules.{rules}
use Rattle.cells.proofs.load.plain.Goals as goal

pub returns : goal.returns
unfolding plain_in
returns c = search rules
