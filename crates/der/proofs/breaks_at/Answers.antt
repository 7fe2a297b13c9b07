-- The byte is tested before its position; the answer is the definition's.
use Rattle.der.proofs.Content.{breaks_there, breaks_nowhere}
use Rattle.der.proofs.breaks_at.Goals as goal

pub returns-then-s-i : goal.returns-then-s-i
returns-then-s-i c = search breaks_there

pub returns : goal.returns
returns c = search breaks_nowhere
