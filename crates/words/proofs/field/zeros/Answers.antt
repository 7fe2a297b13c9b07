-- The words from one offset up to the other are filled.
use Rattle.words.proofs.Stores.{zeros_stored}
use Rattle.words.proofs.field.zeros.Goals as goal

pub returns : goal.returns
returns c = zeros_stored _ _ _ _ c.requires.0 c.requires.1 (c.fill.ensures.after (λ y h. h))
