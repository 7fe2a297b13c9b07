-- The table is computed.
use mathlib.Core.Path.{refl}
use Rattle.buffer.specs.Text.{ascii}
use Rattle.base64_chars.specs.Alphabet.{alphabet}
use Rattle.base64_chars.proofs.letters.Goals as goal

pub returns : goal.returns
unfolding alphabet ascii
returns c = refl
