-- The test over the whole table is computed: each of its entries is the value of its byte.
use mathlib.Core.Path.{refl}
use Rattle.buffer.specs.Text.{ascii}
use Rattle.base64_chars.specs.Alphabet.{alphabet, index_of, value_of, tabulated, value_table}
use Rattle.base64_chars.proofs.values.Goals as goal

pub returns : goal.returns
unfolding value_table tabulated value_of index_of alphabet ascii
returns c = refl
