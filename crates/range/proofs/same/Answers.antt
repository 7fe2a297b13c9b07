-- What `==` of the two slices says.
use Rattle.range.proofs.SameBytes.{same_told}
use Rattle.range.proofs.same.Goals as goal

pub returns : goal.returns
returns c = search same_told
