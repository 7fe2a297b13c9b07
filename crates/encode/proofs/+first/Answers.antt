-- The first digit of the number without its last one.
use Rattle.encode.proofs.Writes.{first_small, first_more}
use Rattle.encode.proofs.+first.Goals as goal

pub returns-then-n-lt256 : goal.returns-then-n-lt256
returns-then-n-lt256 t c = search first_small

pub returns : goal.returns
returns t c = search first_more
