-- The bytes from the first to the last are all of them.
use Rattle.der.proofs.Content.{whole_body_lem}
use Rattle.der.proofs.names_type.Goals as goal

pub returns : goal.returns
returns c = search whole_body_lem
