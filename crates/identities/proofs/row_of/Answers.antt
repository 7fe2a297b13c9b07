-- The kind and the id that the callees returned.
use Rattle.identities.specs.Identities.{identity_of}
use Rattle.identities.proofs.row_of.Goals as goal

pub returns : goal.returns
unfolding identity_of
returns c = cc
