-- The first localKeyID of the bag is looked into, if there is one.
use Rattle.identities.proofs.Rules.{id_found, id_none}
use Rattle.identities.proofs.id_of.Goals as goal

pub returns-in_err-row : goal.returns-in_err-row
returns-in_err-row c = id_none _ _ _ _ c.key_row.ensures _ c.in_err-row.was c.from_residual.ensures

pub returns : goal.returns
returns c = id_found _ _ _ _ c.key_row.ensures _ _ c.in_ok-row.was c.id_in.ensures
