-- By the kind of the row.
use Rattle.writer.proofs.RowingSafes.{safe_nothing, plain_put, encrypted_safe_put}
use Rattle.writer.proofs.rows.safe.Goals as goal

pub returns-in-None : goal.returns-in-None
returns-in-None c = safe_nothing _ _ _ _ _ _ c.requires _ c.in-None.is

pub returns-in-Plain : goal.returns-in-Plain
returns-in-Plain c =
    plain_put _ _ _ _ _ _ c.requires _ _ _ _ _ c.in-Plain.is c.bags-inner.ensures c.data_head.ensures
    c.bags.ensures

pub returns-in-Encrypted : goal.returns-in-Encrypted
returns-in-Encrypted c =
    encrypted_safe_put _ _ _ _ _ _ c.requires _ _ c.in-Encrypted.is c.encrypted_safe.ensures
