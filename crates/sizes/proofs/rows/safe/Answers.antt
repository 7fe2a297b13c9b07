-- By the kind of the row.
use Rattle.sizes.proofs.MeasuresSafes.{safe_none_sized, safe_plain_sized, safe_encrypted_sized}
use Rattle.sizes.proofs.rows.safe.Goals as goal

pub returns-in-None : goal.returns-in-None
returns-in-None c = safe_none_sized _ _ _ _ _ _ c.requires c.in-None.is

pub returns-in-Plain : goal.returns-in-Plain
returns-in-Plain c =
    safe_plain_sized _ _ _ _ _ _ c.requires _ _ _ c.in-Plain.is
    c.bags-taken.ensures c.data-body.ensures c.element.ensures

pub returns-in-Encrypted : goal.returns-in-Encrypted
returns-in-Encrypted c =
    safe_encrypted_sized _ _ _ _ _ _ c.requires _ _ _ _ c.in-Encrypted.is
    c.encrypted_data-content.ensures c.element-in-Encrypted.ensures c.content_info-info.ensures
    c.element-in-Encrypted-2.ensures
