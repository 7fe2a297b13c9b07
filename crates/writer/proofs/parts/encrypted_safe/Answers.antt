-- The content behind the head of its ContentInfo.
use Rattle.pkcs12.specs.Identifiers.{encrypted_type}
use Rattle.writer.proofs.Elements.{encrypted_put}
use Rattle.writer.proofs.parts.encrypted_safe.Goals as goal

pub returns : goal.returns
unfolding encrypted_type
returns c =
    encrypted_put _ _ _ c.encrypted_data-size.ensures c.element.ensures c.info_head.ensures
    c.encrypted_data.ensures
