-- The headers, one behind another.
use Rattle.pkcs12.specs.Identifiers.{data_type}
use Rattle.writer.proofs.Elements.{data_head_put}
use Rattle.writer.proofs.parts.data_head.Goals as goal

pub returns : goal.returns
unfolding data_type
returns c =
    data_head_put _ _ _ _ c.element-string.ensures c.element-content.ensures c.info_head.ensures
    c.header.ensures c.header-2.ensures
