-- The headers and the identifier, one behind another.
use Rattle.writer.proofs.Elements.{info_head_put}
use Rattle.writer.proofs.parts.info_head.Goals as goal

pub returns : goal.returns
returns c =
    info_head_put _ _ _ c.content_info.ensures c.header.ensures c.element.ensures c.header-2.ensures
