-- The headers and the identifier, one behind another.
use Rattle.writer.proofs.Elements.{bag_head_put}
use Rattle.writer.proofs.parts.bag_head.Goals as goal

pub returns : goal.returns
returns c =
    bag_head_put _ _ _ _ c.bag.ensures c.header.ensures c.bag_id.ensures c.header-2.ensures
