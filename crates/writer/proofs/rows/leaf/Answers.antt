-- The head, the content and the set, one behind another.
use Rattle.sizes.proofs.Taken.{owned_body}
use Rattle.writer.proofs.Rowing.{leaf_put}
use Rattle.writer.proofs.rows.leaf.Goals as goal

pub set-next-requires : goal.set-next-requires
set-next-requires c =
    owned_body _ _ c.set-owned.ensures

pub returns : goal.returns
returns c =
    leaf_put _ _ _ _ _ _ _ _ _ _ _ _ c.requires.1 c.content-content.ensures c.set-owned.ensures c.bag_head.ensures
    c.content.ensures c.set-next.ensures
