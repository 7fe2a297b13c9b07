-- By the kind.
use Rattle.sizes.proofs.Leaves.{content_nothing, content_key, content_shrouded, content_typed}
use Rattle.sizes.proofs.content.Goals as goal

pub returns-in-None : goal.returns-in-None
returns-in-None c = search content_nothing

pub returns-in-Key : goal.returns-in-Key
returns-in-Key c = search content_key

pub returns-in-ShroudedKey : goal.returns-in-ShroudedKey
returns-in-ShroudedKey c = search content_shrouded

pub returns-in-Certificate : goal.returns-in-Certificate
returns-in-Certificate c = search content_typed
