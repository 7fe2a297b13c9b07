-- The sizes of the parts make that of the whole.
use Rattle.sizes.specs.Sizes.{data_size}
use Rattle.encode.proofs.Capped.{sizing}
use Rattle.sizes.proofs.Nears.{told_content_info}
use Rattle.sizes.proofs.data.Goals as goal

pub returns : goal.returns
unfolding data_size
returns c = search (sizing, told_content_info) depth 14
