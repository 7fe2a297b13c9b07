-- Every field is the definition's.
use Rattle.der.proofs.Choices.{choices}
use Rattle.attributes.specs.Reader.{refused_by}
use Rattle.attributes.proofs.refused.Goals as goal

pub returns : goal.returns
unfolding refused_by
returns c = search choices depth 14
