-- As the definition says.
use Rattle.der.proofs.Choices.{choices}
use Rattle.header.specs.Header.{on_tag}
use Rattle.header.proofs.on_tag.Goals as goal
use Rattle.header.proofs.on_tag.Goals.{then-b-eq0-via-then-b-eq0, then-b-eq0-via-else-b-eq0+then-b-eq31}

pub returns-then-b-eq0 : goal.returns-then-b-eq0
unfolding on_tag
returns-then-b-eq0 c =
    elim c.then-b-eq0.branch [
      | then-b-eq0-via-then-b-eq0 w ↦ search choices depth 14
      | then-b-eq0-via-else-b-eq0+then-b-eq31 w ↦ search choices depth 14
    ]

pub returns-then-end-next : goal.returns-then-end-next
unfolding on_tag
returns-then-end-next c = search choices depth 14

pub returns : goal.returns
unfolding on_tag
returns c = search choices depth 14
