-- The tag is tested, and the body found by the length.
use Rattle.der.proofs.Choices.{choices}
use Rattle.der.proofs.Placed.{present_is}
use Rattle.der.proofs.present.Goals.{then-tag-eq0-via-then-tag-eq0, then-tag-eq0-via-else-tag-eq0+then-tag-eq31}
use Rattle.der.proofs.present.Goals as goal

pub returns-then-tag-eq0 : goal.returns-then-tag-eq0
returns-then-tag-eq0 c =
    elim c.then-tag-eq0.branch [
      | then-tag-eq0-via-then-tag-eq0 w ↦ search (present_is, choices) depth 14
      | then-tag-eq0-via-else-tag-eq0+then-tag-eq31 w ↦ search (present_is, choices) depth 14
    ]

pub returns-in_err-body : goal.returns-in_err-body
returns-in_err-body c = search (present_is, choices, c.in_err-body.was) depth 14

pub returns : goal.returns
returns c = search (present_is, choices, c.in_ok-body.was) depth 14
