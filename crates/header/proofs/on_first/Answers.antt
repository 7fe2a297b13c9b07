-- As the definition says; `deep` is a test of its own.
use Rattle.der.proofs.Choices.{choices, told_true, told_false}
use Rattle.header.specs.Header.{on_first}
use Rattle.header.proofs.on_first.Goals as goal
use Rattle.header.proofs.on_first.Goals.{else-deep-via-then-deep+else-most-wide, else-deep-via-else-deep}

pub returns-then-b-eq0 : goal.returns-then-b-eq0
unfolding on_first
returns-then-b-eq0 c = search (choices, told_true, told_false) depth 14

pub returns-then-wide-least : goal.returns-then-wide-least
unfolding on_first
returns-then-wide-least c = search (choices, told_true, told_false) depth 14

pub returns-then-most-wide : goal.returns-then-most-wide
unfolding on_first
returns-then-most-wide c = search (choices, told_true, told_false) depth 14

pub returns : goal.returns
unfolding on_first
returns c =
    elim c.else-deep.branch [
      | else-deep-via-then-deep+else-most-wide w ↦ search (choices, told_true, told_false) depth 14
      | else-deep-via-else-deep w ↦ search (choices, told_true, told_false) depth 14
    ]
