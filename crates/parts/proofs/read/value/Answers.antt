-- Each way out is the definition's, by the tests and answers on the way.
use Rattle.der.proofs.Choices.{choices, told_true, told_false}
use Rattle.parts.proofs.Rules.{value_step}
use Rattle.parts.proofs.read.value.Goals as goal
use Rattle.parts.proofs.read.value.Goals.{then-octets+in_ok-octet_string, else-octets}

pub returns-in_err-octet_string : goal.returns-in_err-octet_string
returns-in_err-octet_string c = value_step _ _ _ _ (search (choices, told_true, c.in_err-octet_string.was) depth 14)

pub returns : goal.returns
returns c =
    value_step _ _ _ _
    (elim c.if-octets.branch [
      | then-octets+in_ok-octet_string w ↦ search (choices, told_true, w.in_ok-octet_string.was) depth 14
      | else-octets w ↦ search (choices, told_false) depth 14
    ])
