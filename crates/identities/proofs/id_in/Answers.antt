-- The one element is an OCTET STRING, another, or there is none or more than one.
use Rattle.std.proofs.Common.{arith}
use Rattle.identities.proofs.Rules.{was_ok, was_refused, id_refused, id_more, id_only}
use Rattle.identities.proofs.id_in.Goals as goal

pub returns-in_err-found : goal.returns-in_err-found
returns-in_err-found c =
    id_refused _ _ _ c.octet_string.ensures.value _ (was_refused _ _ c.ok.ensures.value c.in_err-found.was)
    c.from_residual.ensures

pub returns-then-found : goal.returns-then-found
returns-then-found c =
    id_more _ _ _ c.octet_string.ensures.value _ (was_ok _ _ _ c.ok.ensures.value c.in_ok-found.was) c.if-found.true

pub returns : goal.returns
returns c =
    id_only _ _ _ c.octet_string.ensures.value _ (was_ok _ _ _ c.ok.ensures.value c.in_ok-found.was) (omega arith)
    c.if-found.false _ c.of.ensures
