-- Field by field.
use native.Mathlib.Omega.{arith}
use Rattle.stream.proofs.Rules.{one_more_least}
use Rattle.stream.proofs.nest.counted.Goals as goal

pub returns : goal.returns
returns c =
    let e = one_more_least c.args.u.elements (omega arith) in
    cc
