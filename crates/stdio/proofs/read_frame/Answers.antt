-- An error comes while the length is read, or behind it.
use Rattle.std.proofs.Common.{rules}
use Rattle.std.proofs.lemmas.Result.{on_err_weaker}
use Rattle.stdio.proofs.Frames.{at_any_err, in_body, in_length}
use Rattle.stdio.proofs.read_frame.Goals as goal

pub returns-in_err-got-clause-err : goal.returns-in_err-got-clause-err
returns-in_err-got-clause-err g c =
    at_any_err c.from_residual.result _
    (in_length _ _ c.read_all.new.buffer c.args.buffer.now (search rules) c.in_err-got.ensures.err)

pub returns-clause-err : goal.returns-clause-err
returns-clause-err g c =
    on_err_weaker c.read_body.result
    (in_body _ _ _ c.read_all.new.buffer c.read_body.new.buffer c.in_ok-got.got (search rules)
    c.in_ok-got.ensures.bytes)
    c.read_body.ensures.err
