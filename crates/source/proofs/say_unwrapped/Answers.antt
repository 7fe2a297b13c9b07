-- The whole line is handed on: it is shorter than the buffer.
use mathlib.Core.Path.{refl}
use Rattle.std.proofs.Common.{rules}
use Rattle.source.proofs.Sources.{whole_line}
use Rattle.stdio.proofs.Handed.{at_ok}
use Rattle.source.proofs.say_unwrapped.Goals as goal

pub returns : goal.returns
returns c =
    at_ok c.write_error.result _ _
    (λ k e.
    whole_line c.args.n k _ _ _ _ c.unwrapped_line.ensures refl (search rules)
    (search (rules, c.unwrapped_line.ensures.same)) c.part.ensures e)
    c.write_error.ensures
