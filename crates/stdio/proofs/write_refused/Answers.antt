-- The whole line is handed on: it is shorter than the buffer.
use mathlib.Core.Path.{refl}
use Rattle.std.proofs.Common.{rules}
use Rattle.stdio.proofs.Handed.{at_ok, equal_begun, equal_bytes, whole_line, whole_text}
use Rattle.stdio.proofs.write_refused.Goals as goal

pub returns-clause-count : goal.returns-clause-count
returns-clause-count g c =
    at_ok c.write_front.result _ _
    (λ k e. whole_line _ _ _ _ c.refused.ensures refl (search rules) (search (rules, c.refused.ensures.same)) k e)
    c.write_front.ensures.count

pub returns-clause-bytes : goal.returns-clause-bytes
returns-clause-bytes g c =
    equal_bytes c.write_front.result _ _ _ _
    (whole_text _ _ _ _ c.refused.ensures refl (search rules) (search (rules, c.refused.ensures.same)))
    c.write_front.ensures.bytes

pub returns-clause-err : goal.returns-clause-err
returns-clause-err g c =
    equal_begun c.write_front.result _ _ _ _
    (whole_text _ _ _ _ c.refused.ensures refl (search rules) (search (rules, c.refused.ensures.same)))
    c.write_front.ensures.err
