-- The text is made whole; then the refusal, or the text is written.
use mathlib.Core.Path.{refl, ◌∙◌}
use lib.ListN.{take}
use Rattle.std.proofs.Common.{rules, ap, arith, ℕ, length-take}
use Rattle.der.proofs.Promised.{all_bytes}
use Rattle.buffer.specs.Report.{written_report}
use Rattle.pair_lines.specs.Lines.{pairs_text}
use Rattle.pair_lines.proofs.Ways.{made_most, list_refused, list_wrote}
use Rattle.pair_lines.proofs.list.Goals as goal

pub returns-then-out-n-clause-value : goal.returns-then-out-n-clause-value
unfolding pairs_text
returns-then-out-n-clause-value c = (list_refused _ _ _ _ c.answered.ensures refl _ (omega (arith, c.if-out-n.true))).0

pub returns-then-out-n-clause-report : goal.returns-then-out-n-clause-report
returns-then-out-n-clause-report c = ap written_report (returns-then-out-n-clause-value c)

pub returns-then-out-n-clause-out_after : goal.returns-then-out-n-clause-out_after
unfolding pairs_text
returns-then-out-n-clause-out_after c = (list_refused _ _ _ _ c.answered.ensures refl _ (omega (arith, c.if-out-n.true))).1

pub returns-then-out-n-clause-bytes : goal.returns-then-out-n-clause-bytes
returns-then-out-n-clause-bytes c = search all_bytes

pub slice_bounds-text-end : goal.slice_bounds-text-end
unfolding pairs_text
slice_bounds-text-end c = omega (arith, made_most _ _ _ _ c.answered.ensures refl)

pub slice_bounds-bytes-end : goal.slice_bounds-bytes-end
unfolding pairs_text
slice_bounds-bytes-end c =
    omega (arith, made_most _ _ _ _ c.answered.ensures refl, length-take {A = ℕ})

pub returns-clause-value : goal.returns-clause-value
unfolding pairs_text
returns-clause-value c =
    (list_wrote _ _ _ _ c.answered.ensures refl _ c.if-out-n.false (omega arith) _
    (ap (take _) (search (rules, c.answered.ensures.same))) _ _ c.bytes.ensures.put).0

pub returns-clause-report : goal.returns-clause-report
returns-clause-report c = ap written_report (returns-clause-value c)

pub returns-clause-out_after : goal.returns-clause-out_after
unfolding pairs_text
returns-clause-out_after c =
    search (rules, c.bytes.ensures.same) ∙ (list_wrote _ _ _ _ c.answered.ensures refl _ c.if-out-n.false (omega arith) _
    (ap (take _) (search (rules, c.answered.ensures.same))) _ _ c.bytes.ensures.put).1

pub returns-clause-bytes : goal.returns-clause-bytes
returns-clause-bytes c = search all_bytes
