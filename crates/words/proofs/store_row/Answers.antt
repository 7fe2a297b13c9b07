-- As for a table.
use Rattle.buffer.specs.Report.{written_report}
use Rattle.buffer.proofs.Outcomes.{refusal_answer, refusal_buffer}
use native.Mathlib.Omega.{arith}
use Rattle.words.proofs.Whole.{few_for_row, row_answer, row_memory}
use mathlib.Core.Path.{ap}
use Rattle.words.proofs.store_row.Goals as goal

pub returns-then-out-lt-ATTRIBUTE_WIDTH-clause-value : goal.returns-then-out-lt-ATTRIBUTE_WIDTH-clause-value
returns-then-out-lt-ATTRIBUTE_WIDTH-clause-value c =
    let x = c.args.row in
    refusal_answer _ _ _ (few_for_row x _ (omega (arith, c.if-out-lt-ATTRIBUTE_WIDTH.true))) _ c.too_few.ensures

pub returns-then-out-lt-ATTRIBUTE_WIDTH-clause-report : goal.returns-then-out-lt-ATTRIBUTE_WIDTH-clause-report
returns-then-out-lt-ATTRIBUTE_WIDTH-clause-report c = ap written_report (returns-then-out-lt-ATTRIBUTE_WIDTH-clause-value c)

pub returns-then-out-lt-ATTRIBUTE_WIDTH-clause-out_after : goal.returns-then-out-lt-ATTRIBUTE_WIDTH-clause-out_after
returns-then-out-lt-ATTRIBUTE_WIDTH-clause-out_after c =
    let x = c.args.row in
    refusal_buffer _ _ _ (few_for_row x _ (omega (arith, c.if-out-lt-ATTRIBUTE_WIDTH.true)))

pub returns-clause-value : goal.returns-clause-value
returns-clause-value c =
    let x = c.args.row in
    row_answer x _ (omega (arith, c.if-out-lt-ATTRIBUTE_WIDTH.false)) _ (omega arith)

pub returns-clause-report : goal.returns-clause-report
returns-clause-report c = ap written_report (returns-clause-value c)

pub returns-clause-out_after : goal.returns-clause-out_after
returns-clause-out_after c =
    let x = c.args.row in
    row_memory x _ (omega (arith, c.if-out-lt-ATTRIBUTE_WIDTH.false)) _ c.put.ensures
