-- Refused where there are too few words; else the whole is stored (Whole).
use Rattle.buffer.specs.Report.{written_report}
use Rattle.buffer.proofs.Outcomes.{refusal_answer, refusal_buffer}
use native.Mathlib.Omega.{arith}
use Rattle.words.proofs.Whole.{few_for_table, table_answer, table_memory}
use mathlib.Core.Path.{ap}
use Rattle.words.proofs.store.Goals as goal

pub returns-then-out-lt-TABLE_WORDS-clause-value : goal.returns-then-out-lt-TABLE_WORDS-clause-value
returns-then-out-lt-TABLE_WORDS-clause-value c =
    let x = c.args.table in
    refusal_answer _ _ _ (few_for_table x _ (omega (arith, c.if-out-lt-TABLE_WORDS.true))) _ c.too_few.ensures

pub returns-then-out-lt-TABLE_WORDS-clause-report : goal.returns-then-out-lt-TABLE_WORDS-clause-report
returns-then-out-lt-TABLE_WORDS-clause-report c = ap written_report (returns-then-out-lt-TABLE_WORDS-clause-value c)

pub returns-then-out-lt-TABLE_WORDS-clause-out_after : goal.returns-then-out-lt-TABLE_WORDS-clause-out_after
returns-then-out-lt-TABLE_WORDS-clause-out_after c =
    let x = c.args.table in
    refusal_buffer _ _ _ (few_for_table x _ (omega (arith, c.if-out-lt-TABLE_WORDS.true)))

pub returns-clause-value : goal.returns-clause-value
returns-clause-value c =
    let x = c.args.table in
    table_answer x _ (omega (arith, c.if-out-lt-TABLE_WORDS.false)) _ (omega arith)

pub returns-clause-report : goal.returns-clause-report
returns-clause-report c = ap written_report (returns-clause-value c)

pub returns-clause-out_after : goal.returns-clause-out_after
returns-clause-out_after c =
    let x = c.args.table in
    table_memory x _ (omega (arith, c.if-out-lt-TABLE_WORDS.false)) _ c.all.ensures
