-- The refusals first, in their order; then the file is written (Whole).
use Rattle.buffer.specs.Report.{written_report}
use Rattle.buffer.proofs.Outcomes.{refusal_answer, refusal_buffer}
use Rattle.sound.proofs.Whole.{arrays}
use Rattle.writer.proofs.Whole.{refused_unsound, refused_long, refused_short, written_answer, written_buffer}
use borrow.Author.Rules.{rules}
use mathlib.Core.Path.{refl, ap}
use native.Mathlib.Omega.{arith}
use Rattle.der.proofs.Promised.{all_bytes}
use Rattle.writer.proofs.write.Goals as goal

pub returns-then-size-gt-FILE_BYTES-clause-value : goal.returns-then-size-gt-FILE_BYTES-clause-value
returns-then-size-gt-FILE_BYTES-clause-value c =
    let o = refused_long _ _ _ _ c.measure.ensures.value _ c.in-Some.is c.if-size-gt-FILE_BYTES.true in
    refusal_answer _ _ _ o _ c.refused-then-size-gt-FILE_BYTES.ensures

pub returns-then-size-gt-FILE_BYTES-clause-report : goal.returns-then-size-gt-FILE_BYTES-clause-report
returns-then-size-gt-FILE_BYTES-clause-report c = ap written_report (returns-then-size-gt-FILE_BYTES-clause-value c)

pub returns-then-size-gt-FILE_BYTES-clause-out_after : goal.returns-then-size-gt-FILE_BYTES-clause-out_after
returns-then-size-gt-FILE_BYTES-clause-out_after c =
    let o = refused_long _ _ _ _ c.measure.ensures.value _ c.in-Some.is c.if-size-gt-FILE_BYTES.true in
    refusal_buffer _ _ _ o

pub returns-then-size-gt-FILE_BYTES-clause-bytes : goal.returns-then-size-gt-FILE_BYTES-clause-bytes
returns-then-size-gt-FILE_BYTES-clause-bytes c = search all_bytes

pub returns-then-out-size-clause-value : goal.returns-then-out-size-clause-value
returns-then-out-size-clause-value c =
    let o = refused_short _ _ _ _ c.measure.ensures.value _ c.in-Some.is c.if-size-gt-FILE_BYTES.false c.if-out-size.true in
    refusal_answer _ _ _ o _ c.refused-then-out-size.ensures

pub returns-then-out-size-clause-report : goal.returns-then-out-size-clause-report
returns-then-out-size-clause-report c = ap written_report (returns-then-out-size-clause-value c)

pub returns-then-out-size-clause-out_after : goal.returns-then-out-size-clause-out_after
returns-then-out-size-clause-out_after c =
    let o = refused_short _ _ _ _ c.measure.ensures.value _ c.in-Some.is c.if-size-gt-FILE_BYTES.false c.if-out-size.true in
    refusal_buffer _ _ _ o

pub returns-then-out-size-clause-bytes : goal.returns-then-out-size-clause-bytes
returns-then-out-size-clause-bytes c = search all_bytes

pub returns-in_default-clause-value : goal.returns-in_default-clause-value
returns-in_default-clause-value c =
    let o = refused_unsound _ _ _ _ c.measure.ensures.value c.in_default.is in
    refusal_answer _ _ _ o _ c.refused.ensures

pub returns-in_default-clause-report : goal.returns-in_default-clause-report
returns-in_default-clause-report c = ap written_report (returns-in_default-clause-value c)

pub returns-in_default-clause-out_after : goal.returns-in_default-clause-out_after
returns-in_default-clause-out_after c =
    let o = refused_unsound _ _ _ _ c.measure.ensures.value c.in_default.is in
    refusal_buffer _ _ _ o

pub returns-in_default-clause-bytes : goal.returns-in_default-clause-bytes
returns-in_default-clause-bytes c = search all_bytes

pub returns-clause-value : goal.returns-clause-value
returns-clause-value c =
    written_answer _ _ _ _ c.measure.ensures.value _ c.in-Some.is c.if-size-gt-FILE_BYTES.false c.if-out-size.false

pub returns-clause-report : goal.returns-clause-report
returns-clause-report c = ap written_report (returns-clause-value c)

pub returns-clause-out_after : goal.returns-clause-out_after
returns-clause-out_after c =
    written_buffer _ _ _ _ c.measure.ensures.value _ c.in-Some.is c.if-size-gt-FILE_BYTES.false c.if-out-size.false
    (arrays c.args.table (omega arith) (omega arith) (omega arith))
    c.file.ensures refl refl (search (rules, c.file.ensures.same))

pub returns-clause-bytes : goal.returns-clause-bytes
returns-clause-bytes c = search all_bytes
