-- Memory that is too short stays as it is; else its front is filled.
use mathlib.Core.Path.{sym, ap, ◌∙◌}
use mathlib.Core.List.{List, ◌++◌}
use Prim.Native.Nat.{ℕ}
use native.Mathlib.Omega.{arith}
use lib.ListN.{drop}
use lib.Seq.{length-take-le}
use Rattle.der.proofs.Promised.{all_bytes}
use Rattle.pkcs12.specs.Report.{answer_report}
use Rattle.words.specs.Layout.{table_words}
use Rattle.reader.specs.Memory.{Into}
use Rattle.reader.proofs.Filled.{into_short, into_whole}
use Rattle.reader.proofs.read_into.Goals as goal

pub returns-then-memory-lt-TABLE_WORDS-clause-value : goal.returns-then-memory-lt-TABLE_WORDS-clause-value
returns-then-memory-lt-TABLE_WORDS-clause-value c =
    sym (ap (λ (y : Into). y.answer) (into_short _ c.args.memory.now c.if-memory-lt-TABLE_WORDS.true))

pub returns-then-memory-lt-TABLE_WORDS-clause-report : goal.returns-then-memory-lt-TABLE_WORDS-clause-report
returns-then-memory-lt-TABLE_WORDS-clause-report c =
    ap answer_report (returns-then-memory-lt-TABLE_WORDS-clause-value c)

pub returns-then-memory-lt-TABLE_WORDS-clause-memory_after : goal.returns-then-memory-lt-TABLE_WORDS-clause-memory_after
returns-then-memory-lt-TABLE_WORDS-clause-memory_after c =
    sym (ap (λ (y : Into). y.memory) (into_short _ c.args.memory.now c.if-memory-lt-TABLE_WORDS.true))

pub returns-then-memory-lt-TABLE_WORDS-clause-bytes : goal.returns-then-memory-lt-TABLE_WORDS-clause-bytes
returns-then-memory-lt-TABLE_WORDS-clause-bytes c = search all_bytes

pub slice_bounds-fill-end-2 : goal.slice_bounds-fill-end-2
slice_bounds-fill-end-2 c =
    sym (length-take-le table_words c.args.memory.now (omega (arith, c.if-memory-lt-TABLE_WORDS.false)))

pub fill-requires : goal.fill-requires
fill-requires c =
    length-take-le table_words c.args.memory.now (omega (arith, c.if-memory-lt-TABLE_WORDS.false))

pub returns-clause-value : goal.returns-clause-value
returns-clause-value c =
    c.fill.ensures.value
    ∙ sym (ap (λ (y : Into). y.answer) (into_whole _ c.args.memory.now c.if-memory-lt-TABLE_WORDS.false))

pub returns-clause-report : goal.returns-clause-report
returns-clause-report c = ap answer_report (returns-clause-value c)

pub returns-clause-memory_after : goal.returns-clause-memory_after
returns-clause-memory_after c =
    ap (λ (l : List ℕ). l ++ drop table_words c.args.memory.now) c.fill.ensures.memory_after
    ∙ sym (ap (λ (y : Into). y.memory) (into_whole _ c.args.memory.now c.if-memory-lt-TABLE_WORDS.false))

pub returns-clause-bytes : goal.returns-clause-bytes
returns-clause-bytes c = c.fill.ensures.bytes
