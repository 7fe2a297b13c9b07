-- The file is read into words, and its table loaded from them.
use mathlib.Core.Path.{refl}
use Rattle.pkcs12.specs.Report.{answer_report}
use Rattle.reader.proofs.Filled.{read_value}
use mathlib.Core.Path.{ap}
use Rattle.reader.proofs.read.Goals as goal

pub slice_bounds-fill-end : goal.slice_bounds-fill-end
slice_bounds-fill-end c = refl

pub fill-answer-requires : goal.fill-answer-requires
fill-answer-requires c = refl

pub returns-clause-value : goal.returns-clause-value
returns-clause-value c =
    read_value _ c.fill-answer.ensures.bytes _ c.fill-answer.ensures.value _ c.fill-answer.ensures.memory_after _
    c.table-table.ensures

pub returns-clause-answer_value : goal.returns-clause-answer_value
returns-clause-answer_value c = ap (λ r. answer_report r.answer) (returns-clause-value c)

pub returns-clause-bytes : goal.returns-clause-bytes
returns-clause-bytes c = c.fill-answer.ensures.bytes
