-- What is left over is refused as the definition tests for it.
use Rattle.der.proofs.Choices.{choices}
use Rattle.der.specs.Report.{checked_report}
use Rattle.der.specs.Element.{finish_at}
use mathlib.Core.Path.{ap}
use Rattle.der.proofs.Cursor.finish.Goals as goal

pub returns-then-left-end-clause-value : goal.returns-then-left-end-clause-value
unfolding finish_at
returns-then-left-end-clause-value c = search choices depth 14

pub returns-then-left-end-clause-report : goal.returns-then-left-end-clause-report
returns-then-left-end-clause-report c = ap checked_report (returns-then-left-end-clause-value c)

pub returns-clause-value : goal.returns-clause-value
unfolding finish_at
returns-clause-value c = search choices depth 14

pub returns-clause-report : goal.returns-clause-report
returns-clause-report c = ap checked_report (returns-clause-value c)
