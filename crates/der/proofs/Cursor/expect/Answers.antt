-- The tag is compared once the element was found.
use Rattle.der.proofs.Choices.{choices}
use Rattle.der.specs.Element.{expect_at}
use Rattle.der.proofs.Promised.{all_bytes}
use Rattle.der.specs.Report.{element_report}
use mathlib.Core.Path.{ap}
use Rattle.der.proofs.Cursor.expect.Goals as goal

pub returns-in_err-found-clause-value : goal.returns-in_err-found-clause-value
unfolding expect_at
returns-in_err-found-clause-value c = search (choices, c.in_err-found.was) depth 14

pub returns-in_err-found-clause-report : goal.returns-in_err-found-clause-report
returns-in_err-found-clause-report c = ap element_report (returns-in_err-found-clause-value c)

pub returns-in_err-found-clause-bytes : goal.returns-in_err-found-clause-bytes
returns-in_err-found-clause-bytes c = search all_bytes

pub returns-then-found-due-clause-value : goal.returns-then-found-due-clause-value
unfolding expect_at
returns-then-found-due-clause-value c = search (choices, c.in_ok-found.was) depth 14

pub returns-then-found-due-clause-report : goal.returns-then-found-due-clause-report
returns-then-found-due-clause-report c = ap element_report (returns-then-found-due-clause-value c)

pub returns-then-found-due-clause-bytes : goal.returns-then-found-due-clause-bytes
returns-then-found-due-clause-bytes c = search all_bytes

pub returns-clause-value : goal.returns-clause-value
unfolding expect_at
returns-clause-value c = search (choices, c.in_ok-found.was) depth 14

pub returns-clause-report : goal.returns-clause-report
returns-clause-report c = ap element_report (returns-clause-value c)

pub returns-clause-bytes : goal.returns-clause-bytes
returns-clause-bytes c = search all_bytes
