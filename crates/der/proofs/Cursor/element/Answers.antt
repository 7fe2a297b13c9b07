-- Whether a byte is left is tested, and what is then present is the element.
use mathlib.Core.Path.{ap}
use Rattle.der.proofs.Choices.{choices, told_true}
use Rattle.der.proofs.Placed.{left_within}
use Rattle.der.proofs.Promised.{all_bytes}
use Rattle.der.specs.Element.{element_at}
use Rattle.der.specs.Report.{element_report}
use Rattle.der.proofs.Cursor.element.Goals as goal

pub returns-then-no_byte_left-clause-value : goal.returns-then-no_byte_left-clause-value
unfolding element_at
returns-then-no_byte_left-clause-value c = search (choices, told_true) depth 14

pub returns-then-no_byte_left-clause-report : goal.returns-then-no_byte_left-clause-report
returns-then-no_byte_left-clause-report c = ap element_report (returns-then-no_byte_left-clause-value c)

pub returns-then-no_byte_left-clause-bytes : goal.returns-then-no_byte_left-clause-bytes
returns-then-no_byte_left-clause-bytes c = search all_bytes

pub present-requires : goal.present-requires
present-requires c = left_within _ c.args.self _ c.no_byte_left.ensures c.if-no_byte_left.false

pub returns-clause-report : goal.returns-clause-report
returns-clause-report c = ap element_report c.present.ensures

pub returns-clause-bytes : goal.returns-clause-bytes
returns-clause-bytes c = search all_bytes
