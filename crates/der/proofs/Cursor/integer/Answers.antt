-- The body is tested once the element was found.
use Rattle.der.proofs.Choices.{choices, told_true, told_false}
use Rattle.der.specs.Content.{integer_at}
use Rattle.der.proofs.Content.{integer_at_lem, same_valued}
use Rattle.der.proofs.Placed.{expected_inside}
use Rattle.der.proofs.Promised.{all_bytes}
use Rattle.der.specs.Report.{integer_report}
use mathlib.Core.Path.{ap}
use Rattle.der.proofs.Cursor.integer.Goals as goal

pub returns-in_err-found-clause-value : goal.returns-in_err-found-clause-value
unfolding integer_at
returns-in_err-found-clause-value c = search (choices, c.in_err-found.was) depth 14

pub returns-in_err-found-clause-report : goal.returns-in_err-found-clause-report
returns-in_err-found-clause-report c = ap integer_report (returns-in_err-found-clause-value c)

pub returns-in_err-found-clause-bytes : goal.returns-in_err-found-clause-bytes
returns-in_err-found-clause-bytes c = search all_bytes

pub is_integer-requires : goal.is_integer-requires
is_integer-requires c = search (expected_inside, c.in_ok-found.was)

pub integer_value-requires : goal.integer_value-requires
integer_value-requires c = search (integer_at_lem, expected_inside, c.in_ok-found.was)

pub returns-then-is_integer-clause-value : goal.returns-then-is_integer-clause-value
unfolding integer_at
returns-then-is_integer-clause-value c = search (choices, told_true, same_valued, c.in_ok-found.was) depth 14

pub returns-then-is_integer-clause-report : goal.returns-then-is_integer-clause-report
returns-then-is_integer-clause-report c = ap integer_report (returns-then-is_integer-clause-value c)

pub returns-then-is_integer-clause-bytes : goal.returns-then-is_integer-clause-bytes
returns-then-is_integer-clause-bytes c = search all_bytes

pub returns-clause-value : goal.returns-clause-value
unfolding integer_at
returns-clause-value c = search (choices, told_false, c.in_ok-found.was) depth 14

pub returns-clause-report : goal.returns-clause-report
returns-clause-report c = ap integer_report (returns-clause-value c)

pub returns-clause-bytes : goal.returns-clause-bytes
returns-clause-bytes c = search all_bytes
