-- By the status, then by whether all is here.
use mathlib.Core.Path.{ap}
use Prim.Native.Nat.{ℕ}
use Rattle.der.proofs.Choices.{choices, told_true, told_false}
use Rattle.der.specs.Element.{fault}
use Rattle.header.specs.Numbers.{early}
use Rattle.std.specs.Prelude.{Err}
use Rattle.stream.specs.Report.{end_report}
use Rattle.stream.specs.Upload.{refusal, ended}
use Rattle.stream.proofs.Rules.{on_none, on_refused, kept}
use Rattle.stream.proofs.Upload.end.Goals as goal

pub returns-in_err-status-clause-value : goal.returns-in_err-status-clause-value
unfolding ended
returns-in_err-status-clause-value c = search (choices, kept, on_refused, c.in_err-status.was) depth 14

pub returns-in_err-status-clause-report : goal.returns-in_err-status-clause-report
returns-in_err-status-clause-report c = ap end_report (returns-in_err-status-clause-value c)

pub returns-then-is_whole-clause-value : goal.returns-then-is_whole-clause-value
unfolding ended
returns-then-is_whole-clause-value c = search (choices, told_true, on_none, c.in_ok-status.was) depth 14

pub returns-then-is_whole-clause-report : goal.returns-then-is_whole-clause-report
returns-then-is_whole-clause-report c = ap end_report (returns-then-is_whole-clause-value c)

pub returns-clause-value : goal.returns-clause-value
unfolding ended
returns-clause-value c =
    on_none _ _ _ _ _ c.status.ensures.value c.in_ok-status.was
    (told_false _ _ _ _ _ c.is_whole.ensures c.if-is_whole.false
    (ap (λ (k : ℕ). Err (refusal (fault early 0) k)) c.arrived.ensures))

pub returns-clause-report : goal.returns-clause-report
returns-clause-report c = ap end_report (returns-clause-value c)
