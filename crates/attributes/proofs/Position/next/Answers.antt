-- By what the last call returned.
use Rattle.std.proofs.Common.{ap}
use Rattle.attributes.specs.Report.{item_report}
use Rattle.attributes.proofs.Runs.{next_refused, next_moved}
use Rattle.attributes.proofs.Position.next.Goals as goal

pub returns-then-is_err-clause-value : goal.returns-then-is_err-clause-value
returns-then-is_err-clause-value c = search next_refused

pub returns-then-is_err-clause-item_value : goal.returns-then-is_err-clause-item_value
returns-then-is_err-clause-item_value c = ap (λ p. item_report p.item) (returns-then-is_err-clause-value c)

pub returns-clause-value : goal.returns-clause-value
returns-clause-value c = search next_moved

pub returns-clause-item_value : goal.returns-clause-item_value
returns-clause-item_value c = ap (λ p. item_report p.item) (returns-clause-value c)
