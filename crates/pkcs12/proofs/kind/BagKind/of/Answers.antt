-- Each way out is the definition's, by what `same` returned for each identifier.
use Rattle.der.proofs.Choices.{choices, told_true, told_false}
use Rattle.pkcs12.specs.Report.{kind_report}
use Rattle.pkcs12.specs.Identifiers.{kind_of, identifier_of}
use mathlib.Core.Path.{ap}
use Rattle.pkcs12.proofs.kind.BagKind.of.Goals as goal

pub returns-then-same-clause-value : goal.returns-then-same-clause-value
unfolding kind_of identifier_of
returns-then-same-clause-value c = search (choices, told_true, told_false) depth 20

pub returns-then-same-clause-report : goal.returns-then-same-clause-report
returns-then-same-clause-report c = ap kind_report (returns-then-same-clause-value c)

pub returns-then-same-2-clause-value : goal.returns-then-same-2-clause-value
unfolding kind_of identifier_of
returns-then-same-2-clause-value c = search (choices, told_true, told_false) depth 20

pub returns-then-same-2-clause-report : goal.returns-then-same-2-clause-report
returns-then-same-2-clause-report c = ap kind_report (returns-then-same-2-clause-value c)

pub returns-then-same-3-clause-value : goal.returns-then-same-3-clause-value
unfolding kind_of identifier_of
returns-then-same-3-clause-value c = search (choices, told_true, told_false) depth 20

pub returns-then-same-3-clause-report : goal.returns-then-same-3-clause-report
returns-then-same-3-clause-report c = ap kind_report (returns-then-same-3-clause-value c)

pub returns-then-same-4-clause-value : goal.returns-then-same-4-clause-value
unfolding kind_of identifier_of
returns-then-same-4-clause-value c = search (choices, told_true, told_false) depth 20

pub returns-then-same-4-clause-report : goal.returns-then-same-4-clause-report
returns-then-same-4-clause-report c = ap kind_report (returns-then-same-4-clause-value c)

pub returns-then-same-5-clause-value : goal.returns-then-same-5-clause-value
unfolding kind_of identifier_of
returns-then-same-5-clause-value c = search (choices, told_true, told_false) depth 20

pub returns-then-same-5-clause-report : goal.returns-then-same-5-clause-report
returns-then-same-5-clause-report c = ap kind_report (returns-then-same-5-clause-value c)

pub returns-then-same-6-clause-value : goal.returns-then-same-6-clause-value
unfolding kind_of identifier_of
returns-then-same-6-clause-value c = search (choices, told_true, told_false) depth 20

pub returns-then-same-6-clause-report : goal.returns-then-same-6-clause-report
returns-then-same-6-clause-report c = ap kind_report (returns-then-same-6-clause-value c)

pub returns-clause-value : goal.returns-clause-value
unfolding kind_of identifier_of
returns-clause-value c = search (choices, told_true, told_false) depth 20

pub returns-clause-report : goal.returns-clause-report
returns-clause-report c = ap kind_report (returns-clause-value c)
