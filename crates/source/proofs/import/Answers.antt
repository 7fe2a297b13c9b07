-- By what `pem::import` answered.
use Rattle.std.proofs.Common.{ap}
use Rattle.buffer.specs.Report.{written_report}
use Rattle.source.proofs.Sources.{answered_lem}
use Rattle.source.proofs.import.Goals as goal

pub returns-clause-value : goal.returns-clause-value
returns-clause-value c =
    answered_lem _ c.import.result c.map_err.result c.import.ensures.value c.map_err.ensures.cases

pub returns-clause-report : goal.returns-clause-report
returns-clause-report c = ap written_report (returns-clause-value c)
