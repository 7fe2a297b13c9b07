-- Bytes that are too long first; else what is read.
use Rattle.der.proofs.Promised.{all_bytes}
use Rattle.pkcs12.specs.Report.{parts_report}
use Rattle.parts.proofs.Rules.{long_file, short_file}
use mathlib.Core.Path.{ap}
use Rattle.parts.proofs.typed.Goals as goal

pub returns-in_default-clause-value : goal.returns-in_default-clause-value
returns-in_default-clause-value c = search (long_file, c.in_default.ensures.none.0)

pub returns-in_default-clause-report : goal.returns-in_default-clause-report
returns-in_default-clause-report c = ap parts_report (returns-in_default-clause-value c)

pub returns-in_default-clause-bytes : goal.returns-in_default-clause-bytes
returns-in_default-clause-bytes c = search all_bytes

pub returns-clause-value : goal.returns-clause-value
returns-clause-value c = rw (← c.in-Some.ensures.same) (search short_file)

pub returns-clause-report : goal.returns-clause-report
returns-clause-report c = ap parts_report (returns-clause-value c)

pub returns-clause-bytes : goal.returns-clause-bytes
returns-clause-bytes c = search all_bytes
