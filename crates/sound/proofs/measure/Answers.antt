-- The rules are tested, then the rows that are taken, then the sizes are added (Whole).
use Rattle.sound.proofs.Whole.{arrays, breaks_rules, safe_left, bag_left, attribute_left, all_measured}
use Rattle.der.proofs.Promised.{all_bytes}
use Rattle.sound.specs.Report.{measured_report}
use mathlib.Core.Path.{ap}
use native.Mathlib.Omega.{arith}
use Rattle.sound.proofs.measure.Goals as goal

pub returns-then-not-rules-clause-value : goal.returns-then-not-rules-clause-value
returns-then-not-rules-clause-value c = breaks_rules _ _ _ c.rules.ensures c.if-not-rules.true

pub returns-then-not-rules-clause-report : goal.returns-then-not-rules-clause-report
returns-then-not-rules-clause-report c = ap measured_report (returns-then-not-rules-clause-value c)

pub returns-then-not-rules-clause-bytes : goal.returns-then-not-rules-clause-bytes
returns-then-not-rules-clause-bytes c = (search all_bytes)

pub returns-then-all-table-clause-value : goal.returns-then-all-table-clause-value
returns-then-all-table-clause-value c = safe_left _ _ _ c.rules.ensures c.if-not-rules.false
    (arrays c.args.table (omega arith) (omega arith) (omega arith))
    _ c.all_safes-all.ensures c.if-all-table.true

pub returns-then-all-table-clause-report : goal.returns-then-all-table-clause-report
returns-then-all-table-clause-report c = ap measured_report (returns-then-all-table-clause-value c)

pub returns-then-all-table-clause-bytes : goal.returns-then-all-table-clause-bytes
returns-then-all-table-clause-bytes c = (search (all_bytes, c.type_inv.bytes))

pub returns-then-all-table-2-clause-value : goal.returns-then-all-table-2-clause-value
returns-then-all-table-2-clause-value c = bag_left _ _ _ c.rules.ensures c.if-not-rules.false
    (arrays c.args.table (omega arith) (omega arith) (omega arith))
    _ c.all_safes-all.ensures c.if-all-table.false c.if-all-table-2.true

pub returns-then-all-table-2-clause-report : goal.returns-then-all-table-2-clause-report
returns-then-all-table-2-clause-report c = ap measured_report (returns-then-all-table-2-clause-value c)

pub returns-then-all-table-2-clause-bytes : goal.returns-then-all-table-2-clause-bytes
returns-then-all-table-2-clause-bytes c = (search (all_bytes, c.type_inv.bytes))

pub returns-then-all-table-3-clause-value : goal.returns-then-all-table-3-clause-value
returns-then-all-table-3-clause-value c = attribute_left _ _ _ c.rules.ensures c.if-not-rules.false
    (arrays c.args.table (omega arith) (omega arith) (omega arith))
    _ c.all_safes-all.ensures c.if-all-table.false
    c.if-all-table-2.false c.if-all-table-3.true

pub returns-then-all-table-3-clause-report : goal.returns-then-all-table-3-clause-report
returns-then-all-table-3-clause-report c = ap measured_report (returns-then-all-table-3-clause-value c)

pub returns-then-all-table-3-clause-bytes : goal.returns-then-all-table-3-clause-bytes
returns-then-all-table-3-clause-bytes c = (search (all_bytes, c.type_inv.bytes))

pub returns-clause-value : goal.returns-clause-value
returns-clause-value c = all_measured _ _ _ c.rules.ensures c.if-not-rules.false
    (arrays c.args.table (omega arith) (omega arith) (omega arith))
    _ c.all_safes-all.ensures
    c.if-all-table.false
    c.if-all-table-2.false
    c.if-all-table-3.false _ _ _
    c.mac-mac.ensures c.pfx-body.ensures c.element.ensures

pub returns-clause-report : goal.returns-clause-report
returns-clause-report c = ap measured_report (returns-clause-value c)

pub returns-clause-bytes : goal.returns-clause-bytes
returns-clause-bytes c = (search (all_bytes, c.type_inv.bytes))
