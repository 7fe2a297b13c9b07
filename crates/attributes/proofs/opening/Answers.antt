-- The table is not sound, the row isn't there, or it is.
use Rattle.std.proofs.Common.{ap}
use Rattle.attributes.specs.Report.{item_report}
use Rattle.attributes.proofs.Rules.{open_unsound, open_missing, open_ready}
use Rattle.attributes.proofs.opening.Goals as goal

pub returns-then-is_none-clause-value : goal.returns-then-is_none-clause-value
returns-then-is_none-clause-value c =
    open_unsound _ _ _ _ _ c.measure.ensures.value c.is_none.ensures _ c.if-is_none.true c.refused.ensures

pub returns-then-is_none-clause-item_value : goal.returns-then-is_none-clause-item_value
returns-then-is_none-clause-item_value c = ap (λ p. item_report p.item) (returns-then-is_none-clause-value c)

pub returns-then-bag-table-clause-value : goal.returns-then-bag-table-clause-value
returns-then-bag-table-clause-value c =
    open_ready _ _ _ _ _ c.measure.ensures.value c.is_none.ensures c.if-is_none.false c.if-bag-table.true

pub returns-then-bag-table-clause-item_value : goal.returns-then-bag-table-clause-item_value
returns-then-bag-table-clause-item_value c = ap (λ p. item_report p.item) (returns-then-bag-table-clause-value c)

pub returns-clause-value : goal.returns-clause-value
returns-clause-value c =
    open_missing _ _ _ _ _ c.measure.ensures.value c.is_none.ensures c.if-is_none.false _ c.if-bag-table.false
    c.refused-2.ensures

pub returns-clause-item_value : goal.returns-clause-item_value
returns-clause-item_value c = ap (λ p. item_report p.item) (returns-clause-value c)
