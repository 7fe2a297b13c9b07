-- Words that are too few; else by what the call returned: a row is stored, or nothing is.
use mathlib.Core.Path.{ap, ◌∙◌}
use Rattle.std.specs.Prelude.{Ok}
use Rattle.der.proofs.Promised.{all_bytes}
use Rattle.p12.proofs.Gives.{attribute_short, attribute_stored_lem, attribute_ready, attribute_done}
use Rattle.p12.proofs.Gives.{attribute_refused}
use Rattle.p12.proofs.p12_attribute.Goals as goal

pub returns-then-is_short-clause-value : goal.returns-then-is_short-clause-value
returns-then-is_short-clause-value c = (attribute_short _ _ _ c.is_short.ensures c.if-is_short.true _ _ _).0

pub returns-then-is_short-clause-row_after : goal.returns-then-is_short-clause-row_after
returns-then-is_short-clause-row_after c = (attribute_short _ _ _ c.is_short.ensures c.if-is_short.true _ _ _).1

pub returns-then-is_short-clause-bytes : goal.returns-then-is_short-clause-bytes
returns-then-is_short-clause-bytes c = search all_bytes

pub returns-in-Ok-Attribute-clause-value : goal.returns-in-Ok-Attribute-clause-value
returns-in-Ok-Attribute-clause-value c = (attribute_stored_lem _ _ _ c.is_short.ensures c.if-is_short.false _ c.table.ensures _ _ _ _
    c.attribute.ensures.value _ (c.in-Ok-Attribute.is ∙ ap Ok c.in-Ok-Attribute.field-0-is) _ _
    c.store_row.ensures.value c.store_row.ensures.out_after _ c.number_of.ensures).0

pub returns-in-Ok-Attribute-clause-row_after : goal.returns-in-Ok-Attribute-clause-row_after
returns-in-Ok-Attribute-clause-row_after c = (attribute_stored_lem _ _ _ c.is_short.ensures c.if-is_short.false _ c.table.ensures _ _ _ _
    c.attribute.ensures.value _ (c.in-Ok-Attribute.is ∙ ap Ok c.in-Ok-Attribute.field-0-is) _ _
    c.store_row.ensures.value c.store_row.ensures.out_after _ c.number_of.ensures).1

pub returns-in-Ok-Attribute-clause-bytes : goal.returns-in-Ok-Attribute-clause-bytes
returns-in-Ok-Attribute-clause-bytes c = search all_bytes

pub returns-in-Ok-Ready-clause-value : goal.returns-in-Ok-Ready-clause-value
returns-in-Ok-Ready-clause-value c = (attribute_ready _ _ _ c.is_short.ensures c.if-is_short.false _ c.table.ensures _ _ _ _
    c.attribute.ensures.value (c.in-Ok-Ready.is ∙ ap Ok c.in-Ok-Ready.field-0-is)).0

pub returns-in-Ok-Ready-clause-row_after : goal.returns-in-Ok-Ready-clause-row_after
returns-in-Ok-Ready-clause-row_after c = (attribute_ready _ _ _ c.is_short.ensures c.if-is_short.false _ c.table.ensures _ _ _ _
    c.attribute.ensures.value (c.in-Ok-Ready.is ∙ ap Ok c.in-Ok-Ready.field-0-is)).1

pub returns-in-Ok-Ready-clause-bytes : goal.returns-in-Ok-Ready-clause-bytes
returns-in-Ok-Ready-clause-bytes c = search all_bytes

pub returns-in-Ok-Done-clause-value : goal.returns-in-Ok-Done-clause-value
returns-in-Ok-Done-clause-value c = (attribute_done _ _ _ c.is_short.ensures c.if-is_short.false _ c.table.ensures _ _ _ _
    c.attribute.ensures.value (c.in-Ok-Done.is ∙ ap Ok c.in-Ok-Done.field-0-is)).0

pub returns-in-Ok-Done-clause-row_after : goal.returns-in-Ok-Done-clause-row_after
returns-in-Ok-Done-clause-row_after c = (attribute_done _ _ _ c.is_short.ensures c.if-is_short.false _ c.table.ensures _ _ _ _
    c.attribute.ensures.value (c.in-Ok-Done.is ∙ ap Ok c.in-Ok-Done.field-0-is)).1

pub returns-in-Ok-Done-clause-bytes : goal.returns-in-Ok-Done-clause-bytes
returns-in-Ok-Done-clause-bytes c = search all_bytes

pub returns-in-Err-clause-value : goal.returns-in-Err-clause-value
returns-in-Err-clause-value c = (attribute_refused _ _ _ c.is_short.ensures c.if-is_short.false _ c.table.ensures _ _ _ _
    c.attribute.ensures.value _ c.in-Err.is).0

pub returns-in-Err-clause-row_after : goal.returns-in-Err-clause-row_after
returns-in-Err-clause-row_after c = (attribute_refused _ _ _ c.is_short.ensures c.if-is_short.false _ c.table.ensures _ _ _ _
    c.attribute.ensures.value _ c.in-Err.is).1

pub returns-in-Err-clause-bytes : goal.returns-in-Err-clause-bytes
returns-in-Err-clause-bytes c = search all_bytes
