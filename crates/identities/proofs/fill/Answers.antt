-- The table is not sound, the caller has too few rows, or all rows are stored.
use Rattle.std.proofs.Common.{List, ◌≤◌, ◌++◌, ◌∙◌, ap, sym, arith, take, drop, length-take}
use Rattle.std.specs.Prelude.{Err, Ok}
use Rattle.buffer.specs.Report.{written_report}
use Rattle.pkcs12.specs.Numbers.{bag_rows}
use Rattle.pairing.specs.declared.IdentityRow.{IdentityRow}
use Rattle.identities.specs.Filling.{Filled}
use Rattle.identities.proofs.Fills.{all_rows, all_stored}
use Rattle.identities.proofs.Rules.{filling_unsound, filling_few, filling_short, filling_all}
use Rattle.identities.proofs.fill.Goals as goal

pub returns-then-is_none-clause-value : goal.returns-then-is_none-clause-value
returns-then-is_none-clause-value c =
    ap Err c.refused.ensures
    ∙ ap (λ (p : Filled). p.answer)
    (filling_unsound _ _ _ c.measure.ensures.value _ c.is_none.ensures c.args.out.now c.if-is_none.true)

pub returns-then-is_none-clause-report : goal.returns-then-is_none-clause-report
returns-then-is_none-clause-report c = ap written_report (returns-then-is_none-clause-value c)

pub returns-then-is_none-clause-out_after : goal.returns-then-is_none-clause-out_after
returns-then-is_none-clause-out_after c =
    ap (λ (p : Filled). p.rows)
    (filling_unsound _ _ _ c.measure.ensures.value _ c.is_none.ensures c.args.out.now c.if-is_none.true)

pub returns-then-out-count-clause-value : goal.returns-then-out-count-clause-value
returns-then-out-count-clause-value c =
    ap Err c.refused-then-out-count.ensures
    ∙ ap (λ (p : Filled). p.answer)
    (filling_short _ _ _ c.measure.ensures.value _ c.is_none.ensures c.args.out.now c.if-is_none.false
    c.if-out-count.true)

pub returns-then-out-count-clause-report : goal.returns-then-out-count-clause-report
returns-then-out-count-clause-report c = ap written_report (returns-then-out-count-clause-value c)

pub returns-then-out-count-clause-out_after : goal.returns-then-out-count-clause-out_after
returns-then-out-count-clause-out_after c =
    ap (λ (p : Filled). p.rows)
    (filling_short _ _ _ c.measure.ensures.value _ c.is_none.ensures c.args.out.now c.if-is_none.false
    c.if-out-count.true)

pub slice_bounds-rows-end : goal.slice_bounds-rows-end
slice_bounds-rows-end c =
    omega (arith, filling_few _ _ _ c.measure.ensures.value _ c.is_none.ensures c.args.out.now c.if-is_none.false)

pub slice_bounds-copy_from_slice-end-3 : goal.slice_bounds-copy_from_slice-end-3
slice_bounds-copy_from_slice-end-3 c =
    omega (
      arith,
      filling_few _ _ _ c.measure.ensures.value _ c.is_none.ensures c.args.out.now c.if-is_none.false,
      length-take {A = IdentityRow},
    )

pub copy_from_slice-requires : goal.copy_from_slice-requires
copy_from_slice-requires c =
    omega (
      arith,
      filling_few _ _ _ c.measure.ensures.value _ c.is_none.ensures c.args.out.now c.if-is_none.false,
      length-take {A = IdentityRow},
    )

pub returns-clause-value : goal.returns-clause-value
returns-clause-value c =
    let few : c.args.table.bag_count ≤ bag_rows =
    filling_few _ _ _ c.measure.ensures.value _ c.is_none.ensures c.args.out.now c.if-is_none.false in
    ap Ok (sym (all_rows c.args.table c.args.bytes.now c.args.out.now few))
    ∙ ap (λ (p : Filled). p.answer)
    (filling_all _ _ _ c.measure.ensures.value _ c.is_none.ensures c.args.out.now c.if-is_none.false
    c.if-out-count.false)

pub returns-clause-report : goal.returns-clause-report
returns-clause-report c = ap written_report (returns-clause-value c)

pub returns-clause-out_after : goal.returns-clause-out_after
returns-clause-out_after c =
    let few : c.args.table.bag_count ≤ bag_rows =
    filling_few _ _ _ c.measure.ensures.value _ c.is_none.ensures c.args.out.now c.if-is_none.false in
    ap (λ (xs : List IdentityRow). xs ++ drop c.args.table.bag_count c.args.out.now) c.copy_from_slice.ensures.after
    ∙ ap (λ (xs : List IdentityRow). take c.args.table.bag_count xs ++ drop c.args.table.bag_count c.args.out.now)
    c.rows_of-rows.ensures
    ∙ all_stored c.args.table c.args.bytes.now c.args.out.now few
    ∙ ap (λ (p : Filled). p.rows)
    (filling_all _ _ _ c.measure.ensures.value _ c.is_none.ensures c.args.out.now c.if-is_none.false
    c.if-out-count.false)
