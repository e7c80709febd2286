use Rattle.std.proofs.Common.{◌∙◌, refl, arith, rules, lit<}
use Rattle.toml.specs.View.{view}
use Rattle.product_file.specs.Inner.Instruments.{InstrumentLists}
use Rattle.product_file.proofs.InstrumentsAfter.{next_instrument, no_listed, no_rule}
use Rattle.product_file.proofs.instruments.instruments_of.Goals as goal

pub returns-in_err-name : goal.returns-in_err-name
returns-in_err-name c =
    let earlier : InstrumentLists = record { listed = c.loop-table.listed.items; rules = c.loop-table.rules.items } in
    let fails = rw c.deref.ensures.0 at c.in_err-name.ensures in
    rw (no_listed c.args.firms.now c.in_ok-tables.tables.now earlier c.loop-table.table-index c.table-item.result c.loop-table-test.true c.table-item.is c.loop-table.invariant.rest (view c.args.document.now) c.in_err-name.field-0.0 c.in_ok-tables.ensures.value fails) (search rules)

pub returns-in_err-rule : goal.returns-in_err-rule
returns-in_err-rule c =
    let earlier : InstrumentLists = record { listed = c.loop-table.listed.items; rules = c.loop-table.rules.items } in
    let named = rw c.deref.ensures.0 at c.in_ok-name.ensures in
    rw (no_rule c.args.firms.now c.in_ok-tables.tables.now earlier c.loop-table.table-index c.table-item.result c.loop-table-test.true c.table-item.is c.loop-table.invariant.rest (view c.args.document.now) c.in_ok-name.name c.in_err-rule.field-0.0 c.in_ok-tables.ensures.value named c.in_err-rule.ensures) (search rules)

pub push-requires : goal.push-requires
push-requires c = (lit< tt, omega (arith, c.in_ok-tables.ensures.few))

pub push-requires-in-loop-table : goal.push-requires-in-loop-table
push-requires-in-loop-table c = (lit< tt, omega (arith, c.in_ok-tables.ensures.few))

pub loop-table-preserved : goal.loop-table-preserved
loop-table-preserved c =
    let earlier : InstrumentLists = record { listed = c.loop-table.listed.items; rules = c.loop-table.rules.items } in
    let named = rw c.deref.ensures.0 at c.in_ok-name.ensures in
    let next = next_instrument c.args.firms.now c.in_ok-tables.tables.now earlier c.loop-table.table-index c.table-item.result c.loop-table-test.true c.table-item.is c.loop-table.invariant.rest c.in_ok-name.name c.in_ok-rule.rule named c.in_ok-rule.ensures in
    record {
      rest = next ∙ rw (c.push.ensures.items, c.push-in-loop-table.ensures.items) refl;
      names = omega (arith, c.push.ensures.len);
      count = omega (arith, c.push-in-loop-table.ensures.len);
    }
