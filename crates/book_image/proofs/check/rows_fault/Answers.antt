use Rattle.std.proofs.Common.{length, ap, ◌∙◌, arith}
use Rattle.gx_base.specs.NameLists.{NameLists}
use Rattle.book_image.proofs.CheckParts.{many-resting, resting-wrong, many-waiting, waiting-answer}
use Rattle.book_image.proofs.check.rows_fault.Goals as goal

pub returns-then-resting-max_orders-clause-fault : goal.returns-then-resting-max_orders-clause-fault
returns-then-resting-max_orders-clause-fault g c =
    many-resting c.args.trading c.args.product.now c.args.part.now c.number_at.result c.instrument_count.result c.max_orders.result c.count_at-resting.result
    c.number_at.ensures (c.instrument_count.ensures.count ∙ ap (λ (names : NameLists). length names.instruments) c.names.ensures) c.max_orders.ensures.most c.count_at-resting.ensures
    c.if-resting-max_orders.true

pub returns-in-Some-clause-fault : goal.returns-in-Some-clause-fault
returns-in-Some-clause-fault g c =
    resting-wrong c.args.trading c.args.product.now c.args.part.now c.number_at.result c.instrument_count.result c.max_orders.result c.count_at-resting.result
    c.number_at.ensures (c.instrument_count.ensures.count ∙ ap (λ (names : NameLists). length names.instruments) c.names.ensures) c.max_orders.ensures.most c.count_at-resting.ensures
    c.if-resting-max_orders.false c.resting_fault.result c.resting_fault.ensures.fault c.in-Some.at c.in-Some.is

pub returns-then-waiting-max_orders-clause-fault : goal.returns-then-waiting-max_orders-clause-fault
returns-then-waiting-max_orders-clause-fault g c =
    many-waiting c.args.trading c.args.product.now c.args.part.now c.number_at.result c.instrument_count.result c.max_orders.result c.count_at-resting.result
    c.number_at.ensures (c.instrument_count.ensures.count ∙ ap (λ (names : NameLists). length names.instruments) c.names.ensures) c.max_orders.ensures.most c.count_at-resting.ensures
    c.if-resting-max_orders.false c.resting_fault.result c.resting_fault.ensures.fault c.in_default.is c.count_at-waiting.result c.count_at-waiting.ensures
    (omega (arith, c.if-waiting-max_orders.true, c.if-resting-max_orders.false, c.max_orders.ensures.most, c.max_orders-2.ensures.most))

pub returns-clause-fault : goal.returns-clause-fault
returns-clause-fault g c =
    waiting-answer c.args.trading c.args.product.now c.args.part.now c.number_at.result c.instrument_count.result c.max_orders.result c.count_at-resting.result
    c.number_at.ensures (c.instrument_count.ensures.count ∙ ap (λ (names : NameLists). length names.instruments) c.names.ensures) c.max_orders.ensures.most c.count_at-resting.ensures
    c.if-resting-max_orders.false c.resting_fault.result c.resting_fault.ensures.fault c.in_default.is c.count_at-waiting.result c.count_at-waiting.ensures
    (omega (arith, c.if-waiting-max_orders.false, c.if-resting-max_orders.false, c.max_orders.ensures.most, c.max_orders-2.ensures.most))
    c.waiting_fault.result c.waiting_fault.ensures.fault
