use Rattle.std.proofs.Common.{length, ap, sym, ◌∙◌, arith}
use Rattle.gx_base.specs.NameLists.{NameLists}
use Rattle.book_image.specs.Faults.{has_right_tops, orders_at}
use Rattle.book_image.proofs.CheckWrong.{wrong-none-of, wrong-first-of, right-next}
use Rattle.book_image.proofs.check.tops_fault_beside.Goals as goal

pub returns-then-not-has_right_tops : goal.returns-then-not-has_right_tops
returns-then-not-has_right_tops c =
    sym (wrong-first-of (has_right_tops c.args.product.now c.args.payload.now (orders_at c.args.payload.now c.args.first c.args.count)) 552 25 (length c.args.product.now.names.instruments) c.loop-k.k c.instrument_count-k-end.result
    (c.instrument_count-k-end.ensures.count ∙ ap (λ (n : NameLists). length n.instruments) c.names.ensures) c.loop-k.invariant c.loop-k-test.true (sym c.has_right_tops.ensures ∙ c.if-not-has_right_tops.true))

pub loop-k-preserved : goal.loop-k-preserved
loop-k-preserved c = right-next (has_right_tops c.args.product.now c.args.payload.now (orders_at c.args.payload.now c.args.first c.args.count)) c.loop-k.k c.loop-k.invariant (sym c.has_right_tops.ensures ∙ c.if-not-has_right_tops.false)

pub returns : goal.returns
returns c =
    sym (wrong-none-of (has_right_tops c.args.product.now c.args.payload.now (orders_at c.args.payload.now c.args.first c.args.count)) 552 25 (length c.args.product.now.names.instruments) c.loop-k.k c.instrument_count-k-end.result
    (c.instrument_count-k-end.ensures.count ∙ ap (λ (n : NameLists). length n.instruments) c.names.ensures) (omega arith) c.loop-k.invariant)
