use Rattle.std.proofs.Common.{length, ap, sym, ◌∙◌, arith}
use Rattle.gx_base.specs.NameLists.{NameLists}
use Rattle.book_image.specs.Faults.{is_right_last}
use Rattle.book_image.proofs.CheckWrong.{wrong-none-of, wrong-first-of, right-next}
use Rattle.book_image.proofs.check.lasts_fault.Goals as goal

pub returns-then-not-is_right_last : goal.returns-then-not-is_right_last
returns-then-not-is_right_last c =
    sym (wrong-first-of (is_right_last c.args.product.now c.args.payload.now) 552 25 (length c.args.product.now.names.instruments) c.loop-k.k c.instrument_count-k-end.result
    (c.instrument_count-k-end.ensures.count ∙ ap (λ (n : NameLists). length n.instruments) c.names.ensures) c.loop-k.invariant c.loop-k-test.true (sym c.is_right_last.ensures ∙ c.if-not-is_right_last.true))

pub loop-k-preserved : goal.loop-k-preserved
loop-k-preserved c = right-next (is_right_last c.args.product.now c.args.payload.now) c.loop-k.k c.loop-k.invariant (sym c.is_right_last.ensures ∙ c.if-not-is_right_last.false)

pub returns : goal.returns
returns c =
    sym (wrong-none-of (is_right_last c.args.product.now c.args.payload.now) 552 25 (length c.args.product.now.names.instruments) c.loop-k.k c.instrument_count-k-end.result
    (c.instrument_count-k-end.ensures.count ∙ ap (λ (n : NameLists). length n.instruments) c.names.ensures) (omega arith) c.loop-k.invariant)
