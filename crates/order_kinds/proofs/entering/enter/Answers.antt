use Rattle.std.proofs.Common.{sym, ◌∙◌}
use Rattle.gx_base.specs.declared.event.Cause.TheVariants.{MinQty}
use Rattle.plain_book.specs.Matches.{match_at, start_at}
use Rattle.order_kinds.specs.Entering.{entered}
use Rattle.order_kinds.proofs.Entered.{entered-cancelled, takes-cancelled, takes-swept, can-rest, not-false, not-true}
use Rattle.order_kinds.proofs.entering.enter.Goals as goal

pub returns-then-not-is_least_open-clause-takes : goal.returns-then-not-is_least_open-clause-takes
returns-then-not-is_least_open-clause-takes g c =
    let before = match_at (g.B.Book.book c.args.book.now) c.args.desk.now c.args.taker.now c.args.out.now in
    takes-cancelled g.E.Emit.meanings (λ name. entered name c.args.steps.now) MinQty before c.cancel_taker.new.desk c.cancel_taker.new.out
    (entered-cancelled 0 c.args.steps.now (start_at before) (not-false _ (sym c.is_least_open.ensures ∙ c.if-not-is_least_open.true)))
    c.cancel_taker.ensures.desk c.cancel_taker.ensures.emits

pub finish-requires-clause-rests : goal.finish-requires-clause-rests
finish-requires-clause-rests g c =
    let matches = c.sweep.ensures.matches in
    can-rest c.args.steps.now c.args.taker.now.order.price (g.B.Book.book c.args.book.now) (g.B.Book.book c.sweep.new.book) c.args.desk.now c.sweep.new.desk c.args.taker.now c.sweep.new.taker
    matches.now c.sweep.ensures.stays matches.can c.requires.rests

pub returns-clause-takes : goal.returns-clause-takes
returns-clause-takes g c =
    let before = match_at (g.B.Book.book c.args.book.now) c.args.desk.now c.args.taker.now c.args.out.now in
    takes-swept g.E.Emit.meanings c.args.steps.now before _ _ (not-true _ (sym c.is_least_open.ensures ∙ c.if-not-is_least_open.false)) c.sweep.ensures.matches c.finish.ensures.takes
