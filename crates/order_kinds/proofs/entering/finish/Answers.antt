use Rattle.std.proofs.Common.{sym, ◌∙◌}
use Rattle.gx_base.specs.declared.event.Cause.TheVariants.{Fak}
use Rattle.plain_book.specs.Matches.{match_at, start_at}
use Rattle.order_kinds.specs.Entering.{finished}
use Rattle.order_kinds.proofs.Entered.{finished-none, finished-cancelled, takes-nothing, takes-cancelled}
use Rattle.order_kinds.proofs.entering.finish.Goals as goal

pub returns-then-taker-eq0-clause-takes : goal.returns-then-taker-eq0-clause-takes
returns-then-taker-eq0-clause-takes g c =
    let before = match_at (g.B.Book.book c.args.book.now) c.args.desk.now c.args.taker.now c.args.out.now in
    takes-nothing g.E.Emit.meanings (λ name. finished name c.args.steps.now) before (finished-none 0 c.args.steps.now (start_at before) c.if-taker-eq0.true)

pub returns-else-may_rest-clause-takes : goal.returns-else-may_rest-clause-takes
returns-else-may_rest-clause-takes g c =
    let before = match_at (g.B.Book.book c.args.book.now) c.args.desk.now c.args.taker.now c.args.out.now in
    takes-cancelled g.E.Emit.meanings (λ name. finished name c.args.steps.now) Fak before c.cancel_taker.new.desk c.cancel_taker.new.out
    (finished-cancelled 0 c.args.steps.now (start_at before) c.if-taker-eq0.false (sym c.may_rest.ensures ∙ c.if-may_rest.false))
    c.cancel_taker.ensures.desk c.cancel_taker.ensures.emits
