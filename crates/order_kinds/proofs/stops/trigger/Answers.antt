use Rattle.std.proofs.Common.{◌≡◌, [], ◌∷◌, ap, ◌∙◌}
use Rattle.gx_base.specs.declared.event.Event.{Event}
use Rattle.gx_base.specs.EmitLaws.{emits_as, emits_one}
use Rattle.plain_book.specs.Orders.{order_of}
use Rattle.plain_book.specs.Book.{live_orders}
use Rattle.order_kinds.specs.Stops.{as_triggered}
use Rattle.order_kinds.proofs.Triggered.{slot-live, triggered-firm, triggered-open, triggered-can, triggered-rests, triggered-rose, takes-stop}
use Rattle.order_kinds.proofs.stops.trigger.Given.{Over}
use Rattle.order_kinds.proofs.stops.trigger.Goals as goal
use Rattle.order_kinds.proofs.stops.trigger.Goals.{After-as_triggered-taker}

-- the order that was triggered
is-triggered : (g : Over) (c : After-as_triggered-taker g) → c.as_triggered-taker.result ≡ as_triggered (order_of c.args.slot.0 (live_orders (g.B.Book.book c.args.book.now)))
is-triggered g c = c.as_triggered-taker.ensures ∙ ap as_triggered c.remove.ensures.order

pub remove-requires : goal.remove-requires
remove-requires g c = record { live = slot-live (g.B.Book.book c.args.book.now) c.rules.ensures c.args.slot.0 c.requires.waits }

pub count_report-head-requires-clause-firm : goal.count_report-head-requires-clause-firm
count_report-head-requires-clause-firm g c =
    triggered-firm (g.B.Book.book c.args.book.now) c.rules.ensures c.args.slot.0 c.requires.waits c.as_triggered-taker.result (g.B.Book.book c.remove.new.self)
    (is-triggered g (goal.at.count_report-head-requires-clause-firm g c).After-as_triggered-taker) c.remove.ensures.left

pub enter-requires-clause-can : goal.enter-requires-clause-can
enter-requires-clause-can g c =
    triggered-can (g.B.Book.book c.args.book.now) c.rules.ensures c.args.slot.0 c.requires.waits c.as_triggered-taker.result (g.B.Book.book c.remove.new.self)
    (is-triggered g (goal.at.enter-requires-clause-can g c).After-as_triggered-taker) c.remove.ensures.left c.args.desk.now c.count_report-head.new.desk c.args.taker.now.time
    c.requires.room c.count_report-head.ensures.desk

pub enter-requires-clause-rests : goal.enter-requires-clause-rests
enter-requires-clause-rests g c =
    triggered-rests (g.B.Book.book c.args.book.now) c.rules.ensures c.args.slot.0 c.requires.waits c.as_triggered-taker.result (g.B.Book.book c.remove.new.self)
    (is-triggered g (goal.at.enter-requires-clause-rests g c).After-as_triggered-taker) c.remove.ensures.left

pub enter-requires-clause-open : goal.enter-requires-clause-open
enter-requires-clause-open g c =
    triggered-open (g.B.Book.book c.args.book.now) c.rules.ensures c.args.slot.0 c.requires.waits c.as_triggered-taker.result (g.B.Book.book c.remove.new.self)
    (is-triggered g (goal.at.enter-requires-clause-open g c).After-as_triggered-taker) c.remove.ensures.left

pub returns-clause-takes : goal.returns-clause-takes
returns-clause-takes g c =
    takes-stop g.E.Emit.meanings (g.B.Book.book c.args.book.now) c.rules.ensures c.args.slot.0 c.requires.waits c.as_triggered-taker.result (g.B.Book.book c.remove.new.self)
    (is-triggered g (goal.at.returns-clause-takes g c).After-as_triggered-taker) c.remove.ensures.left c.args.desk.now c.count_report-head.new.desk c.args.taker.now
    c.args.out.now c.put_execution.new.self c.count_report-head.result c.args.steps.now _ c.count_report-head.ensures.head c.count_report-head.ensures.desk
    (emits_as g.E.Emit.meanings _ _ _ _ (ap (λ (e : Event). e ∷ []) c.new.ensures) (emits_one g.E.Emit.meanings _ _ _ c.put_execution.ensures)) c.enter.ensures.takes

pub returns-clause-rose : goal.returns-clause-rose
returns-clause-rose g c =
    triggered-rose (g.B.Book.book c.args.book.now) c.rules.ensures c.args.slot.0 c.requires.waits c.as_triggered-taker.result (g.B.Book.book c.remove.new.self)
    (is-triggered g (goal.at.returns-clause-rose g c).After-as_triggered-taker) c.remove.ensures.left c.args.desk.now c.count_report-head.new.desk c.enter.new.desk
    c.count_report-head.ensures.desk c.enter.ensures.rose
