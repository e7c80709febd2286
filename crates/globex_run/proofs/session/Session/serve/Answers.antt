use Rattle.std.proofs.Common.{◌≡◌, ◌-◌, List, Err, ap, subst, ◌∙◌, arith}
use Rattle.globex_run.specs.Inner.Keeping.{KeepsEvents}
use Rattle.gx_base.specs.declared.event.Event.{Event}
use Rattle.product_file.specs.Products.{ProductLists}
use Rattle.order_kinds.specs.State.{state_numbered}
use Rattle.order_kinds.specs.Cores.{AreNumbered}
use Rattle.globex_run.specs.Outside.{streams_at}
use Rattle.globex_run.specs.Inner.Serving.{ServesInput}
use Rattle.globex_run.specs.Outcomes.{outcome_of}
use Rattle.globex_run.specs.declared.ending.Ending.{Ending}
use Rattle.globex_run.proofs.FromEntry.{unopened_session, opened_session, refused_by}
use Rattle.globex_run.proofs.session.Session.serve.Goals as goal

pub returns-in-Err-clause-session : goal.returns-in-Err-clause-session
returns-in-Err-clause-session g c =
    unopened_session g.I.Source.meanings g.S.Station.meanings (g.F.LineForm.meanings.text c.args.form.now) (λ (events : List Event). KeepsEvents g.F.LineForm.meanings c.args.form.now c.args.form.now events) c.args.self.now.product.now c.args.self.now.text.now c.args.station.now c.open.new.station c.args.input.now _ c.limits.ensures c.open.ensures.silent
    (state_numbered c.open.new.self.engine.core) c.in-Err.reason c.outcome.result (c.outcome.ensures ∙ ap (λ (e : Ending). outcome_of e 0) c.ending.ensures) (λ is. c.in-Err.ensures.store (ap Err is)) (λ no. c.in-Err.ensures.none (λ is. no (cc is))) c.in-Err.ensures.answers c.in-Err.ensures.opens

pub returns-in-Err-clause-stays : goal.returns-in-Err-clause-stays
returns-in-Err-clause-stays g c = λ image read refused.
    c.in-Err.ensures.stays image read (refused_by c.in-Err.reason c.outcome.result (c.outcome.ensures ∙ ap (λ (e : Ending). outcome_of e 0) c.ending.ensures) refused)

pub returns-clause-session : goal.returns-clause-session
returns-clause-session g c =
    let m = g.S.Station.meanings in
    let inputs = g.I.Source.meanings in
    let line = g.F.LineForm.meanings.text c.args.form.now in
    let count : c.messages.result - c.messages-earlier.result ≡ c.serve_input-ending.new.self.engine.core.desk.messages - c.open.new.self.engine.core.desk.messages = omega (arith, c.messages.ensures.count, c.messages-earlier.ensures.count) in
    opened_session g.I.Source.meanings g.S.Station.meanings (g.F.LineForm.meanings.text c.args.form.now) (λ (events : List Event). KeepsEvents g.F.LineForm.meanings c.args.form.now c.serve_input-ending.new.form events) c.args.self.now.product.now c.args.self.now.text.now c.args.station.now c.open.new.station c.args.input.now c.open.new.self.engine.core c.limits.ensures c.open.ensures.silent
    c.in-Ok.journal c.in-Ok.ensures.limit (c.in-Ok.ensures.none (λ is. cc is)) c.in-Ok.ensures.answers c.in-Ok.ensures.opens c.in-Ok.ensures.rests c.serve_input-ending.new.input c.serve_input-ending.new.station c.serve_input-ending.new.journal.gate (state_numbered c.serve_input-ending.new.self.engine.core) c.serve_input-ending.result
    (subst (λ (lists : ProductLists). ServesInput m (AreNumbered c.open.new.self.engine.core) line lists c.in-Ok.journal.limit (streams_at inputs m c.args.input.now c.open.new.station) (streams_at inputs m c.serve_input-ending.new.input c.serve_input-ending.new.station) c.in-Ok.journal.gate c.serve_input-ending.new.journal.gate (state_numbered c.open.new.self.engine.core) (state_numbered c.serve_input-ending.new.self.engine.core) (λ (events : List Event). KeepsEvents g.F.LineForm.meanings c.args.form.now c.serve_input-ending.new.form events) c.serve_input-ending.result) c.open.ensures.product c.serve_input-ending.ensures.serves)
    c.serve_input-ending.ensures.cause c.serve_input-ending.ensures.bytes_read c.outcome-2.result _ count c.outcome-2.ensures
