use Rattle.std.proofs.Common.{rules, ap, ◌∙◌}
use Rattle.std.specs.List.{flat_map}
use Rattle.gx_station.specs.SendLaws.{sends_to}
use Rattle.order_kinds.specs.State.{state_numbered}
use Rattle.order_kinds.specs.Step.{events_from}
use Rattle.exec_report.specs.LineEmitLaws.{delivered, kept, text_stays}
use Rattle.journal_print.proofs.Published.{same_text, text-as, sent-by, kept-by}
use Rattle.journal_print.proofs.publishing.publish.Goals as goal

pub returns-clause-quiet : goal.returns-clause-quiet
returns-clause-quiet g c =
    let m = g.S.Station.meanings in
    let puts = c.apply_given.ensures.puts in
    (sends_to m c.args.station.now c.flush.new.self.station.now _ _ c.flush.result (search rules)
    (delivered g.F.LineForm.meanings m c.new-out.result c.apply_given.new.out c.flush.new.self _ _ c.names.result.now _ c.new-out.ensures c.flush.result puts.events puts.emits c.flush.ensures.flushes)).quiet

pub returns-clause-sends : goal.returns-clause-sends
returns-clause-sends g c = λ numbered.
    let f = g.F.LineForm.meanings in
    let m = g.S.Station.meanings in
    let events = events_from c.args.product.now (state_numbered c.args.core.now) c.args.framer.now.given in
    sends_to m c.args.station.now c.flush.new.self.station.now _ (flat_map (f.text c.args.form.now c.args.product.now.names) events) c.flush.result (search rules)
    (sent-by f c.args.form.now c.note_given.new.form c.args.product.now c.args.framer.now.given c.note_given.ensures events m c.args.station.now c.flush.new.self.station.now c.names.result.now c.args.product.now.names c.flush.result c.names.ensures
    (delivered f m c.new-out.result c.apply_given.new.out c.flush.new.self _ _ c.names.result.now _ c.new-out.ensures c.flush.result events (c.apply_given.ensures.emits numbered) c.flush.ensures.flushes))

pub returns-clause-behind : goal.returns-clause-behind
returns-clause-behind g c = λ numbered.
    let f = g.F.LineForm.meanings in
    let m = g.S.Station.meanings in
    let events = events_from c.args.product.now (state_numbered c.args.core.now) c.args.framer.now.given in
    kept-by f c.args.form.now c.note_given.new.form c.args.product.now c.args.framer.now.given c.note_given.ensures events c.flush.result c.flush.new.self.form.now _ (search rules)
    (kept f m c.new-out.result c.apply_given.new.out c.flush.new.self _ _ c.names.result.now _ c.new-out.ensures c.flush.result events (c.apply_given.ensures.emits numbered) c.flush.ensures.flushes)

pub returns-clause-text : goal.returns-clause-text
returns-clause-text g c =
    let f = g.F.LineForm.meanings in
    let m = g.S.Station.meanings in
    let puts = c.apply_given.ensures.puts in
    text-as f _ c.flush.new.self.form.now _ (search rules)
    (ap (λ lent. f.text lent.now) c.flush.ensures.flushes.form
    ∙ text_stays f m c.new-out.result c.apply_given.new.out puts.events puts.emits
    ∙ ap f.text c.new-out.ensures.form
    ∙ same_text f c.args.form.now c.note_given.new.form c.args.product.now c.args.framer.now.given c.note_given.ensures puts.events)
