use Rattle.std.proofs.Common.{ap}
use Rattle.gx_base.specs.Line.{line_of}
use Rattle.order_kinds.specs.State.{state_numbered}
use Rattle.globex_run.specs.Outside.{source_at, streams_at}
use Rattle.globex_run.specs.Inner.Executing.{command_of}
use Rattle.globex_run.proofs.Executed.{any-published, run-executed, drill-executed, checkpoint-executed, of-command}
use Rattle.globex_run.proofs.OpeningHeadlines.{opening-executed}
use Rattle.globex_run.proofs.execute.do_work.Goals as goal

pub returns-in-Run : goal.returns-in-Run
returns-in-Run g c =
    let m = g.S.Station.meanings in
    let product = c.args.session.now.product.now in
    let text = c.args.session.now.text.now in
    let before = streams_at g.I.Source.meanings m c.args.input.now c.args.station.now in
    let after = streams_at g.I.Source.meanings m c.serve.new.input c.serve.new.station in
    let then = state_numbered c.serve.new.self.engine.core in
    of-command m product text before after c.serve.result _ _ (ap command_of c.in-Run.is)
    (run-executed m product text before after c.serve.result
    (record { then = then; session = any-published m line_of product text before after _ then c.serve.result c.serve.ensures.session })
    c.serve.ensures.stays c.serve.ensures.refused)

pub returns-in-Drill : goal.returns-in-Drill
returns-in-Drill g c =
    let m = g.S.Station.meanings in
    let product = c.args.session.now.product.now in
    let text = c.args.session.now.text.now in
    let before = streams_at g.I.Source.meanings m c.args.input.now c.args.station.now in
    let after = streams_at g.I.Source.meanings m c.args.input.now c.drill.new.station in
    of-command m product text before after c.drill.result _ _ (ap command_of c.in-Drill.is)
    (drill-executed m product text (source_at g.I.Source.meanings c.args.input.now) c.args.station.now c.drill.new.station c.drill.result c.in-Drill.first c.in-Drill.count
    c.drill.ensures.drills c.drill.ensures.stays c.drill.ensures.refused)

pub returns-in-Checkpoint : goal.returns-in-Checkpoint
returns-in-Checkpoint g c =
    let m = g.S.Station.meanings in
    let product = c.args.session.now.product.now in
    let text = c.args.session.now.text.now in
    let before = streams_at g.I.Source.meanings m c.args.input.now c.args.station.now in
    let after = streams_at g.I.Source.meanings m c.args.input.now c.checkpoint.new.station in
    of-command m product text before after c.checkpoint.result _ _ (ap command_of c.in-Checkpoint.is)
    (checkpoint-executed m product text (source_at g.I.Source.meanings c.args.input.now) c.args.station.now c.checkpoint.new.station c.checkpoint.result
    c.checkpoint.ensures.did c.checkpoint.ensures.stays)

pub returns-in-Opening : goal.returns-in-Opening
returns-in-Opening g c =
    let m = g.S.Station.meanings in
    let product = c.args.session.now.product.now in
    let text = c.args.session.now.text.now in
    let before = streams_at g.I.Source.meanings m c.args.input.now c.args.station.now in
    let after = streams_at g.I.Source.meanings m c.show_openings.new.input c.show_openings.new.station in
    of-command m product text before after c.show_openings.result _ _ (ap command_of c.in-Opening.is)
    (opening-executed m product text before after c.show_openings.result c.limits.ensures c.show_openings.ensures)
