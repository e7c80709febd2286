use Rattle.globex_run.specs.Outside.{streams_at}
use Rattle.globex_run.proofs.Executed.{over-taken}
use Rattle.globex_run.proofs.execute.in_session.Goals as goal

pub returns-clause-did : goal.returns-clause-did
returns-clause-did g c =
    let m = g.S.Station.meanings in
    let session = c.in_ok-session.session in
    over-taken m session.product.now _ session.text.now _ (streams_at g.I.Source.meanings m c.args.input.now c.args.station.now) (streams_at g.I.Source.meanings m c.do_work.new.input c.do_work.new.station)
    c.do_work.result _ c.in_ok-session.ensures.product c.in_ok-session.ensures.text c.do_work.ensures
