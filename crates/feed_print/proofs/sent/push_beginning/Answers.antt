use Rattle.std.proofs.Common.{◌∷◌, []}
use Rattle.exec_report.proofs.Pushed.{pushes-as}
use Rattle.feed_print.proofs.Telling.{not-begun}
use Rattle.feed_print.proofs.sent.push_beginning.Goals as goal

pub returns : goal.returns
returns g c =
    pushes-as g.S.Station.meanings c.args.station.now c.push_text.new.station c.args.buffer.now c.push_text.new.buffer (83 ∷ 32 ∷ 48 ∷ 32 ∷ 48 ∷ 10 ∷ []) _ c.push_text.result
    (not-begun c.args.begun c.if-begun.false) c.push_text.ensures.pushes
