use Rattle.std.proofs.Common.{[], ◌++◌, append-nil}
use Rattle.fix_session.specs.SessionOut.{session_out}
use Rattle.order_kinds.specs.Histories.{History}
use Rattle.globex_run.specs.Answering.{lines_again}
use Rattle.globex_run.proofs.Stepping.{failed, steps-then, steps-as, turns-of}
use Rattle.globex_run.proofs.answer.answer_turn.Goals as goal

pub returns-in-Ok-clause-sends : goal.returns-in-Ok-clause-sends
returns-in-Ok-clause-sends g c =
    let m = g.S.Station.meanings in
    let out = λ (h : History). session_out c.args.product.now.names c.args.desk.now.lines (lines_again h) c.args.sessions.now c.args.framer.now.given in
    turns-of m c.args.resender.now c.send_all.new.resender c.args.station.now c.send_all.new.station out c.send_all.result c.requires.empty c.send_all.ensures.empty
    (steps-as m c.args.resender.now c.send_all.new.resender c.args.station.now c.send_all.new.station (λ h. out h ++ []) out c.send_all.result (λ h. append-nil (out h))
    (steps-then m c.args.resender.now c.answer_given.new.resender c.send_all.new.resender c.args.station.now c.answer_given.new.station c.send_all.new.station out (λ h. []) c.send_all.result c.in-Ok.ensures.sends c.send_all.ensures.sends))

pub returns-in-Err-clause-sends : goal.returns-in-Err-clause-sends
returns-in-Err-clause-sends g c =
    let out = λ (h : History). session_out c.args.product.now.names c.args.desk.now.lines (lines_again h) c.args.sessions.now c.args.framer.now.given in
    turns-of g.S.Station.meanings c.args.resender.now c.answer_given.new.resender c.args.station.now c.answer_given.new.station out (failed c.in-Err.fault) c.requires.empty tt c.in-Err.ensures.sends
