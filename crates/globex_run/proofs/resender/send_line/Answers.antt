use Rattle.fix_session.specs.SessionLines.{session_line}
use Rattle.globex_run.proofs.Stepping.{steps-pushed, steps-unpushed}
use Rattle.globex_run.proofs.resender.send_line.Goals as goal

pub returns-in-Ok : goal.returns-in-Ok
returns-in-Ok g c =
    steps-pushed g.S.Station.meanings c.args.resender.now c.push_text.new.buffer c.args.station.now c.push_text.new.station (session_line c.args.names.now c.args.line.now) _ c.write_session-count.ensures.line c.in-Ok.field-0 c.requires c.in-Ok.ensures.pushes

pub returns-in-Err : goal.returns-in-Err
returns-in-Err g c =
    steps-unpushed g.S.Station.meanings c.args.resender.now c.push_text.new.buffer c.args.station.now c.push_text.new.station (session_line c.args.names.now c.args.line.now) _ c.write_session-count.ensures.line c.in-Err.field-0 c.in-Err.ensures.pushes
