use Rattle.fix_session.specs.SessionLines.{session_line}
use Rattle.globex_run.proofs.Stepping.{steps-stopped}
use Rattle.globex_run.proofs.resender.send_two.Goals as goal

pub returns-in-Err : goal.returns-in-Err
returns-in-Err g c =
    steps-stopped g.S.Station.meanings c.args.resender.now c.send_line.new.resender c.args.station.now c.send_line.new.station (λ h. session_line c.args.names.now c.args.line.now) (λ h. session_line c.args.names.now c.args.other.now) c.in-Err.fault c.in-Err.ensures
