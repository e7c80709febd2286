use Rattle.std.proofs.Common.{[]}
use Rattle.globex_run.specs.Answering.{lines_again}
use Rattle.globex_run.proofs.Stepping.{steps-then}
use Rattle.globex_run.proofs.resender.send_again.Goals as goal

pub returns-in-Ok : goal.returns-in-Ok
returns-in-Ok g c =
    steps-then g.S.Station.meanings c.args.resender.now c.send_all.new.resender c.send_kept.new.resender c.args.station.now c.send_all.new.station c.send_kept.new.station
    (λ h. []) (λ h. lines_again h c.args.range.now) c.send_kept.result c.in-Ok.ensures.sends c.send_kept.ensures
