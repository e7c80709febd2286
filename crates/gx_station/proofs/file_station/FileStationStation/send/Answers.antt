use Rattle.std.proofs.Common.{rules}
use Rattle.gx_station.proofs.StreamSteps.{send_written}
use Rattle.gx_station.proofs.file_station.FileStationStation.send.Goals as goal

pub returns-then-is_err-2-clause-calls : goal.returns-then-is_err-2-clause-calls
returns-then-is_err-2-clause-calls g c =
    send_written g.W.OutputStream.meanings c.args.self.now.out c.write_out.new.out _ c.args.bytes.now c.write_out.result _ _ c.if-is_err.ensures.negation c.write_out.ensures.taken c.if-is_err-2.ensures.negation (search rules)

pub returns-clause-calls : goal.returns-clause-calls
returns-clause-calls g c =
    send_written g.W.OutputStream.meanings c.args.self.now.out c.write_out.new.out _ c.args.bytes.now c.write_out.result _ _ c.if-is_err.ensures.negation c.write_out.ensures.taken c.if-is_err-2.ensures.negation (search rules)
