use Rattle.gx_station.specs.Streams.{IsTaken}
use Rattle.gx_station.proofs.Written.{IsWritten}
use Rattle.gx_station.proofs.file_station.write_out.Given as goal

abbrev pub invariant-loop-tries : goal.invariant-loop-tries
invariant-loop-tries g l = IsWritten (g.W.OutputStream.meanings.holds l.fn.out) (g.W.OutputStream.meanings.holds l.out) l.bytes l.count × IsTaken g.W.OutputStream.meanings l._tries l.fn.out l.out l.bytes l.count
