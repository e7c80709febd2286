use Rattle.std.proofs.Common.{rules}
use Rattle.gx_station.proofs.StreamSteps.{interrupted_more}
use Rattle.gx_station.proofs.read_source.read_uninterrupted.Goals as goal

pub loop-tries-preserved : goal.loop-tries-preserved
loop-tries-preserved g c =
    (search rules, interrupted_more g.R.InputStream.meanings c.loop-tries._tries c.args.reader.now c.loop-tries.reader c.read_once.new.self c.read_once.new.into c.in-Err.e (c.is_interrupted.ensures.0 c.if-is_interrupted.true) c.loop-tries.invariant.1 c.in-Err.ensures.read)
