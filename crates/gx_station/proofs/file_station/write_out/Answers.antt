use Rattle.std.proofs.Common.{drop, length-drop, arith}
use Rattle.std.proofs.lemmas.List.{take_all}
use Rattle.gx_station.proofs.Written.{written_more}
use Rattle.gx_station.proofs.StreamSteps.{taken_more, all_taken, send_refused, send_used_up}
use Rattle.gx_station.proofs.file_station.write_out.Goals as goal

pub loop-tries-preserved : goal.loop-tries-preserved
loop-tries-preserved g c =
    let rest = take_all _ (drop c.loop-tries.count c.args.bytes.now) (omega (arith, length-drop c.loop-tries.count c.args.bytes.now)) in (
      written_more _ (g.W.OutputStream.meanings.holds c.loop-tries.out) _ c.args.bytes.now _ c.loop-tries.count c.in_ok-count.field-0 rest c.loop-tries.invariant.0 c.in_ok-count.ensures.bound
          c.in_ok-count.ensures.bytes,
      taken_more g.W.OutputStream.meanings c.loop-tries._tries c.args.out.now c.loop-tries.out c.write_some.new.out c.args.bytes.now _ c.loop-tries.count c.in_ok-count.field-0 rest c.loop-tries.invariant.1 c.in_ok-count.ensures.advances,
    )

pub returns-then-count-bytes-clause-taken : goal.returns-then-count-bytes-clause-taken
returns-then-count-bytes-clause-taken g c =
    all_taken g.W.OutputStream.meanings c.loop-tries._tries c.args.out.now c.loop-tries.out c.args.bytes.now c.loop-tries.count c.if-count-bytes.true c.loop-tries.invariant.1

pub returns-in_err-count-clause-calls : goal.returns-in_err-count-clause-calls
returns-in_err-count-clause-calls g c =
    let rest = take_all _ (drop c.loop-tries.count c.args.bytes.now) (omega (arith, length-drop c.loop-tries.count c.args.bytes.now)) in
    send_refused g.W.OutputStream.meanings c.loop-tries._tries c.args.out.now c.loop-tries.out c.write_some.new.out c.args.bytes.now _ c.loop-tries.count c.from_residual.result rest c.loop-tries.invariant.1 c.in_err-count.ensures.refused

pub returns-clause-calls : goal.returns-clause-calls
returns-clause-calls g c =
    send_used_up g.W.OutputStream.meanings c.loop-tries._tries c.args.out.now c.loop-tries.out c.args.bytes.now c.loop-tries.count c.from.result c.loop-tries-test.false c.loop-tries.invariant.1
