use Rattle.std.proofs.Common.{◌≤◌, length, take, arith, ap}
use Rattle.std.proofs.lemmas.List.{length-take-le}
use Rattle.gx_base.specs.Line.{body_of, line_of}
use Rattle.fix_session.proofs.Lengths.{again_short}
use Rattle.fix_session.proofs.Parts.{again_is, again_body_is}
use Rattle.fix_session.proofs.again.write_again.Goals as goal

pub write_frame-requires-clause-short : goal.write_frame-requires-clause-short
write_frame-requires-clause-short c =
    let body = body_of c.args.names.now c.args.event.now in
    let line_short : length (line_of c.args.names.now c.args.event.now) ≤ 1024 = omega (arith, c.write_line-count.ensures.count, c.write_line-count.ensures.short) in
    let front_short : length (take c.write_line-count.result c.write_line-count.new.into) ≤ 1024 = omega (arith, c.write_line-count.array_long, c.write_line-count.ensures.short, length-take-le c.write_line-count.result c.write_line-count.new.into (omega (arith, c.write_line-count.array_long, c.write_line-count.ensures.short))) in
    let cut = c.body_in.ensures.body body c.write_line-count.ensures.line front_short in
    let again = again_body_is c.args.new_time.now body c.body_in.result.now (take c.write_again_body-count.result c.write_again_body-count.new.into) cut c.write_again_body-count.ensures.body in
    let bound = again_short c.args.names.now c.args.new_time.now c.args.event.now c.are_known.ensures.exchange c.are_known.ensures.first_time c.are_known.ensures.line c.are_known.ensures.new_time line_short in
    omega (arith, ap length again, bound)

pub returns-clause-line : goal.returns-clause-line
returns-clause-line c =
    again_is c.args.names.now c.args.new_time.now c.args.event.now c.body_in.result.now (take c.write_again_body-count.result c.write_again_body-count.new.into) _
    (c.body_in.ensures.body (body_of c.args.names.now c.args.event.now) c.write_line-count.ensures.line (omega (arith, c.write_line-count.array_long, c.write_line-count.ensures.short, length-take-le c.write_line-count.result c.write_line-count.new.into (omega (arith, c.write_line-count.array_long, c.write_line-count.ensures.short)))))
    c.write_again_body-count.ensures.body
    c.write_frame.ensures.frame
