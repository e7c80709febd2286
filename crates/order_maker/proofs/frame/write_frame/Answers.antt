use Rattle.std.proofs.Common.{◌-◌, arith}
use Rattle.line_parts.specs.Rows.{ended}
use Rattle.line_parts.specs.declared.fields.TheConstants.{GAP}
use Rattle.line_parts.proofs.Framing.{ends_behind_gap, framed}
use Rattle.line_parts.proofs.RowLaws.{ended_length, after_gap}
use Rattle.order_maker.specs.Stream.{body_of, frame_at}
use Rattle.order_maker.proofs.frame.write_frame.Goals as goal

pub put_frame-requires-clause-gap : goal.put_frame-requires-clause-gap
put_frame-requires-clause-gap c =
    let old = c.args.into.now in
    let new = c.write_body-end.new.into in
    let body = body_of c.args.product.now c.args.turn.now.number c.args.made.now in
    ends_behind_gap (ended (GAP - 1) old) new body c.write_body-end.result (omega (arith, ended_length old (GAP - 1) (omega arith))) (omega arith)
    (after_gap old new body c.write_body-end.result (omega arith) c.write_body-end.ensures.body)

pub returns-clause-frame : goal.returns-clause-frame
unfolding frame_at
returns-clause-frame c =
    let old = c.args.into.now in
    let new = c.write_body-end.new.into in
    let body = body_of c.args.product.now c.args.turn.now.number c.args.made.now in
    framed (ended (GAP - 1) old) new body _ c.write_body-end.result (omega (arith, ended_length old (GAP - 1) (omega arith))) (omega arith)
    (after_gap old new body c.write_body-end.result (omega arith) c.write_body-end.ensures.body) c.put_frame.ensures.frame
