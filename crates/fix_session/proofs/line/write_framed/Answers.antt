use Rattle.std.proofs.Common.{arith}
use Rattle.fix_session.specs.SessionLines.{session_body}
use Rattle.line_parts.proofs.Framing.{ends_behind_gap, framed}
use Rattle.fix_session.proofs.line.write_framed.Goals as goal

pub put_frame-requires-clause-gap : goal.put_frame-requires-clause-gap
put_frame-requires-clause-gap c =
    ends_behind_gap c.args.into.now c.write_body-end.new.into (session_body c.args.names.now c.args.line.now) c.write_body-end.result (omega arith) (omega arith) c.write_body-end.ensures.body

pub returns-clause-line : goal.returns-clause-line
returns-clause-line c =
    framed c.args.into.now c.write_body-end.new.into (session_body c.args.names.now c.args.line.now) _ c.write_body-end.result (omega arith) (omega arith) c.write_body-end.ensures.body c.put_frame.ensures.frame
