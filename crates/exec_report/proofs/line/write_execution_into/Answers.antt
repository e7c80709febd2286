use Rattle.std.proofs.Common.{◌-◌, ◌∙◌, ap, length, sym, arith}
use Rattle.std.proofs.lemmas.List.{length-take-le}
use Rattle.gx_base.specs.Executions.{event_of}
use Rattle.gx_base.specs.Line.{body_of}
use Rattle.line_parts.specs.Rows.{ended}
use Rattle.line_parts.specs.declared.fields.TheConstants.{GAP}
use Rattle.line_parts.proofs.Framing.{ends_behind_gap, framed}
use Rattle.line_parts.proofs.RowLaws.{ended_length, after_gap}
use Rattle.exec_report.proofs.line.write_execution_into.Goals as goal

pub put_frame-requires-clause-gap : goal.put_frame-requires-clause-gap
put_frame-requires-clause-gap c =
    let old = c.args.into.now in
    let new = c.write_execution_body-end.new.into in
    let body = body_of c.args.names.now (event_of c.args.execution.now) in
    ends_behind_gap (ended (GAP - 1) old) new body c.write_execution_body-end.result (omega (arith, ended_length old (GAP - 1) (omega arith))) (omega arith)
    (after_gap old new body c.write_execution_body-end.result (omega arith) c.write_execution_body-end.ensures.body)

pub returns-clause-line : goal.returns-clause-line
returns-clause-line c =
    let old = c.args.into.now in
    let new = c.write_execution_body-end.new.into in
    let body = body_of c.args.names.now (event_of c.args.execution.now) in
    framed (ended (GAP - 1) old) new body _ c.write_execution_body-end.result (omega (arith, ended_length old (GAP - 1) (omega arith))) (omega arith)
    (after_gap old new body c.write_execution_body-end.result (omega arith) c.write_execution_body-end.ensures.body) c.put_frame.ensures.frame

pub returns-clause-count : goal.returns-clause-count
returns-clause-count c =
    sym (length-take-le c.put_frame.result c.put_frame.new.into (omega arith)) ∙ ap length (returns-clause-line c)
