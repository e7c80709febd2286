use Rattle.std.proofs.Common.{ℕ, ◌+◌, ◌<◌, List, ◌++◌, length, take, drop, ap, ◌∙◌, arith}
use Rattle.fix_frame.specs.Grammar.{body_in}
use Rattle.fix_session.specs.Answers.{taken_in}
use Rattle.fix_session.specs.SessionOut.{answer_bytes, session_out, sessions_after}
use Rattle.order_kinds.specs.Histories.{History}
use Rattle.globex_run.specs.Answering.{lines_again}
use Rattle.globex_run.proofs.Stepping.{done, failed, steps-then, steps-stopped, steps-as}
use Rattle.globex_run.proofs.AnswerFrames.{answer_is, out_more, after_more, out_whole}
use Rattle.globex_run.proofs.answer.answer_given.Goals as goal

pub loop-number-preserved : goal.loop-number-preserved
loop-number-preserved g c =
    let m = g.S.Station.meanings in
    let names = c.args.product.now.names in
    let lines = c.args.desk.now.lines in
    let start = c.args.sessions.now in
    let given = c.args.framer.now.given in
    let k = c.loop-number.number in
    let frame = c.given.result.now in
    let before = c.loop-number.invariant in
    let within : k < length given = omega arith in
    let taken = taken_in names c.loop-number.sessions lines (body_in frame) in
    let first = λ (h : History). session_out names lines (lines_again h) start (take k given) in
    let one = λ (h : History). answer_bytes c.names.result.now (lines_again h) c.take-answer.result in
    record {
      steps = steps-as m c.args.resender.now c.send_answer.new.resender c.args.station.now c.send_answer.new.station (λ h. first h ++ one h) (λ h. session_out names lines (lines_again h) start (take (k + 1) given)) done
          (λ h. ap (λ (l : List ℕ). first h ++ l) (answer_is c.names.result.now names (lines_again h) c.take-answer.result taken.answer c.names.ensures c.take-answer.ensures.answer) ∙ out_more names lines start given k within frame c.given.ensures.bytes c.loop-number.sessions before.sessions (lines_again h))
          (steps-then m c.args.resender.now c.loop-number.resender c.send_answer.new.resender c.args.station.now c.loop-number.station c.send_answer.new.station first one done before.steps c.in-Ok.ensures);
      sessions = c.take-answer.ensures.sessions ∙ after_more names lines start given k within frame c.given.ensures.bytes c.loop-number.sessions before.sessions;
    }

pub returns-in-Err-clause-sends : goal.returns-in-Err-clause-sends
returns-in-Err-clause-sends g c =
    let m = g.S.Station.meanings in
    let names = c.args.product.now.names in
    let lines = c.args.desk.now.lines in
    let start = c.args.sessions.now in
    let given = c.args.framer.now.given in
    let k = c.loop-number.number in
    let frame = c.given.result.now in
    let before = c.loop-number.invariant in
    let within : k < length given = omega arith in
    let taken = taken_in names c.loop-number.sessions lines (body_in frame) in
    let first = λ (h : History). session_out names lines (lines_again h) start (take k given) in
    let one = λ (h : History). answer_bytes c.names.result.now (lines_again h) c.take-answer.result in
    let here = λ (h : History). session_out names lines (lines_again h) start (take (k + 1) given) in
    let rest = λ (h : History). session_out names lines (lines_again h) (sessions_after names lines start (take (k + 1) given)) (drop (k + 1) given) in
    let did = steps-as m c.args.resender.now c.send_answer.new.resender c.args.station.now c.send_answer.new.station (λ h. first h ++ one h) here (failed c.in-Err.fault)
    (λ h. ap (λ (l : List ℕ). first h ++ l) (answer_is c.names.result.now names (lines_again h) c.take-answer.result taken.answer c.names.ensures c.take-answer.ensures.answer) ∙ out_more names lines start given k within frame c.given.ensures.bytes c.loop-number.sessions before.sessions (lines_again h))
    (steps-then m c.args.resender.now c.loop-number.resender c.send_answer.new.resender c.args.station.now c.loop-number.station c.send_answer.new.station first one (failed c.in-Err.fault) before.steps c.in-Err.ensures) in
    steps-as m c.args.resender.now c.send_answer.new.resender c.args.station.now c.send_answer.new.station (λ h. here h ++ rest h) (λ h. session_out names lines (lines_again h) start given) (failed c.in-Err.fault)
    (λ h. out_whole names lines start given k within frame c.given.ensures.bytes (lines_again h))
    (steps-stopped m c.args.resender.now c.send_answer.new.resender c.args.station.now c.send_answer.new.station here rest c.in-Err.fault did)
