use Rattle.std.proofs.Common.{◌≡◌, take}
use Rattle.fix_session.specs.SessionOut.{session_out, sessions_after}
use Rattle.order_kinds.specs.Histories.{History}
use Rattle.globex_run.specs.Answering.{lines_again}
use Rattle.globex_run.specs.Inner.AnswerSteps.{Steps}
use Rattle.globex_run.proofs.Stepping.{done}
use Rattle.globex_run.proofs.answer.answer_given.Given as goal

abbrev pub invariant-loop-number : goal.invariant-loop-number
invariant-loop-number g l =
    let names = l.product.names in
    let lines = l.desk.lines in
    let first = take l.number l.framer.given in
    record {
      steps : Steps g.S.Station.meanings l.fn.resender l.resender l.fn.station l.station (λ (history : History). session_out names lines (lines_again history) l.fn.sessions first) done;
      sessions : l.sessions ≡ sessions_after names lines l.fn.sessions first;
    }
