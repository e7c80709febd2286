use Rattle.std.proofs.Common.{ap, sym}
use Rattle.fix_session.specs.declared.answer.SessionAnswer.{SessionAnswer}
use Rattle.fix_session.specs.SessionOut.{answer_bytes}
use Rattle.order_kinds.specs.Histories.{History}
use Rattle.globex_run.specs.Answering.{lines_again}
use Rattle.globex_run.proofs.Stepping.{steps-as}
use Rattle.globex_run.proofs.resender.send_answer.Goals as goal

pub returns-in-One : goal.returns-in-One
returns-in-One g c =
    steps-as g.S.Station.meanings c.args.resender.now c.send_line.new.resender c.args.station.now c.send_line.new.station _ (λ (h : History). answer_bytes c.args.names.now (lines_again h) c.args.answer.now) c.send_line.result
    (λ h. ap (λ (a : SessionAnswer). answer_bytes c.args.names.now (lines_again h) a) (sym c.in-One.is)) c.send_line.ensures

pub returns-in-Two : goal.returns-in-Two
returns-in-Two g c =
    steps-as g.S.Station.meanings c.args.resender.now c.send_two.new.resender c.args.station.now c.send_two.new.station _ (λ (h : History). answer_bytes c.args.names.now (lines_again h) c.args.answer.now) c.send_two.result
    (λ h. ap (λ (a : SessionAnswer). answer_bytes c.args.names.now (lines_again h) a) (sym c.in-Two.is)) c.send_two.ensures

pub returns-in-Resend : goal.returns-in-Resend
returns-in-Resend g c =
    steps-as g.S.Station.meanings c.args.resender.now c.send_again.new.resender c.args.station.now c.send_again.new.station _ (λ (h : History). answer_bytes c.args.names.now (lines_again h) c.args.answer.now) c.send_again.result
    (λ h. ap (λ (a : SessionAnswer). answer_bytes c.args.names.now (lines_again h) a) (sym c.in-Resend.is)) c.send_again.ensures
