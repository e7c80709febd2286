use Rattle.std.proofs.Common.{◌≡◌, ◌<◌, ◌≤◌, ◌+◌, ◌-◌, ◌*◌, [], length, vec_len}
use Rattle.fix_frame.specs.Grammar.{IsPartOfFrame}
use Rattle.globex_run.specs.Outside.{source_at}
use Rattle.globex_run.specs.Inner.AnswerSteps.{CanResend}
use Rattle.globex_run.proofs.AnswerTurns.{IsAnswering}
use Rattle.globex_run.proofs.answer.Answering.answer_input.Given as goal

abbrev pub invariant-turns : goal.invariant-turns
invariant-turns g l =
    let m = g.S.Station.meanings in
    let inputs = g.I.Source.meanings in
    record {
      turn : IsAnswering m l.product l.desk.lines l.fn.self.sessions l.fn.self.resender.kept (source_at inputs l.fn.input) l.fn.station (source_at inputs l.input) l.station l.sessions l.resender.kept l.count l.framer;
      can : CanResend m l.resender l.station;
      buffer : l.resender.reader.reports ≡ [];
      front : IsPartOfFrame l.framer.rest;
      short : length l.framer.rest < 4096;
      few : l.count ≤ 16777215;
      chunk : vec_len l.chunk ≡ 8192;
      place : l.framer.offset ≤ l.count * 8192;
    }

abbrev pub decreases-turns : goal.decreases-turns
decreases-turns g l = (16777216 - l.count) * 8193 + (8192 - length l.framer.rest)
