use Rattle.std.proofs.Common.{◌≡◌, ◌<◌, ◌≤◌, ◌+◌, ◌-◌, ◌*◌, length, vec_len}
use Rattle.fix_frame.specs.Grammar.{IsPartOfFrame}
use Rattle.order_kinds.specs.Cores.{FitsProduct}
use Rattle.globex_run.specs.Outside.{source_at}
use Rattle.globex_run.proofs.CollectTurns.{IsCollecting}
use Rattle.globex_run.proofs.session.Session.collect_input.Given as goal

abbrev pub invariant-turns : goal.invariant-turns
invariant-turns g l = record {
  turn : IsCollecting l.product (source_at g.I.Source.meanings l.fn.input) l.fn.self.engine.core (source_at g.I.Source.meanings l.input) l.engine.core l.framer;
  front : IsPartOfFrame l.framer.rest;
  short : length l.framer.rest < 4096;
  fits : FitsProduct l.product l.engine.core;
  reports : l.engine.reports ≡ l.fn.self.engine.reports;
  chunk : vec_len l.chunk ≡ 8192;
  place : l.framer.offset ≤ l.engine.core.desk.messages * 8192;
}

abbrev pub decreases-turns : goal.decreases-turns
decreases-turns g l = (16777216 - l.engine.core.desk.messages) * 8193 + (8192 - length l.framer.rest)
