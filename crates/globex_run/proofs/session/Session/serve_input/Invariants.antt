use Rattle.globex_run.specs.Inner.Keeping.{KeepsEvents}
use Rattle.std.proofs.Common.{◌≡◌, ◌<◌, ◌≤◌, ◌+◌, ◌-◌, ◌*◌, List, [], true, length, vec_len}
use Rattle.fix_frame.specs.Grammar.{IsPartOfFrame}
use Rattle.gx_base.specs.declared.event.Event.{Event}
use Rattle.order_kinds.specs.Cores.{FitsProduct, AreNumbered}
use Rattle.order_kinds.specs.State.{state_numbered}
use Rattle.globex_run.specs.Outside.{source_at, streams_at}
use Rattle.globex_run.proofs.Turns.{IsServing}
use Rattle.globex_run.proofs.session.Session.serve_input.Given as goal

abbrev pub invariant-turns : goal.invariant-turns
invariant-turns g l =
    let m = g.S.Station.meanings in
    let inputs = g.I.Source.meanings in
    record {
      turn : IsServing m (AreNumbered l.fn.self.engine.core) (g.F.LineForm.meanings.text l.fn.form) l.product l.fn.journal.limit (streams_at inputs m l.fn.input l.fn.station) 0 (source_at inputs l.input) l.station l.fn.journal.gate l.journal.gate (state_numbered l.fn.self.engine.core) (state_numbered l.engine.core) l.framer (λ (events : List Event). KeepsEvents g.F.LineForm.meanings l.fn.form l.form events);
      text : g.F.LineForm.meanings.text l.form ≡ g.F.LineForm.meanings.text l.fn.form;
      front : IsPartOfFrame l.framer.rest;
      short : length l.framer.rest < 4096;
      limit : l.journal.limit ≡ l.fn.journal.limit;
      bytes_read : m.bytes_read l.station ≡ m.bytes_read l.fn.station;
      at_end : l.journal.is_at_end ≡ true;
      reach : l.journal.known ≤ m.reach l.station;
      in_limit : l.journal.gate < l.journal.limit;
      few : l.engine.core.desk.messages < 16777216;
      fits : FitsProduct l.product l.engine.core;
      numbered : AreNumbered l.fn.self.engine.core → AreNumbered l.engine.core;
      chunk : vec_len l.chunk ≡ 8192;
      buffer : l.engine.reports ≡ [];
      offset : l.framer.offset ≤ l.journal.gate;
    }

abbrev pub decreases-turns : goal.decreases-turns
decreases-turns g l = (l.journal.limit - l.journal.gate) * 8193 + (8192 - length l.framer.rest)
