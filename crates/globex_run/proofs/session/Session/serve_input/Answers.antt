use Rattle.std.proofs.Common.{rules, ◌≡◌, ◌⊎◌, ◌+◌, ◌-◌, ◌*◌, ◌<◌, ℕ, List, length, Ok, Err, refl, sym, ap, subst, ◌∙◌, arith}
use Rattle.globex_run.specs.Inner.Keeping.{KeepsEvents}
use Rattle.gx_base.specs.declared.event.Event.{Event}
use Rattle.fix_frame.specs.Grammar.{IsPartOfFrame}
use Rattle.order_kinds.specs.State.{state_numbered}
use Rattle.order_kinds.specs.Cores.{AreNumbered}
use Rattle.globex_run.specs.Outside.{source_at, streams_at}
use Rattle.globex_run.specs.Inner.Serving.{TakesMore, HasNoRoomBehind, AreMostGiven}
use Rattle.globex_run.proofs.Turns.{nothing_unfinished, turn_first, turn_read, turn_more, turn_falls, offset_behind, same_limit, published_then, no_room_behind, ends_read_fault, ends_truncated, ends_stopped, ends_full, ends_broken}
use Rattle.gx_station.specs.declared.station.Failed.{Failed}
use Rattle.globex_run.proofs.session.Session.serve_input.Goals as goal

pub turns-init : goal.turns-init
turns-init g c = record {
  turn = turn_first g.S.Station.meanings (AreNumbered c.args.self.now.engine.core) (g.F.LineForm.meanings.text c.args.form.now) c.args.self.now.product.now c.args.journal.now.limit (streams_at g.I.Source.meanings g.S.Station.meanings c.args.input.now c.args.station.now) c.args.journal.now.gate (state_numbered c.args.self.now.engine.core) c.args.self.now.framer (λ (events : List Event). KeepsEvents g.F.LineForm.meanings c.args.form.now c.args.form.now events) (λ notes. refl) c.requires.framer;
  text = refl;
  front = subst IsPartOfFrame (sym c.requires.framer.rest) nothing_unfinished;
  short = omega (arith, ap (λ (l : List ℕ). length l) c.requires.framer.rest);
  limit = refl;
  bytes_read = refl;
  at_end = c.requires.at_end;
  reach = c.requires.reach;
  in_limit = c.requires.in_limit;
  few = c.requires.few;
  fits = c.requires.fits;
  numbered = λ numbered. numbered;
  chunk = search rules;
  buffer = c.requires.reports;
  offset = omega (arith, c.requires.framer.offset);
}

pub returns-in-Ok-eq0-2-clause-serves : goal.returns-in-Ok-eq0-2-clause-serves
returns-in-Ok-eq0-2-clause-serves g c =
    let takes : TakesMore {F = Failed} (source_at g.I.Source.meanings c.turns.input) (source_at g.I.Source.meanings c.take_more.new.input) c.turns.framer c.take_more.new.framer (Ok 0) = search rules in
    ends_truncated g.S.Station.meanings (AreNumbered c.args.self.now.engine.core) (g.F.LineForm.meanings.text c.args.form.now) c.args.self.now.product.now c.args.journal.now.limit (streams_at g.I.Source.meanings g.S.Station.meanings c.args.input.now c.args.station.now) c.args.journal.now.gate (state_numbered c.args.self.now.engine.core) (source_at g.I.Source.meanings c.turns.input) c.turns.station c.turns.journal.gate (state_numbered c.turns.engine.core) c.turns.framer (λ (events : List Event). KeepsEvents g.F.LineForm.meanings c.args.form.now c.turns.form events) c.turns.invariant.turn (source_at g.I.Source.meanings c.take_more.new.input) c.take_more.new.framer 0 refl takes c.offset-at.result c.offset-at.ensures (λ none. c.if-held-eq0.false (c.rest-held.ensures.count ∙ none)) c.turns.invariant.front

pub returns-in-Err-clause-serves : goal.returns-in-Err-clause-serves
returns-in-Err-clause-serves g c =
    ends_read_fault g.S.Station.meanings (AreNumbered c.args.self.now.engine.core) (g.F.LineForm.meanings.text c.args.form.now) c.args.self.now.product.now c.args.journal.now.limit (streams_at g.I.Source.meanings g.S.Station.meanings c.args.input.now c.args.station.now) c.args.journal.now.gate (state_numbered c.args.self.now.engine.core) (source_at g.I.Source.meanings c.turns.input) c.turns.station c.turns.journal.gate (state_numbered c.turns.engine.core) c.turns.framer (λ (events : List Event). KeepsEvents g.F.LineForm.meanings c.args.form.now c.turns.form events) c.turns.invariant.turn (source_at g.I.Source.meanings c.take_more.new.input) c.take_more.new.framer c.in-Err.field-0 (c.offset-at.result + c.rest-held.result) c.in-Err.ensures.takes c.turns.invariant.front (omega (arith, c.offset-at.ensures, c.rest-held.ensures.count))

pub returns-in-Err-serve_record-clause-serves : goal.returns-in-Err-serve_record-clause-serves
returns-in-Err-serve_record-clause-serves g c =
    let read = turn_read g.S.Station.meanings (AreNumbered c.args.self.now.engine.core) (g.F.LineForm.meanings.text c.args.form.now) c.args.self.now.product.now c.args.journal.now.limit (streams_at g.I.Source.meanings g.S.Station.meanings c.args.input.now c.args.station.now) c.args.journal.now.gate (state_numbered c.args.self.now.engine.core) (source_at g.I.Source.meanings c.turns.input) (source_at g.I.Source.meanings c.take_more.new.input) c.turns.station c.turns.journal.gate (state_numbered c.turns.engine.core) c.turns.framer c.take_more.new.framer (λ (events : List Event). KeepsEvents g.F.LineForm.meanings c.args.form.now c.turns.form events) c.in-Ok.field-0 (λ none. c.in-Ok.field-0-test.1 none) c.turns.invariant.turn c.in-Ok.ensures.takes in
    ends_stopped g.S.Station.meanings (AreNumbered c.args.self.now.engine.core) (g.F.LineForm.meanings.text c.args.form.now) c.args.self.now.product.now c.args.journal.now.limit (streams_at g.I.Source.meanings g.S.Station.meanings c.args.input.now c.args.station.now) c.args.journal.now.gate (state_numbered c.args.self.now.engine.core) (source_at g.I.Source.meanings c.take_more.new.input) c.turns.station c.turns.journal.gate (state_numbered c.turns.engine.core) c.take_more.new.framer (λ (events : List Event). KeepsEvents g.F.LineForm.meanings c.args.form.now c.turns.form events) read c.room.result _ c.give_frames-behind.new.framer c.give_frames-behind.result c.give_frames-behind.ensures c.serve_record.new.station c.serve_record.new.journal.gate (state_numbered c.serve_record.new.engine.core) (λ (events : List Event). KeepsEvents g.F.LineForm.meanings c.args.form.now c.serve_record.new.form events)
    c.in-Err-serve_record.reason (same_limit g.S.Station.meanings (AreNumbered c.args.self.now.engine.core) (AreNumbered c.turns.engine.core) c.turns.invariant.numbered (g.F.LineForm.meanings.text c.args.form.now) (g.F.LineForm.meanings.text c.turns.form) c.turns.invariant.text c.args.self.now.product.now c.args.journal.now.limit c.turns.journal.limit c.turns.station c.serve_record.new.station c.turns.journal.gate c.serve_record.new.journal.gate (state_numbered c.turns.engine.core) (state_numbered c.serve_record.new.engine.core) c.give_frames-behind.new.framer.given (Err c.in-Err-serve_record.reason) c.turns.invariant.limit c.in-Err-serve_record.ensures.answers) c.ending.result c.ending.ensures

pub turns-smaller : goal.turns-smaller
turns-smaller g c =
    let did = same_limit g.S.Station.meanings (AreNumbered c.args.self.now.engine.core) (AreNumbered c.turns.engine.core) c.turns.invariant.numbered (g.F.LineForm.meanings.text c.args.form.now) (g.F.LineForm.meanings.text c.turns.form) c.turns.invariant.text c.args.self.now.product.now c.args.journal.now.limit c.turns.journal.limit c.turns.station c.serve_record.new.station c.turns.journal.gate c.serve_record.new.journal.gate (state_numbered c.turns.engine.core) (state_numbered c.serve_record.new.engine.core) c.give_frames-behind.new.framer.given (Ok c.in_default.field-0) c.turns.invariant.limit c.in_default.ensures.answers in
    subst (λ (limit : ℕ). (limit - c.serve_record.new.journal.gate) * 8193 + (8192 - length c.give_frames-behind.new.framer.rest) < (c.turns.journal.limit - c.turns.journal.gate) * 8193 + (8192 - length c.turns.framer.rest)) (sym c.serve_record.ensures.limit)
    (turn_falls c.turns.journal.limit c.turns.journal.gate c.serve_record.new.journal.gate c.give_frames-behind.new.framer.given c.turns.framer.rest c.in-Ok.ensures.takes.taken c.take_more.new.framer.rest c.give_frames-behind.new.framer.rest did.1.all_kept.grown (omega (arith, c.in_default.ensures.in_limit, c.serve_record.ensures.limit)) c.turns.invariant.short (λ none. c.in-Ok.field-0-test.1 (sym c.in-Ok.ensures.takes.count ∙ none)) c.in-Ok.ensures.takes.rest c.give_frames-behind.ensures.front)

pub turns-preserved : goal.turns-preserved
turns-preserved g c =
    let read = turn_read g.S.Station.meanings (AreNumbered c.args.self.now.engine.core) (g.F.LineForm.meanings.text c.args.form.now) c.args.self.now.product.now c.args.journal.now.limit (streams_at g.I.Source.meanings g.S.Station.meanings c.args.input.now c.args.station.now) c.args.journal.now.gate (state_numbered c.args.self.now.engine.core) (source_at g.I.Source.meanings c.turns.input) (source_at g.I.Source.meanings c.take_more.new.input) c.turns.station c.turns.journal.gate (state_numbered c.turns.engine.core) c.turns.framer c.take_more.new.framer (λ (events : List Event). KeepsEvents g.F.LineForm.meanings c.args.form.now c.turns.form events) c.in-Ok.field-0 (λ none. c.in-Ok.field-0-test.1 none) c.turns.invariant.turn c.in-Ok.ensures.takes in
    let did = same_limit g.S.Station.meanings (AreNumbered c.args.self.now.engine.core) (AreNumbered c.turns.engine.core) c.turns.invariant.numbered (g.F.LineForm.meanings.text c.args.form.now) (g.F.LineForm.meanings.text c.turns.form) c.turns.invariant.text c.args.self.now.product.now c.args.journal.now.limit c.turns.journal.limit c.turns.station c.serve_record.new.station c.turns.journal.gate c.serve_record.new.journal.gate (state_numbered c.turns.engine.core) (state_numbered c.serve_record.new.engine.core) c.give_frames-behind.new.framer.given (Ok c.in_default.field-0) c.turns.invariant.limit c.in_default.ensures.answers in
    record {
      turn = turn_more g.S.Station.meanings (AreNumbered c.args.self.now.engine.core) (g.F.LineForm.meanings.text c.args.form.now) c.args.self.now.product.now c.args.journal.now.limit (streams_at g.I.Source.meanings g.S.Station.meanings c.args.input.now c.args.station.now) c.args.journal.now.gate (state_numbered c.args.self.now.engine.core) (source_at g.I.Source.meanings c.take_more.new.input) c.turns.station c.turns.journal.gate (state_numbered c.turns.engine.core) c.take_more.new.framer (λ (events : List Event). KeepsEvents g.F.LineForm.meanings c.args.form.now c.turns.form events) read c.room.result _ c.give_frames-behind.new.framer c.give_frames-behind.result c.give_frames-behind.ensures c.serve_record.new.station c.serve_record.new.journal.gate (state_numbered c.serve_record.new.engine.core) c.in_default.field-0 (λ (events : List Event). KeepsEvents g.F.LineForm.meanings c.args.form.now c.serve_record.new.form events)
          (λ numbered events here. published_then g.F.LineForm.meanings c.args.form.now c.turns.form c.serve_record.new.form events _ here (c.in_default.ensures.published (c.turns.invariant.numbered numbered))) did;
      text = c.serve_record.ensures.text ∙ c.turns.invariant.text;
      front = c.in-Front.ensures.stands.0;
      short = c.in-Front.ensures.stands.1;
      limit = c.serve_record.ensures.limit ∙ c.turns.invariant.limit;
      bytes_read = c.serve_record.ensures.bytes_read ∙ c.turns.invariant.bytes_read;
      at_end = c.in_default.ensures.at_end;
      reach = c.in_default.ensures.reach;
      in_limit = c.in_default.ensures.in_limit;
      few = c.in_default.ensures.few;
      fits = c.in_default.ensures.fits;
      numbered = λ numbered. c.in_default.ensures.numbered (c.turns.invariant.numbered numbered);
      chunk = search rules;
      buffer = c.in_default.ensures.empty;
      offset = offset_behind c.turns.journal.gate c.serve_record.new.journal.gate c.give_frames-behind.new.framer.given c.take_more.new.framer.offset c.give_frames-behind.new.framer.offset did.1.all_kept.grown c.give_frames-behind.ensures.offset (omega (arith, c.take_more.ensures.takes.offset, c.turns.invariant.offset));
    }

pub returns-in-NoRoom-clause-serves : goal.returns-in-NoRoom-clause-serves
returns-in-NoRoom-clause-serves g c =
    let frames = c.give_frames-behind.new.framer.given in
    let rest = c.give_frames-behind.new.framer.rest in
    let room : c.room.result ≡ c.args.journal.now.limit - (c.turns.journal.gate + 7) = c.room.ensures ∙ ap (λ (l : ℕ). l - (c.turns.journal.gate + 7)) c.turns.invariant.limit in
    let read = turn_read g.S.Station.meanings (AreNumbered c.args.self.now.engine.core) (g.F.LineForm.meanings.text c.args.form.now) c.args.self.now.product.now c.args.journal.now.limit (streams_at g.I.Source.meanings g.S.Station.meanings c.args.input.now c.args.station.now) c.args.journal.now.gate (state_numbered c.args.self.now.engine.core) (source_at g.I.Source.meanings c.turns.input) (source_at g.I.Source.meanings c.take_more.new.input) c.turns.station c.turns.journal.gate (state_numbered c.turns.engine.core) c.turns.framer c.take_more.new.framer (λ (events : List Event). KeepsEvents g.F.LineForm.meanings c.args.form.now c.turns.form events) c.in-Ok.field-0 (λ none. c.in-Ok.field-0-test.1 none) c.turns.invariant.turn c.in-Ok.ensures.takes in
    let did = same_limit g.S.Station.meanings (AreNumbered c.args.self.now.engine.core) (AreNumbered c.turns.engine.core) c.turns.invariant.numbered (g.F.LineForm.meanings.text c.args.form.now) (g.F.LineForm.meanings.text c.turns.form) c.turns.invariant.text c.args.self.now.product.now c.args.journal.now.limit c.turns.journal.limit c.turns.station c.serve_record.new.station c.turns.journal.gate c.serve_record.new.journal.gate (state_numbered c.turns.engine.core) (state_numbered c.serve_record.new.engine.core) c.give_frames-behind.new.framer.given (Ok c.in_default.field-0) c.turns.invariant.limit c.in_default.ensures.answers in
    let turn = turn_more g.S.Station.meanings (AreNumbered c.args.self.now.engine.core) (g.F.LineForm.meanings.text c.args.form.now) c.args.self.now.product.now c.args.journal.now.limit (streams_at g.I.Source.meanings g.S.Station.meanings c.args.input.now c.args.station.now) c.args.journal.now.gate (state_numbered c.args.self.now.engine.core) (source_at g.I.Source.meanings c.take_more.new.input) c.turns.station c.turns.journal.gate (state_numbered c.turns.engine.core) c.take_more.new.framer (λ (events : List Event). KeepsEvents g.F.LineForm.meanings c.args.form.now c.turns.form events) read c.room.result _ c.give_frames-behind.new.framer c.give_frames-behind.result c.give_frames-behind.ensures c.serve_record.new.station c.serve_record.new.journal.gate (state_numbered c.serve_record.new.engine.core) c.in_default.field-0 (λ (events : List Event). KeepsEvents g.F.LineForm.meanings c.args.form.now c.serve_record.new.form events)
    (λ numbered events here. published_then g.F.LineForm.meanings c.args.form.now c.turns.form c.serve_record.new.form events _ here (c.in_default.ensures.published (c.turns.invariant.numbered numbered))) did in
    ends_full g.S.Station.meanings (AreNumbered c.args.self.now.engine.core) (g.F.LineForm.meanings.text c.args.form.now) c.args.self.now.product.now c.args.journal.now.limit (streams_at g.I.Source.meanings g.S.Station.meanings c.args.input.now c.args.station.now) c.args.journal.now.gate (state_numbered c.args.self.now.engine.core) (source_at g.I.Source.meanings c.take_more.new.input) c.serve_record.new.station c.serve_record.new.journal.gate (state_numbered c.serve_record.new.engine.core) c.give_frames-behind.new.framer (λ (events : List Event). KeepsEvents g.F.LineForm.meanings c.args.form.now c.serve_record.new.form events) turn c.offset.result c.offset.ensures
    (no_room_behind c.args.journal.now.limit c.turns.journal.gate c.serve_record.new.journal.gate c.turns.engine.core.desk.messages (16777215 - c.messages.result) c.serve_record.new.engine.core.desk.messages c.give_frames-behind.new.framer did.1.all_kept.grown
    (ap (λ (n : ℕ). 16777215 - n) c.messages.ensures.count) c.turns.invariant.few c.in_default.ensures.counts
    (subst (λ (n : ℕ). HasNoRoomBehind n frames rest ⊎ AreMostGiven (16777215 - c.messages.result) c.give_frames-behind.new.framer) room c.in-NoRoom.ensures.stands))

pub returns-in-Broken-clause-serves : goal.returns-in-Broken-clause-serves
returns-in-Broken-clause-serves g c =
    let read = turn_read g.S.Station.meanings (AreNumbered c.args.self.now.engine.core) (g.F.LineForm.meanings.text c.args.form.now) c.args.self.now.product.now c.args.journal.now.limit (streams_at g.I.Source.meanings g.S.Station.meanings c.args.input.now c.args.station.now) c.args.journal.now.gate (state_numbered c.args.self.now.engine.core) (source_at g.I.Source.meanings c.turns.input) (source_at g.I.Source.meanings c.take_more.new.input) c.turns.station c.turns.journal.gate (state_numbered c.turns.engine.core) c.turns.framer c.take_more.new.framer (λ (events : List Event). KeepsEvents g.F.LineForm.meanings c.args.form.now c.turns.form events) c.in-Ok.field-0 (λ none. c.in-Ok.field-0-test.1 none) c.turns.invariant.turn c.in-Ok.ensures.takes in
    let did = same_limit g.S.Station.meanings (AreNumbered c.args.self.now.engine.core) (AreNumbered c.turns.engine.core) c.turns.invariant.numbered (g.F.LineForm.meanings.text c.args.form.now) (g.F.LineForm.meanings.text c.turns.form) c.turns.invariant.text c.args.self.now.product.now c.args.journal.now.limit c.turns.journal.limit c.turns.station c.serve_record.new.station c.turns.journal.gate c.serve_record.new.journal.gate (state_numbered c.turns.engine.core) (state_numbered c.serve_record.new.engine.core) c.give_frames-behind.new.framer.given (Ok c.in_default.field-0) c.turns.invariant.limit c.in_default.ensures.answers in
    let turn = turn_more g.S.Station.meanings (AreNumbered c.args.self.now.engine.core) (g.F.LineForm.meanings.text c.args.form.now) c.args.self.now.product.now c.args.journal.now.limit (streams_at g.I.Source.meanings g.S.Station.meanings c.args.input.now c.args.station.now) c.args.journal.now.gate (state_numbered c.args.self.now.engine.core) (source_at g.I.Source.meanings c.take_more.new.input) c.turns.station c.turns.journal.gate (state_numbered c.turns.engine.core) c.take_more.new.framer (λ (events : List Event). KeepsEvents g.F.LineForm.meanings c.args.form.now c.turns.form events) read c.room.result _ c.give_frames-behind.new.framer c.give_frames-behind.result c.give_frames-behind.ensures c.serve_record.new.station c.serve_record.new.journal.gate (state_numbered c.serve_record.new.engine.core) c.in_default.field-0 (λ (events : List Event). KeepsEvents g.F.LineForm.meanings c.args.form.now c.serve_record.new.form events)
    (λ numbered events here. published_then g.F.LineForm.meanings c.args.form.now c.turns.form c.serve_record.new.form events _ here (c.in_default.ensures.published (c.turns.invariant.numbered numbered))) did in
    ends_broken g.S.Station.meanings (AreNumbered c.args.self.now.engine.core) (g.F.LineForm.meanings.text c.args.form.now) c.args.self.now.product.now c.args.journal.now.limit (streams_at g.I.Source.meanings g.S.Station.meanings c.args.input.now c.args.station.now) c.args.journal.now.gate (state_numbered c.args.self.now.engine.core) (source_at g.I.Source.meanings c.take_more.new.input) c.serve_record.new.station c.serve_record.new.journal.gate (state_numbered c.serve_record.new.engine.core) c.give_frames-behind.new.framer (λ (events : List Event). KeepsEvents g.F.LineForm.meanings c.args.form.now c.serve_record.new.form events) turn c.offset-in-Broken.result c.offset-in-Broken.ensures c.in-Broken.ensures.stands
