use Rattle.std.proofs.Common.{rules, ◌+◌, ◌*◌, ◌<◌, ◌≤◌, ℕ, List, length, Ok, refl, sym, ap, subst, ◌∙◌, arith}
use Rattle.std.specs.List.{concat}
use Rattle.gx_station.specs.declared.station.Failed.{Failed}
use Rattle.fix_frame.specs.Grammar.{IsPartOfFrame}
use Rattle.globex_run.specs.Outside.{source_at}
use Rattle.globex_run.specs.Inner.Serving.{TakesMore}
use Rattle.globex_run.proofs.Turns.{nothing_unfinished}
use Rattle.globex_run.proofs.FrameTurns.{turn_falls, place_within, last_given}
use Rattle.globex_run.proofs.AnswerTurns.{turn_first, turn_read, turn_more, ends_read_fault, ends_done, ends_truncated, ends_full, ends_broken, stops_store, stops_send}
use Rattle.globex_run.proofs.answer.Answering.answer_input.Goals as goal

pub turns-init : goal.turns-init
turns-init g c =
    let m = g.S.Station.meanings in
    let ins = g.I.Source.meanings in
    let product = c.args.self.now.product.now in
    let lines = c.args.self.now.desk.lines in
    let start = c.args.self.now.sessions in
    let kept = c.args.self.now.resender.kept in
    let source = source_at ins c.args.input.now in
    record {
      turn = turn_first m product lines start kept source c.args.station.now c.args.self.now.framer c.requires.framer;
      can = c.requires.can;
      buffer = c.requires.empty;
      front = subst IsPartOfFrame (sym c.requires.framer.rest) nothing_unfinished;
      short = omega (arith, ap (λ (l : List ℕ). length l) c.requires.framer.rest);
      few = omega arith;
      chunk = search rules;
      place = omega (arith, c.requires.framer.offset);
    }

pub returns-in-Ok-eq0 : goal.returns-in-Ok-eq0
returns-in-Ok-eq0 g c =
    let m = g.S.Station.meanings in
    let ins = g.I.Source.meanings in
    let product = c.args.self.now.product.now in
    let lines = c.args.self.now.desk.lines in
    let start = c.args.self.now.sessions in
    let kept = c.args.self.now.resender.kept in
    let source = source_at ins c.args.input.now in
    let takes : TakesMore {F = Failed} (source_at ins c.turns.input) (source_at ins c.take_more.new.input) c.turns.framer c.take_more.new.framer (Ok 0) = search rules in
    ends_done m product lines start kept source c.args.station.now (source_at ins c.turns.input) c.turns.station c.turns.sessions c.turns.resender.kept c.turns.count c.turns.framer c.turns.invariant.turn (source_at ins c.take_more.new.input) c.take_more.new.framer 0 refl takes (search rules)

pub returns-in-Ok-eq0-2 : goal.returns-in-Ok-eq0-2
returns-in-Ok-eq0-2 g c =
    let m = g.S.Station.meanings in
    let ins = g.I.Source.meanings in
    let product = c.args.self.now.product.now in
    let lines = c.args.self.now.desk.lines in
    let start = c.args.self.now.sessions in
    let kept = c.args.self.now.resender.kept in
    let source = source_at ins c.args.input.now in
    let takes : TakesMore {F = Failed} (source_at ins c.turns.input) (source_at ins c.take_more.new.input) c.turns.framer c.take_more.new.framer (Ok 0) = search rules in
    ends_truncated m product lines start kept source c.args.station.now (source_at ins c.turns.input) c.turns.station c.turns.sessions c.turns.resender.kept c.turns.count c.turns.framer c.turns.invariant.turn (source_at ins c.take_more.new.input) c.take_more.new.framer 0 refl takes c.offset-at.result c.offset-at.ensures (search rules) c.turns.invariant.front

pub returns-in-Err : goal.returns-in-Err
returns-in-Err g c =
    let m = g.S.Station.meanings in
    let ins = g.I.Source.meanings in
    let product = c.args.self.now.product.now in
    let lines = c.args.self.now.desk.lines in
    let start = c.args.self.now.sessions in
    let kept = c.args.self.now.resender.kept in
    let source = source_at ins c.args.input.now in
    ends_read_fault m product lines start kept source c.args.station.now (source_at ins c.turns.input) c.turns.station c.turns.sessions c.turns.resender.kept c.turns.count c.turns.framer c.turns.invariant.turn (source_at ins c.take_more.new.input) c.take_more.new.framer c.in-Err.field-0 (c.offset-at.result + c.rest-held.result) c.in-Err.ensures.takes c.turns.invariant.front (omega (arith, c.offset-at.ensures, c.rest-held.ensures.count))

pub returns-in-Err-Store : goal.returns-in-Err-Store
returns-in-Err-Store g c =
    let m = g.S.Station.meanings in
    let ins = g.I.Source.meanings in
    let product = c.args.self.now.product.now in
    let lines = c.args.self.now.desk.lines in
    let start = c.args.self.now.sessions in
    let kept = c.args.self.now.resender.kept in
    let source = source_at ins c.args.input.now in
    let read = turn_read m product lines start kept source c.args.station.now (source_at ins c.turns.input) c.turns.station c.turns.sessions c.turns.resender.kept c.turns.count c.turns.framer c.turns.invariant.turn {F = Failed} (source_at ins c.take_more.new.input) c.take_more.new.framer c.in-Ok.field-0 c.in-Ok.ensures.takes in
    stops_store m product lines start kept source c.args.station.now (source_at ins c.take_more.new.input) c.turns.station c.turns.sessions c.turns.resender c.answer_turn.new.resender c.turns.count c.take_more.new.framer read 16384 _ c.give_frames-behind.new.framer c.give_frames-behind.result c.give_frames-behind.ensures c.given_are_frames.ensures.frames c.answer_turn.new.station c.in-Err-Store.field-0 c.in-Err-Store.field-0-is c.in-Err-Store.ensures.sends

pub returns-in-Err-Send : goal.returns-in-Err-Send
returns-in-Err-Send g c =
    let m = g.S.Station.meanings in
    let ins = g.I.Source.meanings in
    let product = c.args.self.now.product.now in
    let lines = c.args.self.now.desk.lines in
    let start = c.args.self.now.sessions in
    let kept = c.args.self.now.resender.kept in
    let source = source_at ins c.args.input.now in
    let read = turn_read m product lines start kept source c.args.station.now (source_at ins c.turns.input) c.turns.station c.turns.sessions c.turns.resender.kept c.turns.count c.turns.framer c.turns.invariant.turn {F = Failed} (source_at ins c.take_more.new.input) c.take_more.new.framer c.in-Ok.field-0 c.in-Ok.ensures.takes in
    stops_send m product lines start kept source c.args.station.now (source_at ins c.take_more.new.input) c.turns.station c.turns.sessions c.turns.resender c.answer_turn.new.resender c.turns.count c.take_more.new.framer read 16384 _ c.give_frames-behind.new.framer c.give_frames-behind.result c.give_frames-behind.ensures c.given_are_frames.ensures.frames c.answer_turn.new.station c.in-Err-Send.field-0 c.in-Err-Send.field-0-is c.in-Err-Send.ensures.sends

pub turns-smaller : goal.turns-smaller
turns-smaller g c =
    turn_falls c.turns.count c.given_count.result c.give_frames-behind.new.framer.given c.turns.framer.rest c.in-Ok.ensures.takes.taken c.take_more.new.framer.rest c.give_frames-behind.new.framer.rest c.given_count.ensures (omega (arith, c.given_count.ensures, c.turns.invariant.few, c.give_frames-behind.ensures.few)) c.given_are_frames.ensures.fits
    (λ none. c.in-Ok.field-0-test.1 (sym c.in-Ok.ensures.takes.count ∙ none)) c.in-Ok.ensures.takes.rest c.give_frames-behind.ensures.front

pub turns-preserved : goal.turns-preserved
turns-preserved g c =
    let m = g.S.Station.meanings in
    let ins = g.I.Source.meanings in
    let product = c.args.self.now.product.now in
    let lines = c.args.self.now.desk.lines in
    let start = c.args.self.now.sessions in
    let kept = c.args.self.now.resender.kept in
    let source = source_at ins c.args.input.now in
    let read = turn_read m product lines start kept source c.args.station.now (source_at ins c.turns.input) c.turns.station c.turns.sessions c.turns.resender.kept c.turns.count c.turns.framer c.turns.invariant.turn {F = Failed} (source_at ins c.take_more.new.input) c.take_more.new.framer c.in-Ok.field-0 c.in-Ok.ensures.takes in
    let few : c.turns.count + c.given_count.result < 16777216 = omega (arith, c.given_count.ensures, c.turns.invariant.few, c.give_frames-behind.ensures.few) in
    let turn = turn_more m product lines start kept source c.args.station.now (source_at ins c.take_more.new.input) c.turns.station c.turns.sessions c.turns.resender c.answer_turn.new.resender c.turns.count c.take_more.new.framer read 16384 _ c.give_frames-behind.new.framer c.give_frames-behind.result c.give_frames-behind.ensures c.given_are_frames.ensures.frames c.answer_turn.new.station c.answer_turn.new.sessions c.given_count.result c.given_count.ensures few c.in-Ok-answer_turn.ensures.sends c.in-Ok-answer_turn.ensures.sessions in
    record {
      turn = turn;
      can = c.in-Ok-answer_turn.ensures.sends.can;
      buffer = c.in-Ok-answer_turn.ensures.sends.empty;
      front = c.in-Front.ensures.stands.0;
      short = c.in-Front.ensures.stands.1;
      few = omega (arith, few);
      chunk = search rules;
      place = subst (λ (n : ℕ). n ≤ (c.turns.count + c.given_count.result) * 8192) (sym (c.give_frames-behind.ensures.offset ∙ ap (λ (n : ℕ). n + length (concat c.give_frames-behind.new.framer.given)) c.take_more.ensures.takes.offset))
          (place_within c.turns.count c.given_count.result c.turns.framer.offset c.give_frames-behind.new.framer.given c.give_frames-behind.new.framer.rest c.given_count.ensures c.turns.invariant.place c.given_are_frames.ensures.fits);
    }

pub returns-in-NoRoom : goal.returns-in-NoRoom
returns-in-NoRoom g c =
    let m = g.S.Station.meanings in
    let ins = g.I.Source.meanings in
    let product = c.args.self.now.product.now in
    let lines = c.args.self.now.desk.lines in
    let start = c.args.self.now.sessions in
    let kept = c.args.self.now.resender.kept in
    let source = source_at ins c.args.input.now in
    let read = turn_read m product lines start kept source c.args.station.now (source_at ins c.turns.input) c.turns.station c.turns.sessions c.turns.resender.kept c.turns.count c.turns.framer c.turns.invariant.turn {F = Failed} (source_at ins c.take_more.new.input) c.take_more.new.framer c.in-Ok.field-0 c.in-Ok.ensures.takes in
    let few : c.turns.count + c.given_count.result < 16777216 = omega (arith, c.given_count.ensures, c.turns.invariant.few, c.give_frames-behind.ensures.few) in
    let turn = turn_more m product lines start kept source c.args.station.now (source_at ins c.take_more.new.input) c.turns.station c.turns.sessions c.turns.resender c.answer_turn.new.resender c.turns.count c.take_more.new.framer read 16384 _ c.give_frames-behind.new.framer c.give_frames-behind.result c.give_frames-behind.ensures c.given_are_frames.ensures.frames c.answer_turn.new.station c.answer_turn.new.sessions c.given_count.result c.given_count.ensures few c.in-Ok-answer_turn.ensures.sends c.in-Ok-answer_turn.ensures.sessions in
    ends_full m product lines start kept source c.args.station.now (source_at ins c.take_more.new.input) c.answer_turn.new.station c.answer_turn.new.sessions c.answer_turn.new.resender.kept (c.turns.count + c.given_count.result) c.give_frames-behind.new.framer turn c.offset.result c.offset.ensures (last_given c.turns.count _ c.given_count.result c.give_frames-behind.new.framer c.given_count.ensures c.turns.invariant.few refl c.given_are_frames.ensures.fits c.in-NoRoom.ensures.stands)

pub returns-in-Broken : goal.returns-in-Broken
returns-in-Broken g c =
    let m = g.S.Station.meanings in
    let ins = g.I.Source.meanings in
    let product = c.args.self.now.product.now in
    let lines = c.args.self.now.desk.lines in
    let start = c.args.self.now.sessions in
    let kept = c.args.self.now.resender.kept in
    let source = source_at ins c.args.input.now in
    let read = turn_read m product lines start kept source c.args.station.now (source_at ins c.turns.input) c.turns.station c.turns.sessions c.turns.resender.kept c.turns.count c.turns.framer c.turns.invariant.turn {F = Failed} (source_at ins c.take_more.new.input) c.take_more.new.framer c.in-Ok.field-0 c.in-Ok.ensures.takes in
    let few : c.turns.count + c.given_count.result < 16777216 = omega (arith, c.given_count.ensures, c.turns.invariant.few, c.give_frames-behind.ensures.few) in
    let turn = turn_more m product lines start kept source c.args.station.now (source_at ins c.take_more.new.input) c.turns.station c.turns.sessions c.turns.resender c.answer_turn.new.resender c.turns.count c.take_more.new.framer read 16384 _ c.give_frames-behind.new.framer c.give_frames-behind.result c.give_frames-behind.ensures c.given_are_frames.ensures.frames c.answer_turn.new.station c.answer_turn.new.sessions c.given_count.result c.given_count.ensures few c.in-Ok-answer_turn.ensures.sends c.in-Ok-answer_turn.ensures.sessions in
    ends_broken m product lines start kept source c.args.station.now (source_at ins c.take_more.new.input) c.answer_turn.new.station c.answer_turn.new.sessions c.answer_turn.new.resender.kept (c.turns.count + c.given_count.result) c.give_frames-behind.new.framer turn c.offset-in-Broken.result c.offset-in-Broken.ensures c.in-Broken.ensures.stands
