use Rattle.std.proofs.Common.{rules, ◌+◌, ◌-◌, ◌*◌, ◌<◌, ◌≤◌, ℕ, List, length, Ok, refl, sym, ap, subst, ◌∙◌, arith}
use Rattle.std.specs.List.{concat}
use Rattle.gx_station.specs.declared.station.Failed.{Failed}
use Rattle.fix_frame.specs.Grammar.{IsPartOfFrame}
use Rattle.globex_run.specs.Outside.{source_at}
use Rattle.globex_run.specs.Inner.Serving.{TakesMore}
use Rattle.globex_run.proofs.Turns.{nothing_unfinished}
use Rattle.globex_run.proofs.FrameTurns.{turn_falls, place_within, last_given}
use Rattle.globex_run.proofs.CollectTurns.{collect-first, collect-read, collect-given, collect-read-fault, collect-done, collect-truncated, collect-broken, collect-full}
use Rattle.globex_run.proofs.session.Session.collect_input.Goals as goal

pub turns-init : goal.turns-init
turns-init g c =
    record {
      turn = collect-first c.args.self.now.product.now (source_at g.I.Source.meanings c.args.input.now) c.args.self.now.engine.core c.args.self.now.framer c.requires.framer c.requires.few;
      front = subst IsPartOfFrame (sym c.requires.framer.rest) nothing_unfinished;
      short = omega (arith, ap (λ (l : List ℕ). length l) c.requires.framer.rest);
      fits = c.requires.fits;
      reports = refl;
      chunk = search rules;
      place = omega (arith, c.requires.framer.offset);
    }

pub returns-in-Ok-eq0-clause-collects : goal.returns-in-Ok-eq0-clause-collects
returns-in-Ok-eq0-clause-collects g c =
    let ins = g.I.Source.meanings in
    let takes : TakesMore {F = Failed} (source_at ins c.turns.input) (source_at ins c.take_more.new.input) c.turns.framer c.take_more.new.framer (Ok 0) = search rules in
    collect-done c.args.self.now.product.now (source_at ins c.args.input.now) c.args.self.now.engine.core (source_at ins c.turns.input) c.turns.engine.core c.turns.framer c.turns.invariant.turn (source_at ins c.take_more.new.input) c.take_more.new.framer 0 refl takes (search rules)

pub returns-in-Ok-eq0-2-clause-collects : goal.returns-in-Ok-eq0-2-clause-collects
returns-in-Ok-eq0-2-clause-collects g c =
    let ins = g.I.Source.meanings in
    let takes : TakesMore {F = Failed} (source_at ins c.turns.input) (source_at ins c.take_more.new.input) c.turns.framer c.take_more.new.framer (Ok 0) = search rules in
    collect-truncated c.args.self.now.product.now (source_at ins c.args.input.now) c.args.self.now.engine.core (source_at ins c.turns.input) c.turns.engine.core c.turns.framer c.turns.invariant.turn (source_at ins c.take_more.new.input) c.take_more.new.framer 0 refl takes
    c.offset-at.result c.offset-at.ensures (search rules) c.turns.invariant.front

pub returns-in-Err-clause-collects : goal.returns-in-Err-clause-collects
returns-in-Err-clause-collects g c =
    let ins = g.I.Source.meanings in
    collect-read-fault c.args.self.now.product.now (source_at ins c.args.input.now) c.args.self.now.engine.core (source_at ins c.turns.input) c.turns.engine.core c.turns.framer c.turns.invariant.turn (source_at ins c.take_more.new.input) c.take_more.new.framer
    c.in-Err.field-0 (c.offset-at.result + c.rest-held.result) c.in-Err.ensures.takes c.turns.invariant.front (omega (arith, c.offset-at.ensures, c.rest-held.ensures.count))

pub turns-smaller : goal.turns-smaller
turns-smaller g c =
    let collects = c.collect_given.ensures.collects in
    subst (λ (n : ℕ). (16777216 - n) * 8193 + (8192 - length c.give_frames-behind.new.framer.rest) < (16777216 - c.turns.engine.core.desk.messages) * 8193 + (8192 - length c.turns.framer.rest)) (sym collects.count)
    (turn_falls c.turns.engine.core.desk.messages (length c.give_frames-behind.new.framer.given) c.give_frames-behind.new.framer.given c.turns.framer.rest c.in-Ok.ensures.takes.taken c.take_more.new.framer.rest c.give_frames-behind.new.framer.rest refl
    (omega (arith, c.turns.invariant.turn.few, c.give_frames-behind.ensures.few, c.messages.ensures.count)) c.given_are_frames.ensures.fits
    (λ none. c.in-Ok.field-0-test.1 (sym c.in-Ok.ensures.takes.count ∙ none)) c.in-Ok.ensures.takes.rest c.give_frames-behind.ensures.front)

pub turns-preserved : goal.turns-preserved
turns-preserved g c =
    let ins = g.I.Source.meanings in
    let product = c.args.self.now.product.now in
    let source = source_at ins c.args.input.now in
    let old = c.args.self.now.engine.core in
    let read = collect-read product source old (source_at ins c.turns.input) c.turns.engine.core c.turns.framer c.turns.invariant.turn {F = Failed} (source_at ins c.take_more.new.input) c.take_more.new.framer c.in-Ok.field-0 c.in-Ok.ensures.takes in
    let collects = c.collect_given.ensures.collects in
    record {
      turn = collect-given product source old (source_at ins c.take_more.new.input) c.turns.engine.core c.take_more.new.framer read 16384 _ c.give_frames-behind.new.framer c.give_frames-behind.result c.give_frames-behind.ensures c.given_are_frames.ensures.frames c.collect_given.new.core collects
          (omega (arith, collects.count, c.turns.invariant.turn.few, c.give_frames-behind.ensures.few, c.messages.ensures.count));
      front = c.in-Front.ensures.stands.0;
      short = c.in-Front.ensures.stands.1;
      fits = c.collect_given.ensures.fits;
      reports = c.turns.invariant.reports;
      chunk = search rules;
      place = subst (λ (n : ℕ). c.give_frames-behind.new.framer.offset ≤ n * 8192) (sym collects.count)
          (subst (λ (n : ℕ). n ≤ (c.turns.engine.core.desk.messages + length c.give_frames-behind.new.framer.given) * 8192) (sym (c.give_frames-behind.ensures.offset ∙ ap (λ (n : ℕ). n + length (concat c.give_frames-behind.new.framer.given)) c.take_more.ensures.takes.offset))
          (place_within c.turns.engine.core.desk.messages (length c.give_frames-behind.new.framer.given) c.turns.framer.offset c.give_frames-behind.new.framer.given c.give_frames-behind.new.framer.rest refl c.turns.invariant.place c.given_are_frames.ensures.fits));
    }

pub returns-in-NoRoom-clause-collects : goal.returns-in-NoRoom-clause-collects
returns-in-NoRoom-clause-collects g c =
    let ins = g.I.Source.meanings in
    let product = c.args.self.now.product.now in
    let source = source_at ins c.args.input.now in
    let old = c.args.self.now.engine.core in
    let given = c.give_frames-behind.new.framer.given in
    let read = collect-read product source old (source_at ins c.turns.input) c.turns.engine.core c.turns.framer c.turns.invariant.turn {F = Failed} (source_at ins c.take_more.new.input) c.take_more.new.framer c.in-Ok.field-0 c.in-Ok.ensures.takes in
    let collects = c.collect_given.ensures.collects in
    let few : c.collect_given.new.core.desk.messages < 16777216 = omega (arith, collects.count, c.turns.invariant.turn.few, c.give_frames-behind.ensures.few, c.messages.ensures.count) in
    let turn = collect-given product source old (source_at ins c.take_more.new.input) c.turns.engine.core c.take_more.new.framer read 16384 _ c.give_frames-behind.new.framer c.give_frames-behind.result c.give_frames-behind.ensures c.given_are_frames.ensures.frames c.collect_given.new.core collects few in
    let most : c.turns.engine.core.desk.messages ≤ 16777215 = omega (arith, c.turns.invariant.turn.few) in
    let last = last_given c.turns.engine.core.desk.messages _ (length given) c.give_frames-behind.new.framer refl most (ap (λ (n : ℕ). 16777215 - n) c.messages.ensures.count) c.given_are_frames.ensures.fits c.in-NoRoom.ensures.stands in
    collect-full product source old (source_at ins c.take_more.new.input) c.collect_given.new.core c.give_frames-behind.new.framer turn c.offset.result c.offset.ensures (omega (arith, last.0, collects.count), last.1)

pub returns-in-Broken-clause-collects : goal.returns-in-Broken-clause-collects
returns-in-Broken-clause-collects g c =
    let ins = g.I.Source.meanings in
    let product = c.args.self.now.product.now in
    let source = source_at ins c.args.input.now in
    let old = c.args.self.now.engine.core in
    let read = collect-read product source old (source_at ins c.turns.input) c.turns.engine.core c.turns.framer c.turns.invariant.turn {F = Failed} (source_at ins c.take_more.new.input) c.take_more.new.framer c.in-Ok.field-0 c.in-Ok.ensures.takes in
    let collects = c.collect_given.ensures.collects in
    let few : c.collect_given.new.core.desk.messages < 16777216 = omega (arith, collects.count, c.turns.invariant.turn.few, c.give_frames-behind.ensures.few, c.messages.ensures.count) in
    let turn = collect-given product source old (source_at ins c.take_more.new.input) c.turns.engine.core c.take_more.new.framer read 16384 _ c.give_frames-behind.new.framer c.give_frames-behind.result c.give_frames-behind.ensures c.given_are_frames.ensures.frames c.collect_given.new.core collects few in
    collect-broken product source old (source_at ins c.take_more.new.input) c.collect_given.new.core c.give_frames-behind.new.framer turn c.offset-in-Broken.result c.offset-in-Broken.ensures c.in-Broken.ensures.stands
