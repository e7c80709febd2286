use Rattle.std.proofs.Common.{◌≡◌, ◌+◌, ◌<◌, [], length, take, true, false, refl, sym, ap, subst, ◌∙◌, arith, Ok, OnOk}
use Rattle.std.proofs.lemmas.List.{take_all}
use Rattle.exec_report.proofs.Pushed.{put-none, pushes-of}
use Rattle.order_kinds.specs.State.{state_numbered}
use Rattle.order_kinds.specs.Step.{state_after}
use Rattle.level_feed.specs.Noted.{AreNoted}
use Rattle.level_feed.specs.Feeds.{levels_of_state}
use Rattle.feed_print.specs.FeedPlaces.{FeedPlace}
use Rattle.feed_print.specs.FeedTexts.{message_text, messages_text, next_place, place_after}
use Rattle.feed_print.proofs.Telling.{state-more, text-more, place-more}
use Rattle.feed_print.proofs.Taking.{on-any, on-known, on-failed, on-map, on-next, pushes-more, sends-failed, sends-rest}
use Rattle.feed_print.proofs.feed_work.FeedWorkRecordWork.take.Goals as goal

pub loop-number-init : goal.loop-number-init
loop-number-init g c =
    let m = g.S.Station.meanings in
    record {
      count = omega arith;
      fits = c.requires.fits;
      numbered = c.requires.numbered;
      state = refl;
      pushes = pushes-of m c.args.station.now c.args.station.now c.args.buffer.now c.args.buffer.now [] [] tt refl (put-none m c.args.station.now c.args.buffer.now);
      place = c.self.view_is;
      rows = ap (λ (p : FeedPlace). p.rows) c.self.view_is ∙ c.requires.work;
    }

pub apply_noting-requires-clause-few : goal.apply_noting-requires-clause-few
apply_noting-requires-clause-few g c = omega (arith, c.requires.few, c.loop-number.invariant.count, c.loop-number-test.true, c.given_count-number-end.ensures)

pub apply_noting-requires-clause-fits : goal.apply_noting-requires-clause-fits
apply_noting-requires-clause-fits g c = c.loop-number.invariant.fits

pub apply_noting-requires-clause-numbered : goal.apply_noting-requires-clause-numbered
apply_noting-requires-clause-numbered g c = c.loop-number.invariant.numbered

pub tell_next-told-requires-clause-noted : goal.tell_next-told-requires-clause-noted
tell_next-told-requires-clause-noted g c =
    on-map (c.loop-number.self-inside.sent.rows ≡ levels_of_state c.loop-number.core) (AreNoted c.apply_noting.new.noted c.loop-number.self-inside.sent.rows (levels_of_state c.apply_noting.new.core)) c.loop-number.told
    (λ same. subst (λ rows. AreNoted c.apply_noting.new.noted rows (levels_of_state c.apply_noting.new.core)) (sym same) c.apply_noting.ensures.noted) c.loop-number.invariant.rows

pub loop-number-preserved : goal.loop-number-preserved
loop-number-preserved g c =
    let m = g.S.Station.meanings in
    let product = c.args.product.now in
    let start = state_numbered c.args.core.now in
    let place = c.args.self.now in
    let given = c.args.framer.now.given in
    let k = c.loop-number.number in
    let before = c.loop-number.invariant in
    let core = c.apply_noting.new.core in
    let number = core.desk.messages in
    let levels = levels_of_state core in
    let sent = c.loop-number.self-inside.sent in
    let new = c.tell_next-told.new.self in
    let told = c.loop-number.told in
    let result = c.tell_next-told.result in
    let at = place_after place product start (take k given) in
    let within : k < length given = omega (arith, c.loop-number-test.true, c.given_count-number-end.ensures) in
    let frame = c.given.result.now in
    let is = c.given.ensures.bytes in
    let request = c.read_request-request.result in
    let asked = c.read_request-request.ensures.request in
    let did = c.apply_noting.ensures.state in
    record {
      count = omega (arith, before.count, c.apply_noting.ensures.count);
      fits = c.apply_noting.ensures.fits;
      numbered = c.apply_noting.ensures.numbered;
      state = state-more product start place given k within frame is c.loop-number.core core request before.state asked did;
      pushes =
          pushes-more m c.args.station.now c.loop-number.station c.tell_next-told.new.station c.args.buffer.now c.loop-number.buffer c.tell_next-told.new.buffer
          (messages_text place product start (take k given)) (messages_text place product start (take (k + 1) given)) result told (message_text product number levels) at sent
          (text-more product start place given k within frame is c.loop-number.core core request before.state asked did) before.pushes c.tell_next-told.ensures.failed before.place c.tell_next-told.ensures.pushes;
      place =
          on-next (sent ≡ at) (new ≡ place_after place product start (take (k + 1) given)) (c.tell_next-told.new.station ≡ c.loop-number.station) told result c.tell_next-told.ensures.failed
          (on-map (OnOk result (new ≡ next_place number levels sent)) (sent ≡ at → OnOk result (new ≡ place_after place product start (take (k + 1) given))) told
          (λ did_tell. λ same. on-map (new ≡ next_place number levels sent) (new ≡ place_after place product start (take (k + 1) given)) result
          (λ is_behind. is_behind ∙ ap (next_place number levels) same ∙ sym (place-more product start place given k within frame is c.loop-number.core core request before.state asked did)) did_tell)
          c.tell_next-told.ensures.place)
          before.place;
      rows =
          on-next (sent ≡ at) (new.rows ≡ levels) (c.tell_next-told.new.station ≡ c.loop-number.station) told result c.tell_next-told.ensures.failed
          (on-map (OnOk result (new ≡ next_place number levels sent)) (sent ≡ at → OnOk result (new.rows ≡ levels)) told
          (λ did_tell. λ same. on-map (new ≡ next_place number levels sent) (new.rows ≡ levels) result (λ is_behind. ap (λ (p : FeedPlace). p.rows) is_behind) did_tell)
          c.tell_next-told.ensures.place)
          before.place;
    }

pub returns-in_err-told : goal.returns-in_err-told
returns-in_err-told g c =
    let m = g.S.Station.meanings in
    let product = c.args.product.now in
    let start = state_numbered c.args.core.now in
    let place = c.args.self.now in
    let given = c.args.framer.now.given in
    let k = c.loop-number.number in
    let before = c.loop-number.invariant in
    let result = c.from_residual.result in
    let failed = c.from_residual.ensures.0 in
    let all : take k given ≡ given = take_all k given (omega (arith, c.loop-number-test.false, c.given_count-number-end.ensures)) in
    let sends =
    sends-failed m c.args.station.now c.loop-number.station c.loop-number.station c.args.buffer.now c.loop-number.buffer c.loop-number.buffer (messages_text place product start (take k given)) (messages_text place product start given) result
    c.loop-number.told c.in_err-told.field-0.0 c.in_err-told.was failed c.requires.empty (ap (messages_text place product start) (sym all)) before.pushes in
    record {
      count = omega (arith, before.count, c.loop-number-test.false, c.loop-number.auto.number-end, c.given_count-number-end.ensures);
      fits = before.fits;
      quiet = sends.quiet;
      cause = sends.cause;
      silent = λ silent. absurd (let no : false ≡ true = silent in cc);
      empty = on-failed _ result failed;
      numbered = before.numbered;
      work = on-failed _ result failed;
      state = before.state ∙ ap (state_after product start) all;
      sends = sends;
      after = on-failed _ result failed;
    }

pub returns : goal.returns
returns g c =
    let m = g.S.Station.meanings in
    let product = c.args.product.now in
    let start = state_numbered c.args.core.now in
    let place = c.args.self.now in
    let given = c.args.framer.now.given in
    let k = c.loop-number.number in
    let before = c.loop-number.invariant in
    let result = c.send_waiting.result in
    let sent = c.loop-number.self-inside.sent in
    let all : take k given ≡ given = take_all k given (omega (arith, c.loop-number-test.false, c.given_count-number-end.ensures)) in
    let ok : c.loop-number.told ≡ Ok c.in_ok-told.field-0 = c.in_ok-told.was in
    let sends =
    sends-rest m c.args.station.now c.loop-number.station c.send_waiting.new.station c.args.buffer.now c.loop-number.buffer c.send_waiting.new.buffer (messages_text place product start (take k given)) (messages_text place product start given)
    result c.loop-number.told c.in_ok-told.field-0 ok c.requires.empty (ap (messages_text place product start) (sym all)) before.pushes c.send_waiting.ensures.pushes c.send_waiting.ensures.empty in
    record {
      count = omega (arith, before.count, c.loop-number-test.false, c.loop-number.auto.number-end, c.given_count-number-end.ensures);
      fits = before.fits;
      quiet = sends.quiet;
      cause = sends.cause;
      silent = λ silent. absurd (let no : false ≡ true = silent in cc);
      empty = c.send_waiting.ensures.empty;
      numbered = before.numbered;
      work = on-any (sent.rows ≡ levels_of_state c.loop-number.core) result (on-known (sent.rows ≡ levels_of_state c.loop-number.core) c.loop-number.told c.in_ok-told.field-0 ok before.rows);
      state = before.state ∙ ap (state_after product start) all;
      sends = sends;
      after =
          on-any (sent ≡ place_after place product start given) result
          (on-known (sent ≡ place_after place product start (take k given)) c.loop-number.told c.in_ok-told.field-0 ok before.place ∙ ap (place_after place product start) all);
    }
