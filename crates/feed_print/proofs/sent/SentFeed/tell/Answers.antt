use Rattle.std.proofs.Common.{ℕ, List, ◌++◌, Ok, Err, sym, subst}
use Rattle.exec_report.proofs.Pushed.{pushes-as, pushes-first}
use Rattle.level_feed.specs.declared.row.Row.{Row}
use Rattle.level_feed.specs.Rows.{difference}
use Rattle.level_feed.specs.Blocks.{last_number, increment, due_snapshot}
use Rattle.level_feed.specs.FeedText.{text_of_blocks}
use Rattle.level_feed.specs.Feeds.{levels_of_state}
use Rattle.level_feed.specs.Noted.{AreNoted}
use Rattle.feed_print.specs.FeedPlaces.{FeedPlace}
use Rattle.feed_print.specs.FeedTexts.{beginning, message_text}
use Rattle.feed_print.proofs.Telling.{changes, message-parts, changes-begun, due-after}
use Rattle.feed_print.proofs.Taking.{changes-failed, three-parts}
use Rattle.feed_print.proofs.sent.SentFeed.tell.Goals as goal

pub push_changes-requires-clause-noted : goal.push_changes-requires-clause-noted
push_changes-requires-clause-noted g c =
    subst (λ (p : FeedPlace). AreNoted c.args.noted.now p.rows (levels_of_state c.args.core.now)) (sym c.in_ok-begin.ensures.place) c.requires.noted

pub returns-in_err-begin-clause-pushes : goal.returns-in_err-begin-clause-pushes
returns-in_err-begin-clause-pushes g c =
    let m = g.S.Station.meanings in
    let place = c.args.self.now in
    let number = c.args.core.now.desk.messages in
    let levels = levels_of_state c.args.core.now in
    let listed = c.args.product.now.names.instruments in
    pushes-first m c.args.station.now c.begin.new.station c.args.buffer.now c.begin.new.buffer c.begin.new.buffer (beginning place)
    (text_of_blocks listed (changes c.args.product.now number levels place) ++ text_of_blocks listed (due_snapshot number levels))
    (message_text c.args.product.now number levels place) c.in_err-begin.field-0.0 c.from_residual.result c.from_residual.ensures.0
    (message-parts c.args.product.now number levels place) c.in_err-begin.ensures.pushes

pub returns-in_err-push_changes-clause-pushes : goal.returns-in_err-push_changes-clause-pushes
returns-in_err-push_changes-clause-pushes g c =
    let m = g.S.Station.meanings in
    let product = c.args.product.now in
    let place = c.args.self.now in
    let number = c.args.core.now.desk.messages in
    let levels = levels_of_state c.args.core.now in
    let listed = product.names.instruments in
    let due = text_of_blocks listed (due_snapshot number levels) in
    let text : FeedPlace → List ℕ = λ (p : FeedPlace). text_of_blocks listed (increment number p.last (difference p.rows levels)) in
    let result = c.in_err-push_changes.field-0.0 in
    changes-failed m c.args.station.now c.begin.new.station c.push_changes.new.station c.args.buffer.now c.begin.new.buffer c.push_changes.new.buffer (beginning place) (text place) due
    (message_text product number levels place) (message-parts product number levels place) c.in_ok-begin.field-0 c.in_ok-begin.ensures.pushes result
    (pushes-as m c.begin.new.station c.push_changes.new.station c.begin.new.buffer c.push_changes.new.buffer (text c.begin.new.self) (text place) (Err result) (changes-begun product number levels place c.begin.new.self c.in_ok-begin.ensures.place) c.in_err-push_changes.ensures.pushes)
    c.from_residual-in_err-push_changes.result c.from_residual-in_err-push_changes.ensures.0

pub returns-clause-pushes : goal.returns-clause-pushes
returns-clause-pushes g c =
    let m = g.S.Station.meanings in
    let product = c.args.product.now in
    let place = c.args.self.now in
    let number = c.args.core.now.desk.messages in
    let levels = levels_of_state c.args.core.now in
    let listed = product.names.instruments in
    let due : ℕ → List Row → List ℕ = λ (n : ℕ) (rows : List Row). text_of_blocks listed (due_snapshot n rows) in
    let text : FeedPlace → List ℕ = λ (p : FeedPlace). text_of_blocks listed (increment number p.last (difference p.rows levels)) in
    let begun = c.begin.new.self in
    let done = c.in_ok-push_changes.field-0 in
    three-parts m c.args.station.now c.begin.new.station c.push_changes.new.station c.args.buffer.now c.begin.new.buffer c.push_changes.new.buffer (beginning place) (text place) (due number levels)
    (message_text product number levels place) (message-parts product number levels place) c.in_ok-begin.field-0 c.in_ok-begin.ensures.pushes done
    (pushes-as m c.begin.new.station c.push_changes.new.station c.begin.new.buffer c.push_changes.new.buffer (text c.begin.new.self) (text place) (Ok done) (changes-begun product number levels place c.begin.new.self c.in_ok-begin.ensures.place) c.in_ok-push_changes.ensures.pushes)
    c.push_due.new.station c.push_due.new.buffer c.push_due.result
    (pushes-as m c.push_changes.new.station c.push_due.new.station c.push_changes.new.buffer c.push_due.new.buffer (due c.messages.result c.push_changes.new.self.rows) (due number levels) c.push_due.result
    (due-after product c.messages.result number (last_number begun.last (increment number begun.last (difference begun.rows levels))) levels c.push_changes.new.self begun c.messages.ensures.count c.in_ok-push_changes.ensures.place) c.push_due.ensures.pushes)
