use Rattle.std.proofs.Common.{◌++◌, [], Ok, refl, sym, ap}
use Rattle.std.proofs.lemmas.List.{append-nil}
use Rattle.gx_base.specs.NameLists.{NameLists}
use Rattle.level_feed.specs.Rows.{levels_of, difference}
use Rattle.level_feed.specs.Blocks.{increment}
use Rattle.level_feed.specs.FeedText.{text_of_blocks}
use Rattle.exec_report.proofs.Pushed.{put-of, put-as, put-then, pushes-of, sends-of, fails-of}
use Rattle.exec_report.proofs.Parts.{part-none, part-more, part-fails}
use Rattle.level_feed.proofs.feed.LevelFeed.step.Goals as goal

pub returns-in_err-send_waiting-clause-sends : goal.returns-in_err-send_waiting-clause-sends
returns-in_err-send_waiting-clause-sends g c =
    let m = g.S.Station.meanings in
    let blocks = increment c.args.number c.args.last (difference c.args.self.now.rows (levels_of (g.B.Book.book c.args.book.now).resting)) in
    let whole = text_of_blocks c.args.product.now.names.instruments blocks in
    let named = ap (λ (n : NameLists). text_of_blocks n.instruments blocks) c.names.ensures in
    let put = put-as m _ _ _ _ _ whole named (put-of m _ _ _ _ _ c.in_ok-sent.sent c.in_ok-sent.ensures.sends) in
    let p1 = part-more m (part-none m whole c.args.station.now c.args.buffer.now) whole [] _ _ (sym (append-nil whole)) put in
    fails-of m _ _ _ c.send_waiting.new.buffer _ c.from_residual-in_err-send_waiting.result c.from_residual-in_err-send_waiting.ensures.0 c.requires.empty
    (part-fails m p1 [] [] _ _ c.send_waiting.new.buffer c.in_err-send_waiting.field-0.0 c.from_residual-in_err-send_waiting.result c.from_residual-in_err-send_waiting.ensures.0 refl c.in_err-send_waiting.ensures.pushes)

pub returns-clause-sends : goal.returns-clause-sends
returns-clause-sends g c =
    let m = g.S.Station.meanings in
    let blocks = increment c.args.number c.args.last (difference c.args.self.now.rows (levels_of (g.B.Book.book c.args.book.now).resting)) in
    let whole = text_of_blocks c.args.product.now.names.instruments blocks in
    let named = ap (λ (n : NameLists). text_of_blocks n.instruments blocks) c.names.ensures in
    let put = put-as m _ _ _ _ _ whole named (put-of m _ _ _ _ _ c.in_ok-sent.sent c.in_ok-sent.ensures.sends) in
    sends-of m _ _ _ _ _ (Ok c.in_ok-sent.sent) c.requires.empty
    (pushes-of m _ _ _ _ (whole ++ []) whole c.in_ok-sent.sent (sym (append-nil whole)) (put-then m _ _ _ _ _ _ whole [] put (put-of m _ _ _ _ _ c.in_ok-send_waiting.field-0 c.in_ok-send_waiting.ensures.pushes)))
    c.in_ok-send_waiting.ensures.empty
