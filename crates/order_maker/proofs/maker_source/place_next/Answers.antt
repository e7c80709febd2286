use Rattle.std.proofs.Common.{◌-◌, ◌++◌, take, sym, ap, ◌∙◌}
use Rattle.order_maker.specs.Stream.{frames_from}
use Rattle.order_maker.proofs.Streams.{frame_placed}
use Rattle.order_maker.proofs.maker_source.place_next.Goals as goal

pub returns-clause-frame : goal.returns-clause-frame
returns-clause-frame c =
    let p = c.args.product.now in
    let stand = c.args.stand.now in
    let state = c.draw_message-made.new.state in
    frame_placed p stand.state state stand.turn.number stand.left c.draw_message-made.result (take c.args.at c.args.into.now) _ c.requires.some c.draw_message-made.ensures c.write_message-end.ensures.frame
    ∙ ap (λ j. take c.write_message-end.result c.write_message-end.new.into ++ frames_from p state j (stand.left - 1)) (sym c.turn_after-stand.ensures.number)
