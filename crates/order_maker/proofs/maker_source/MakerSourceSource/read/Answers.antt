use Rattle.std.proofs.Common.{rules, ◌≡◌, Some, sym, ap, ◌∙◌}
use Rattle.order_maker.specs.Stream.{frames_from}
use Rattle.order_maker.proofs.Streams.{frames-none}
use Rattle.order_maker.proofs.maker_source.MakerSourceSource.read.Goals as goal

pub returns-clause-full : goal.returns-clause-full
returns-clause-full c = λ some.
    let stand = c.place_frames-count.new.stand in
    c.place_frames-count.ensures.full (λ zero. some (frames-none c.self.inside.product.now stand.state stand.turn.number stand.left zero))

pub returns-clause-takes : goal.returns-clause-takes
returns-clause-takes c =
    let product = c.self.inside.product.now in
    let stand = c.self.inside.stand in
    let left_is : frames_from product stand.state stand.turn.number stand.left ≡ c.args.self.now.left = ap (λ s. s.left) c.self.view_is in
    record {
      within = search rules;
      placed = ap Some (sym left_is ∙ c.place_frames-count.ensures.frames);
      end = λ zero. sym left_is ∙ frames-none product stand.state stand.turn.number stand.left (c.place_frames-count.ensures.end zero);
      unread = search rules;
      cause = search rules;
      reads = search rules;
    }
