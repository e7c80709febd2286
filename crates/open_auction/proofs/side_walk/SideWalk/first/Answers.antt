use Rattle.std.proofs.Common.{Option, option_map, ap, sym, ◌∙◌}
use Rattle.gx_base.specs.declared.order.Slot.{Slot}
use Rattle.plain_book.specs.Book.{slot_number}
use Rattle.open_auction.specs.Pairs.{takers}
use Rattle.open_auction.specs.Inner.SideWalk.{with_left, orders_from, first_left}
use Rattle.open_auction.proofs.Takers.{at-one, taker-live, first-is}
use Rattle.open_auction.proofs.side_walk.SideWalk.first.Goals as goal

pub order-requires : goal.order-requires
order-requires g c =
    let b = g.B.Book.book c.args.book.now in
    let w = c.args.self.now in
    taker-live w.instrument w.side w.price b c.rules.ensures c.in_ok-slot.slot.0 (at-one w.at c.in_ok-slot.slot (takers w.instrument w.side w.price b.resting) c.requires.has c.in_ok-slot.was)

pub returns : goal.returns
returns g c =
    let b = g.B.Book.book c.args.book.now in
    let w = c.args.self.now in
    let T = takers w.instrument w.side w.price b.resting in
    let has = at-one w.at c.in_ok-slot.slot T c.requires.has c.in_ok-slot.was in
    sym (first-is b c.rules.ensures w.instrument w.side w.price c.in_ok-slot.slot.0 has w.left c.order.result.now c.order.ensures)
    ∙ ap (λ (o : Option Slot). first_left (with_left w.left (orders_from (option_map slot_number o) T))) (sym c.in_ok-slot.was)
