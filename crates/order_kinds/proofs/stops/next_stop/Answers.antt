use Rattle.std.proofs.Common.{Option, sym, ap, ◌∙◌, option_map}
use Rattle.gx_base.specs.declared.price.Price.{Price}
use Rattle.plain_book.specs.declared.entry.Entry.{Entry}
use Rattle.plain_book.specs.Waiting.{reached_stops}
use Rattle.order_kinds.specs.Stops.{first_reached}
use Rattle.order_kinds.proofs.FirstReached.{slot-first}
use Rattle.order_kinds.proofs.stops.next_stop.Goals as goal

pub returns : goal.returns
returns g c =
    let waiting = (g.B.Book.book c.args.book.now).waiting in
    c.first_reached.ensures
    ∙ slot-first (reached_stops c.args.instrument (c.in_ok-least.least, c.in_ok-least.greatest) waiting)
    ∙ ap (λ (range : Option (Price × Price)). option_map (λ (e : Entry). e.slot) (first_reached c.args.instrument range waiting)) (sym c.in_ok-least.was)
