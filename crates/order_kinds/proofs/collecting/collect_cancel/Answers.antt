use Rattle.std.proofs.Common.{option_map, sym, ap, ◌∙◌}
use Rattle.plain_book.specs.Book.{live_orders, slot_number}
use Rattle.order_kinds.proofs.Numbering.{named-has}
use Rattle.order_kinds.proofs.collecting.collect_cancel.Goals as goal

pub leave-requires : goal.leave-requires
leave-requires g c =
    record { live = named-has c.args.request.now.sender.firm c.args.request.now.old c.in-Some.slot.0 (live_orders (g.B.Book.book c.state.inside.book)) (sym c.find.ensures ∙ ap (option_map slot_number) c.in-Some.is) }
