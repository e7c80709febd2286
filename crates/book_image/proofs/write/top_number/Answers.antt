use Rattle.std.proofs.Common.{option_map, sym, ap, ◌∙◌}
use Rattle.gx_base.specs.declared.order.Order.{Order}
use Rattle.plain_book.specs.Book.{slot_number}
use Rattle.book_image.proofs.WriteParts.{top-live, top-numbered}
use Rattle.book_image.proofs.write.top_number.Goals as goal

pub order-requires : goal.order-requires
order-requires g c =
    top-live c.args.instrument c.args.side (g.B.Book.book c.args.book.now) c.rules.ensures c.in-Some.slot.0 (sym (ap (option_map slot_number) c.in-Some.is) ∙ c.top.ensures)

pub returns-in-Some : goal.returns-in-Some
returns-in-Some g c =
    ap (λ (o : Order). o.number) c.order.ensures
    ∙ top-numbered c.args.instrument c.args.side (g.B.Book.book c.args.book.now) c.rules.ensures c.in-Some.slot.0 (sym (ap (option_map slot_number) c.in-Some.is) ∙ c.top.ensures)
