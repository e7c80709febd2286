use Rattle.std.proofs.Common.{option_map, sym, ◌∙◌}
use Rattle.std.proofs.lemmas.Bool.{true≢false}
use Rattle.plain_book.specs.Book.{slot_number}
use Rattle.book_image.proofs.LoadTops.{best-some, can-be-top, marked-top}
use Rattle.book_image.proofs.mark_tops.mark_top.Goals as goal

pub returns-in_default : goal.returns-in_default
returns-in_default g c =
    let none = best-some c.args.instrument c.args.side c.args.number (g.B.Book.book c.args.book.now).resting (sym c.best.ensures ∙ c.in_default.is) in
    absurd (true≢false (sym c.requires.best ∙ none))

pub set_top-requires-clause-best : goal.set_top-requires-clause-best
set_top-requires-clause-best g c =
    can-be-top (g.B.Book.book c.args.book.now) c.rules.ensures c.args.instrument c.args.side c.args.number c.in-Some.price (sym c.best.ensures ∙ c.in-Some.is)
    (option_map slot_number c.order_numbered-top.result) c.order_numbered-top.ensures

pub returns : goal.returns
returns g c =
    marked-top (g.B.Book.book c.args.book.now) c.rules.ensures c.args.instrument c.args.side c.args.number c.in-Some.price (sym c.best.ensures ∙ c.in-Some.is)
    (option_map slot_number c.order_numbered-top.result) c.order_numbered-top.ensures c.requires.best c.requires.none_top (g.B.Book.book c.set_top.new.self) c.set_top.ensures
