use Rattle.std.proofs.Common.{sym, ◌∙◌}
use Rattle.book_walks.proofs.SideSlots.{first-by-best}
use Rattle.book_walks.proofs.sides.first_on_side.Goals as goal

pub returns-in-Some : goal.returns-in-Some
returns-in-Some g c =
    let es = (g.B.Book.book c.args.book.now).resting in
    c.first.ensures ∙ first-by-best c.args.instrument c.args.side c.in-Some.price es c.rules.ensures.ordered (sym c.in-Some.is ∙ c.best.ensures)
