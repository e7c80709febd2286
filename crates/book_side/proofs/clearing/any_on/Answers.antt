use Rattle.std.proofs.Common.{sym}
use Rattle.book_side.proofs.Cleared.{none-best, first-stands}
use Rattle.book_side.proofs.clearing.any_on.Goals as goal

pub returns-in-None : goal.returns-in-None
returns-in-None c = none-best c.args.instrument c.args.side c.args.book.now.resting (sym c.in-None.ensures)

pub returns-in-Some : goal.returns-in-Some
returns-in-Some c = first-stands c.args.instrument c.args.side c.in-Some.price c.args.book.now.resting c.args.book.now.waiting (sym c.in-Some.ensures) c.first.result c.first.ensures
