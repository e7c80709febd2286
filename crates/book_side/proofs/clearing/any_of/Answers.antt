use Rattle.book_side.proofs.Cleared.{stop-stands}
use Rattle.book_side.proofs.clearing.any_of.Goals as goal

pub returns-in-None-any_on : goal.returns-in-None-any_on
returns-in-None-any_on c = stop-stands c.args.instrument c.args.book.now.resting c.args.book.now.waiting c.in-None.ensures c.in-None-any_on.ensures c.first_waiting.result c.first_waiting.ensures
