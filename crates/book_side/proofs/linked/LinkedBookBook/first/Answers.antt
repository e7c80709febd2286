use Rattle.std.proofs.Common.{ap, ◌∙◌}
use Rattle.plain_book.specs.Orders.{level, slot_of}
use Rattle.book_side.proofs.Seen.{none-at, found-at}
use Rattle.book_side.proofs.linked.LinkedBookBook.first.Goals as goal

pub returns-in-None : goal.returns-in-None
returns-in-None c = ap slot_of (none-at c.self.invariant.0 c.self.view_is c.rules.ensures (level c.args.instrument c.args.side c.args.price) c.in-None.ensures)

pub first-requires : goal.first-requires
first-requires c = (found-at c.self.invariant.0 c.self.view_is c.rules.ensures (level c.args.instrument c.args.side c.args.price) c.in-Some.queue c.in-Some.ensures).is_queue

pub returns-in-Some : goal.returns-in-Some
returns-in-Some c = c.first.ensures.value ∙ (found-at c.self.invariant.0 c.self.view_is c.rules.ensures (level c.args.instrument c.args.side c.args.price) c.in-Some.queue c.in-Some.ensures).first
