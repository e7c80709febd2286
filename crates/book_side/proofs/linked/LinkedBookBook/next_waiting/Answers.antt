use Rattle.std.specs.Prelude.{option_map}
use Rattle.plain_book.specs.Book.{slot_number}
use Rattle.book_side.proofs.Seen.{waits-live, next-stop-is}
use Rattle.book_side.proofs.linked.LinkedBookBook.next_waiting.Goals as goal

pub next-requires : goal.next-requires
next-requires c = waits-live c.self.invariant.0 c.self.view_is c.args.slot.0 c.requires

pub returns : goal.returns
returns c = next-stop-is c.self.invariant.0 c.self.view_is c.args.slot.0 (option_map slot_number c.next.result) c.requires c.next.ensures.value
