use Rattle.std.specs.Prelude.{option_map}
use Rattle.plain_book.specs.Book.{slot_number}
use Rattle.book_side.proofs.Seen.{first-stop-is}
use Rattle.book_side.proofs.linked.LinkedBookBook.first_waiting.Goals as goal

pub returns : goal.returns
returns c = first-stop-is c.self.invariant.0 c.self.view_is c.args.instrument c.from.result (option_map slot_number c.first.result) c.requires c.from.ensures c.first.ensures.value
