use Rattle.std.proofs.Common.{List, ap, ◌∙◌}
use Rattle.std.specs.Prelude.{sum_by}
use Rattle.plain_book.specs.declared.entry.Entry.{Entry}
use Rattle.plain_book.specs.Orders.{level}
use Rattle.price_level.specs.declared.row.LevelRow.{LevelRow}
use Rattle.book_side.proofs.Seen.{none-at, found-at}
use Rattle.book_side.proofs.linked.LinkedBookBook.open_total.Goals as goal

pub returns-in-None : goal.returns-in-None
returns-in-None c = ap (λ (l : List Entry). sum_by (λ (e : Entry). e.order.leaves) l) (none-at c.self.invariant.0 c.self.view_is c.rules.ensures (level c.args.instrument c.args.side c.args.price) c.in-None.ensures)

pub row-requires : goal.row-requires
row-requires c = (found-at c.self.invariant.0 c.self.view_is c.rules.ensures (level c.args.instrument c.args.side c.args.price) c.in-Some.queue c.in-Some.ensures).is_row

pub returns-in-Some : goal.returns-in-Some
returns-in-Some c = ap (λ (r : LevelRow). r.leaves) c.row.ensures ∙ (found-at c.self.invariant.0 c.self.view_is c.rules.ensures (level c.args.instrument c.args.side c.args.price) c.in-Some.queue c.in-Some.ensures).leaves
