use Rattle.std.proofs.Common.{◌∙◌}
use Rattle.std.specs.Prelude.{option_map}
use Rattle.plain_book.specs.Book.{slot_number}
use Rattle.book_side.proofs.Became.{topped}
use Rattle.book_side.proofs.linked.LinkedBookBook.set_top.Goals as goal

pub invariant_of-self : goal.invariant_of-self
invariant_of-self c = ((topped c.self.invariant.0 c.self.view_is c.args.instrument c.args.side (option_map slot_number c.args.slot) c.requires.best c.set_top_at.ensures.length c.set_top_at.ensures.tops).linked, c.set_top_at.ensures.room ∙ c.self.invariant.1, c.self.invariant.2)

pub returns : goal.returns
returns c = (topped c.self.invariant.0 c.self.view_is c.args.instrument c.args.side (option_map slot_number c.args.slot) c.requires.best c.set_top_at.ensures.length c.set_top_at.ensures.tops).view
