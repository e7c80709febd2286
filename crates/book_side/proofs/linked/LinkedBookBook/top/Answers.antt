use Rattle.std.proofs.Common.{List, ap, ◌∙◌}
use Rattle.book_side.specs.declared.tops.SideTops.{SideTops}
use Rattle.book_side.specs.Inner.Content.{top_at}
use Rattle.book_side.proofs.Seen.{top-is}
use Rattle.book_side.proofs.linked.LinkedBookBook.top.Goals as goal

pub returns : goal.returns
returns c = c.top_at.ensures ∙ ap (λ (l : List SideTops). top_at l c.args.instrument c.args.side) c.deref.ensures.value ∙ top-is c.self.invariant.0 c.self.view_is c.args.instrument c.args.side
