use Rattle.std.proofs.Common.{sym, subst}
use Rattle.plain_book.specs.Book.{EachPair, AreInBookOrder}
use Rattle.plain_book.proofs.Pairs.{pairs-filter}
use Rattle.plain_book.proofs.Right.{other_slot}
use Rattle.plain_book.proofs.plain.refresh.Goals as goal

pub put_in-requires-clause-ordered : goal.put_in-requires-clause-ordered
put_in-requires-clause-ordered c =
    subst (EachPair AreInBookOrder) (sym c.take_out.ensures.entries) (pairs-filter AreInBookOrder (other_slot c.args.slot) c.args.entries.now.items c.requires.ordered)
