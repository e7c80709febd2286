use Rattle.std.proofs.Common.{refl, subst}
use Rattle.plain_book.specs.Book.{IsRight}
use Rattle.feed_print.proofs.Noted.{are-noted}
use Rattle.feed_print.proofs.applying.apply_noting.Goals as goal

pub returns-clause-noted : goal.returns-clause-noted
returns-clause-noted g c =
    let step = c.apply.ensures.step c.requires.numbered in
    let before = subst IsRight c.book.ensures c.rules.ensures in
    let after = subst IsRight c.book-2.ensures c.rules-2.ensures in
    are-noted c.args.product.now c.args.request.now c.args.core.now c.apply.new.self before.differ c.requires.numbered step.state
    c.note_asked.new.noted c.apply.new.out (step.emits.all refl) c.note_asked.ensures before.ordered after.ordered
