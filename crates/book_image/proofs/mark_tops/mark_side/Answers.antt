use Rattle.std.proofs.Common.{ℕ, sym, ap, ◌∙◌}
use Rattle.plain_book.specs.Numbers.{numbered}
use Rattle.book_image.specs.Reading.{with_first_top}
use Rattle.book_image.proofs.LoadTops.{unmarked-zero}
use Rattle.book_image.proofs.LoadLevels.{resting-start}
use Rattle.book_image.proofs.mark_tops.mark_side.Goals as goal

pub returns-else-number-ne0 : goal.returns-else-number-ne0
returns-else-number-ne0 g c =
    let b = g.B.Book.book c.args.book.now in
    resting-start b _
    (sym (unmarked-zero c.args.instrument c.args.side b.resting c.requires.right.some)
    ∙ ap (λ (n : ℕ). with_first_top c.args.instrument c.args.side n (numbered b.resting)) (sym c.if-number-ne0.false))
