use Rattle.std.proofs.Common.{◌++◌, length, filter, sym, ap, arith, length-append}
use Rattle.plain_book.specs.Orders.{side_of, is_of}
use Rattle.plain_book.specs.declared.entry.Entry.{Entry}
use Rattle.std.specs.Prelude.{List}
use Rattle.gx_base.specs.declared.order.Side.TheVariants.{Buy, Sell}
use Rattle.book_image.proofs.WriteWalks.{rows-then, rows-as}
use Rattle.book_walks.proofs.SideLevels.{buys-then-sells}
use Rattle.book_image.proofs.write.write_sides.Goals as goal

pub write_side-at-requires-clause-room : goal.write_side-at-requires-clause-room
write_side-at-requires-clause-room g c =
    let es = (g.B.Book.book c.args.book.now).resting in
    let i = c.args.instrument in
    omega (arith, c.requires.room, ap (λ (l : List Entry). length l) (buys-then-sells i es c.rules.ensures.ordered), length-append (side_of i Buy es) (side_of i Sell es))

pub write_side-requires-clause-room : goal.write_side-requires-clause-room
write_side-requires-clause-room g c =
    let es = (g.B.Book.book c.args.book.now).resting in
    let i = c.args.instrument in
    omega (arith, c.requires.room, c.write_side-at.ensures.ends, c.write_side-at.ensures.size, ap (λ (l : List Entry). length l) (buys-then-sells i es c.rules.ensures.ordered), length-append (side_of i Buy es) (side_of i Sell es))

pub returns : goal.returns
returns g c =
    let es = (g.B.Book.book c.args.book.now).resting in
    let i = c.args.instrument in
    rows-as (side_of i Buy es ++ side_of i Sell es) (filter (is_of i) es) (sym (buys-then-sells i es c.rules.ensures.ordered))
    (rows-then (side_of i Buy es) (side_of i Sell es) c.write_side-at.ensures c.write_side.ensures)
