use Rattle.std.proofs.Common.{◌++◌, sym}
use Rattle.gx_base.specs.declared.order.Side.TheVariants.{Buy, Sell}
use Rattle.plain_book.specs.Orders.{side_of, stops_of}
use Rattle.book_walks.proofs.SideLevels.{buys-then-sells}
use Rattle.order_kinds.proofs.ExpiryReports.{reports-as, reports-then}
use Rattle.order_kinds.proofs.EndedParts.{sides-ended, sells-kept}
use Rattle.order_kinds.proofs.closing.expire_sides.Goals as goal

pub returns-clause-book : goal.returns-clause-book
returns-clause-book g c =
    sides-ended c.args.instrument (g.B.Book.book c.args.book.now) (g.B.Book.book c.expire_side.new.book) (g.B.Book.book c.expire_side-2.new.book) c.expire_side.ensures.book c.expire_side-2.ensures.book

pub returns-clause-reports : goal.returns-clause-reports
returns-clause-reports g c =
    let m = g.E.Emit.meanings in
    let time = c.args.time in
    let i = c.args.instrument in
    let b = g.B.Book.book c.args.book.now in
    let b1 = g.B.Book.book c.expire_side.new.book in
    let buys = side_of i Buy b.resting in
    let sells = side_of i Sell b.resting in
    reports-as m time (buys ++ sells) (stops_of i b.resting) (sym (buys-then-sells i b.resting c.rules.ensures.ordered))
    (reports-then m time buys sells c.expire_side.ensures.reports
    (reports-as m time (side_of i Sell b1.resting) sells (sells-kept i b b1 c.expire_side.ensures.book) c.expire_side-2.ensures.reports))
