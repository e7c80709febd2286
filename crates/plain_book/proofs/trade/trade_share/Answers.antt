-- The order is still there after it was marked, and shows as much.
use Rattle.std.proofs.Common.{◌≤◌, sym, subst}
use Rattle.plain_book.specs.Orders.{HasSlot, order_of}
use Rattle.plain_book.specs.Book.{Book}
use Rattle.plain_book.specs.Matches.{CanTrade}
use Rattle.plain_book.proofs.Marks.{marked-has, marked-shows, marked-can}
use Rattle.plain_book.proofs.trade.trade_share.Goals as goal

pub trade_if_any-requires-clause-rests : goal.trade_if_any-requires-clause-rests
trade_if_any-requires-clause-rests g c =
    subst (λ (x : Book). HasSlot c.args.share.slot.0 x.resting) (sym c.mark.ensures) (marked-has c.args.step c.args.share.slot.0 c.args.share.lots (g.B.Book.book c.args.book.now) c.requires.rests)

pub trade_if_any-requires-clause-shown : goal.trade_if_any-requires-clause-shown
trade_if_any-requires-clause-shown g c =
    subst (λ (x : Book). c.args.share.lots ≤ (order_of c.args.share.slot.0 x.resting).shown) (sym c.mark.ensures)
    (subst (λ n. c.args.share.lots ≤ n) (sym (marked-shows c.args.step c.args.share.slot.0 c.args.share.lots (g.B.Book.book c.args.book.now) c.requires.rests)) c.requires.shown)

pub trade_if_any-requires-clause-can : goal.trade_if_any-requires-clause-can
trade_if_any-requires-clause-can g c =
    subst (λ (x : Book). CanTrade x c.args.desk.now c.args.taker.now) (sym c.mark.ensures)
    (marked-can c.args.step c.args.share.slot.0 c.args.share.lots (g.B.Book.book c.args.book.now) c.requires.rests c.args.desk.now c.args.taker.now c.requires.can)
