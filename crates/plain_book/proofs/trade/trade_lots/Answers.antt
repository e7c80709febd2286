use Rattle.std.proofs.Common.{rules, ◌≡◌, ◌+◌, ◌-◌, ◌∙◌, ap, sym, subst, arith, slice_index}
use Rattle.gx_base.specs.declared.order.Desk.{Desk}
use Rattle.plain_book.specs.Orders.{order_of}
use Rattle.plain_book.specs.Book.{Book, book_traded}
use Rattle.plain_book.specs.Match.{taken_by, report_counted}
use Rattle.plain_book.specs.Matches.{CanTrade, KeepsRoom}
use Rattle.plain_book.proofs.LineCounts.{line-counted}
use Rattle.plain_book.proofs.Trading.{taker_after, keeps-traded, can-traded, emits_trade}
use Rattle.plain_book.proofs.trade.trade_lots.Goals as goal

pub report_taken-requires-clause-lines : goal.report_taken-requires-clause-lines
report_taken-requires-clause-lines g c =
    let desk = c.args.desk.now in
    let firm = c.args.taker.now.order.firm in
    let given = order_of c.args.share.slot.0 (g.B.Book.book c.args.book.now).resting in
    let is = ap (λ (d : Desk). slice_index d.lines firm) c.report_given-price.ensures.desk in
    omega (arith, is, line-counted desk.lines given.firm firm, c.requires.can.lines firm)

pub returns : goal.returns
returns g c =
    let m = g.E.Emit.meanings in
    let b = g.B.Book.book c.args.book.now in
    let d = c.args.desk.now in
    let t = c.args.taker.now in
    let n = c.args.share.lots in
    let resting = order_of c.args.share.slot.0 b.resting in
    let firm = t.order.firm in
    let range = c.lengthen-taker.result in
    let first = c.report_given-price in
    let second = c.report_taken in
    let both = ap (λ (x : Desk). report_counted x firm) (sym first.ensures.desk) ∙ sym second.ensures.desk in
    record {
      now = search rules;
      emits = emits_trade m _ _ _ c.args.step n (record d { trades = d.trades + 1 }) _ t.time _ resting (taken_by n t.order) first.ensures.price first.ensures.desk first.ensures.puts second.ensures.puts;
      can = subst (λ (x : Book). CanTrade x second.new.desk (taker_after n range t)) (sym c.fill.ensures.traded)
          (subst (λ (x : Desk). CanTrade (book_traded c.args.share.slot.0 n b) x (taker_after n range t)) both
          (can-traded c.args.share.slot.0 n resting.firm b d t range c.requires.rests c.requires.some c.requires.wanted c.requires.can));
      room = subst (λ (x : Desk). KeepsRoom d t.order.leaves x (t.order.leaves - n)) both (keeps-traded d resting.firm firm t.order.leaves n c.requires.some c.requires.wanted);
    }
