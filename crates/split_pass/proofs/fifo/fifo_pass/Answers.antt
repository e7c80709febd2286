use Rattle.std.proofs.Common.{◌≡◌, ◌≤◌, min, sym, ap, ◌∙◌, arith, inl, inr}
use Rattle.gx_base.specs.declared.order.Order.{Order}
use Rattle.plain_book.specs.Matches.{match_at}
use Rattle.split_pass.proofs.Heads.{found, found_none}
use Rattle.split_pass.proofs.Rounds.{rounding-more, rounding-end}
use Rattle.split_pass.proofs.fifo.fifo_pass.Goals as goal

pub returns-in-None-clause-matches : goal.returns-in-None-clause-matches
returns-in-None-clause-matches g c =
    let l = c.loop-taker in
    let b = g.B.Book.book l.book in
    let empty = found_none c.args.price c.args.taker.now l.taker c.opposite_side-side.result b c.first.result l.invariant.faces c.opposite_side-side.ensures c.first.ensures c.in-None.is in
    rounding-end g.E.Emit.meanings c.args.price (match_at (g.B.Book.book c.args.book.now) c.args.desk.now c.args.taker.now c.args.out.now) (match_at b l.desk l.taker l.out) l.invariant (inr empty)

pub lots_at_head-lots-requires : goal.lots_at_head-lots-requires
lots_at_head-lots-requires g c =
    let l = c.loop-taker in
    let h = found c.args.price c.args.taker.now l.taker c.opposite_side-side.result (g.B.Book.book l.book) c.first.result c.in-Some.slot l.invariant.faces c.opposite_side-side.ensures c.first.ensures c.in-Some.is c.rules.ensures in
    h.live

pub trade_lots-requires-clause-rests : goal.trade_lots-requires-clause-rests
trade_lots-requires-clause-rests g c =
    let l = c.loop-taker in
    let h = found c.args.price c.args.taker.now l.taker c.opposite_side-side.result (g.B.Book.book l.book) c.first.result c.in-Some.slot l.invariant.faces c.opposite_side-side.ensures c.first.ensures c.in-Some.is c.rules.ensures in
    h.has

pub trade_lots-requires-clause-some : goal.trade_lots-requires-clause-some
trade_lots-requires-clause-some g c =
    let l = c.loop-taker in
    let h = found c.args.price c.args.taker.now l.taker c.opposite_side-side.result (g.B.Book.book l.book) c.first.result c.in-Some.slot l.invariant.faces c.opposite_side-side.ensures c.first.ensures c.in-Some.is c.rules.ensures in
    omega (arith, c.lots_at_head-lots.ensures, ap (λ (o : Order). o.shown) h.live_order, h.fit.showing, c.loop-taker-test.true)

pub trade_lots-requires-clause-shown : goal.trade_lots-requires-clause-shown
trade_lots-requires-clause-shown g c =
    let l = c.loop-taker in
    let h = found c.args.price c.args.taker.now l.taker c.opposite_side-side.result (g.B.Book.book l.book) c.first.result c.in-Some.slot l.invariant.faces c.opposite_side-side.ensures c.first.ensures c.in-Some.is c.rules.ensures in
    omega (arith, c.lots_at_head-lots.ensures, ap (λ (o : Order). o.shown) (h.live_order ∙ sym h.order))

pub loop-taker-preserved : goal.loop-taker-preserved
loop-taker-preserved g c =
    let l = c.loop-taker in
    let r = c.trade_lots in
    let h = found c.args.price c.args.taker.now l.taker c.opposite_side-side.result (g.B.Book.book l.book) c.first.result c.in-Some.slot l.invariant.faces c.opposite_side-side.ensures c.first.ensures c.in-Some.is c.rules.ensures in
    let lots : c.lots_at_head-lots.result ≡ min l.taker.order.leaves h.entry.order.shown = c.lots_at_head-lots.ensures ∙ ap (λ (o : Order). min l.taker.order.leaves o.shown) h.live_order in
    let some : 1 ≤ c.lots_at_head-lots.result = omega (arith, lots, h.fit.showing, c.loop-taker-test.true) in
    rounding-more g.E.Emit.meanings c.args.price (match_at (g.B.Book.book c.args.book.now) c.args.desk.now c.args.taker.now c.args.out.now) (match_at (g.B.Book.book l.book) l.desk l.taker l.out) (match_at (g.B.Book.book r.new.book) r.new.desk r.new.taker r.new.out)
    c.in-Some.slot.0 c.lots_at_head-lots.result h lots some l.invariant r.ensures

pub returns-clause-matches : goal.returns-clause-matches
returns-clause-matches g c =
    let l = c.loop-taker in
    let none : l.taker.order.leaves ≡ 0 = omega (arith, c.loop-taker-test.false) in
    rounding-end g.E.Emit.meanings c.args.price (match_at (g.B.Book.book c.args.book.now) c.args.desk.now c.args.taker.now c.args.out.now) (match_at (g.B.Book.book l.book) l.desk l.taker l.out) l.invariant (inl none)
