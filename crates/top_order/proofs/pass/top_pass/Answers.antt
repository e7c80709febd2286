use Rattle.std.proofs.Common.{◌≡◌, min, ap, ◌∙◌, arith}
use Rattle.gx_base.specs.declared.event.StepName.TheVariants.{Top}
use Rattle.gx_base.specs.declared.order.Order.{Order}
use Rattle.plain_book.specs.Match.{match_start, trade_share}
use Rattle.plain_book.specs.Matches.{match_at}
use Rattle.plain_book.specs.Steps.{top}
use Rattle.plain_book.proofs.Matching.{matches-none, matches-as}
use Rattle.top_order.proofs.Tops.{met_top, top_here, top_away}
use Rattle.top_order.proofs.pass.top_pass.Goals as goal

pub order-order-requires : goal.order-order-requires
order-order-requires g c =
    let met = met_top c.args.taker.now _ (g.B.Book.book c.args.book.now) _ c.in-Some.slot c.rules.ensures c.opposite_side-side.ensures c.top.ensures c.in-Some.is in
    met.live

pub trade_share-requires-clause-rests : goal.trade_share-requires-clause-rests
trade_share-requires-clause-rests g c =
    let met = met_top c.args.taker.now _ (g.B.Book.book c.args.book.now) _ c.in-Some.slot c.rules.ensures c.opposite_side-side.ensures c.top.ensures c.in-Some.is in
    met.is.has

pub trade_share-requires-clause-shown : goal.trade_share-requires-clause-shown
trade_share-requires-clause-shown g c =
    let met = met_top c.args.taker.now _ (g.B.Book.book c.args.book.now) _ c.in-Some.slot c.rules.ensures c.opposite_side-side.ensures c.top.ensures c.in-Some.is in
    omega (arith, c.min.ensures, c.min-lots.ensures, ap (λ (o : Order). o.shown) (c.order-order.ensures ∙ met.live_order))

pub returns-then-is_same_price : goal.returns-then-is_same_price
returns-then-is_same_price g c =
    let b = g.B.Book.book c.args.book.now in
    let t = c.args.taker.now in
    let s = c.in-Some.slot.0 in
    let n = c.min-lots.result in
    let r = c.trade_share in
    let met = met_top c.args.taker.now _ (g.B.Book.book c.args.book.now) _ c.in-Some.slot c.rules.ensures c.opposite_side-side.ensures c.top.ensures c.in-Some.is in
    let lots : n ≡ min t.order.leaves (min c.order-order.result.now.shown c.args.rule.now.max) = omega (arith, c.min.ensures, c.min-lots.ensures) in
    matches-as g.E.Emit.meanings (trade_share Top s n) (top c.args.rule.now c.args.price) (match_at b c.args.desk.now t c.args.out.now) (match_at (g.B.Book.book r.new.book) r.new.desk r.new.taker r.new.out)
    (top_here c.args.rule.now c.args.price (match_start b c.args.desk.now t) s met c.order-order.result.now n _ c.order-order.ensures c.is_same_price.ensures c.if-is_same_price.true lots) r.ensures

pub returns-else-is_same_price : goal.returns-else-is_same_price
returns-else-is_same_price g c =
    let b = g.B.Book.book c.args.book.now in
    let t = c.args.taker.now in
    let s = c.in-Some.slot.0 in
    let at = match_at b c.args.desk.now t c.args.out.now in
    let met = met_top c.args.taker.now _ (g.B.Book.book c.args.book.now) _ c.in-Some.slot c.rules.ensures c.opposite_side-side.ensures c.top.ensures c.in-Some.is in
    matches-as g.E.Emit.meanings (λ m. m) (top c.args.rule.now c.args.price) at at
    (top_away c.args.rule.now c.args.price (match_start b c.args.desk.now t) s met c.order-order.result.now _ c.order-order.ensures c.is_same_price.ensures c.if-is_same_price.false) (matches-none g.E.Emit.meanings at c.requires.can)
