use Rattle.std.proofs.Common.{List, refl, sym, ap, ◌∙◌}
use Rattle.std.specs.List.{flat_map}
use Rattle.gx_base.specs.declared.order.Side.TheVariants.{Sell}
use Rattle.plain_book.specs.declared.entry.Entry.{Entry}
use Rattle.open_auction.specs.OpeningText.{pair_line, pair_words}
use Rattle.open_auction.specs.Pairs.{takers, all_pairs, opening_pairs}
use Rattle.open_auction.specs.Inner.SideWalk.{to_give, first_gives}
use Rattle.exec_report.proofs.Pushed.{put-of}
use Rattle.exec_report.proofs.Parts.{part-start, part-more, part-all, part-fails}
use Rattle.open_auction.proofs.Prices.{lesser-of}
use Rattle.open_auction.proofs.Printing.{pair-next, pairs-end-buys, pairs-end-sells}
use Rattle.open_auction.proofs.print.print_pairs.Goals as goal

pub loop-buy-init : goal.loop-buy-init
loop-buy-init g c =
    let b = g.B.Book.book c.args.book.now in
    let line = pair_line c.args.decimals c.args.price in
    let i = c.args.instrument in
    record {
      buys = c.from_first-buys.ensures.walk;
      sells = c.from_first-sells.ensures.walk;
      part = part-start g.S.Station.meanings (flat_map line (opening_pairs i b.resting c.args.price)) (flat_map line (all_pairs (to_give b c.from_first-buys.result) (to_give b c.from_first-sells.result))) c.args.station.now c.args.buffer.now
          (ap (λ (l : List Entry). flat_map line (all_pairs l (takers i Sell c.args.price b.resting))) (sym c.from_first-buys.ensures.all)
          ∙ ap (λ (l : List Entry). flat_map line (all_pairs (to_give b c.from_first-buys.result) l)) (sym c.from_first-sells.ensures.all));
    }

pub loop-buy-preserved : goal.loop-buy-preserved
loop-buy-preserved g c =
    let b = g.B.Book.book c.args.book.now in
    let m = g.S.Station.meanings in
    let w = c.loop-buy.invariant in
    let buy = c.in-Some-Some.buy in
    let sell = c.in-Some-Some.sell in
    let lots = c.min-lots.result in
    record {
      buys = c.give.ensures.walk;
      sells = c.give-in-Some-Some.ensures.walk;
      part = part-more m w.part (pair_words c.args.decimals c.args.price lots buy.number sell.number) _ c.print_pair.new.station c.print_pair.new.buffer
          (pair-next c.args.decimals c.args.price (to_give b c.loop-buy.buys) (to_give b c.loop-buy.sells) (to_give b c.give.new.self) (to_give b c.give-in-Some-Some.new.self) buy sell lots
          c.in-Some-Some.ensures c.in-Some-Some.ensures' (lesser-of buy.lots sell.lots lots c.min-lots.ensures) c.give.ensures.gives c.give-in-Some-Some.ensures.gives)
          (put-of m _ _ _ _ _ c.in_ok-print_pair.field-0 c.in_ok-print_pair.ensures);
    }

pub returns-in_err-print_pair : goal.returns-in_err-print_pair
returns-in_err-print_pair g c =
    let b = g.B.Book.book c.args.book.now in
    let m = g.S.Station.meanings in
    let w = c.loop-buy.invariant in
    let buy = c.in-Some-Some.buy in
    let sell = c.in-Some-Some.sell in
    let lots = c.min-lots.result in
    part-fails m w.part (pair_words c.args.decimals c.args.price lots buy.number sell.number) _ _ _ _ c.in_err-print_pair.field-0.0 c.from_residual.result c.from_residual.ensures.0
    (pair-next c.args.decimals c.args.price (to_give b c.loop-buy.buys) (to_give b c.loop-buy.sells) (first_gives lots (to_give b c.loop-buy.buys)) (first_gives lots (to_give b c.loop-buy.sells)) buy sell lots
    c.in-Some-Some.ensures c.in-Some-Some.ensures' (lesser-of buy.lots sell.lots lots c.min-lots.ensures) refl refl)
    c.in_err-print_pair.ensures

pub returns-in_default : goal.returns-in_default
returns-in_default g c =
    let b = g.B.Book.book c.args.book.now in
    part-all g.S.Station.meanings c.loop-buy.invariant.part tt (pairs-end-sells c.args.decimals c.args.price (to_give b c.loop-buy.buys) (to_give b c.loop-buy.sells) (sym c.in_default.ensures'))

pub returns-in_default-2 : goal.returns-in_default-2
returns-in_default-2 g c =
    let b = g.B.Book.book c.args.book.now in
    part-all g.S.Station.meanings c.loop-buy.invariant.part tt (pairs-end-buys c.args.decimals c.args.price (to_give b c.loop-buy.buys) (to_give b c.loop-buy.sells) (sym c.first.ensures ∙ c.in_default.is-0))
