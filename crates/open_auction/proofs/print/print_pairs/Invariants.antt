use Rattle.std.proofs.Common.{◌+◌, length}
use Rattle.std.specs.List.{flat_map}
use Rattle.open_auction.specs.OpeningText.{pair_line}
use Rattle.open_auction.specs.Pairs.{all_pairs, opening_pairs}
use Rattle.open_auction.specs.Inner.SideWalk.{IsSideWalk, to_give}
use Rattle.exec_report.proofs.Parts.{IsPart}
use Rattle.open_auction.proofs.print.print_pairs.Given as goal

abbrev pub invariant-loop-buy : goal.invariant-loop-buy
invariant-loop-buy g l =
    let b = g.B.Book.book l.book in
    record {
      buys : IsSideWalk b l.buys;
      sells : IsSideWalk b l.sells;
      part : IsPart g.S.Station.meanings (flat_map (pair_line l.fn.decimals l.fn.price) (opening_pairs l.fn.instrument b.resting l.fn.price)) (flat_map (pair_line l.fn.decimals l.fn.price) (all_pairs (to_give b l.buys) (to_give b l.sells))) l.initial.station l.station l.initial.buffer l.buffer;
    }

abbrev pub decreases-loop-buy : goal.decreases-loop-buy
decreases-loop-buy g l = let b = g.B.Book.book l.book in length (to_give b l.buys) + length (to_give b l.sells)
