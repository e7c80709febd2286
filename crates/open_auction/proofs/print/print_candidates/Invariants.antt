use Rattle.std.proofs.Common.{length}
use Rattle.std.specs.List.{flat_map}
use Rattle.open_auction.specs.OpeningText.{candidate_line}
use Rattle.open_auction.specs.Openings.{openings}
use Rattle.open_auction.specs.Inner.Walk.{IsWalk, to_come}
use Rattle.exec_report.proofs.Parts.{IsPart}
use Rattle.open_auction.proofs.print.print_candidates.Given as goal

abbrev pub invariant-loop-opening : goal.invariant-loop-opening
invariant-loop-opening g l =
    let b = g.B.Book.book l.book in
    record {
      walk : IsWalk b l.walk;
      part : IsPart g.S.Station.meanings (flat_map (candidate_line l.fn.decimals) (openings l.fn.instrument b.resting)) (flat_map (candidate_line l.fn.decimals) (to_come b.resting l.walk)) l.initial.station l.station l.initial.buffer l.buffer;
    }

abbrev pub decreases-loop-opening : goal.decreases-loop-opening
decreases-loop-opening g l = length (to_come (g.B.Book.book l.book).resting l.walk)
