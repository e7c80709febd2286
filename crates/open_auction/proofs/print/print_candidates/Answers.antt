use Rattle.std.proofs.Common.{List, sym, ap}
use Rattle.std.specs.List.{flat_map}
use Rattle.open_auction.specs.declared.quote.Opening.{Opening}
use Rattle.open_auction.specs.OpeningText.{candidate_line}
use Rattle.open_auction.specs.Openings.{openings}
use Rattle.open_auction.specs.Inner.Walk.{to_come}
use Rattle.exec_report.proofs.Pushed.{put-of}
use Rattle.exec_report.proofs.Parts.{part-start, part-more, part-fails}
use Rattle.open_auction.proofs.Printing.{candidate-next}
use Rattle.open_auction.proofs.print.print_candidates.Goals as goal

pub loop-opening-init : goal.loop-opening-init
loop-opening-init g c =
    let b = g.B.Book.book c.args.book.now in
    let line = candidate_line c.args.decimals in
    record {
      walk = c.from_highest-walk.ensures.walk;
      part = part-start g.S.Station.meanings (flat_map line (openings c.args.instrument b.resting)) (flat_map line (to_come b.resting c.from_highest-walk.result)) c.args.station.now c.args.buffer.now
          (ap (λ (l : List Opening). flat_map line l) (sym c.from_highest-walk.ensures.all));
    }

pub loop-opening-preserved : goal.loop-opening-preserved
loop-opening-preserved g c =
    let b = g.B.Book.book c.args.book.now in
    let m = g.S.Station.meanings in
    let w = c.loop-opening.invariant in
    record {
      walk = c.in-Some.ensures.walk;
      part = part-more m w.part (candidate_line c.args.decimals c.in-Some.opening) _ c.print_candidate.new.station c.print_candidate.new.buffer
          (candidate-next c.args.decimals (to_come b.resting c.loop-opening.walk) (to_come b.resting c.next.new.self) c.in-Some.opening c.in-Some.ensures.first c.in-Some.ensures.rest)
          (put-of m _ _ _ _ _ c.in_ok-print_candidate.field-0 c.in_ok-print_candidate.ensures);
    }

pub returns-in_err-print_candidate : goal.returns-in_err-print_candidate
returns-in_err-print_candidate g c =
    let b = g.B.Book.book c.args.book.now in
    let m = g.S.Station.meanings in
    let w = c.loop-opening.invariant in
    part-fails m w.part (candidate_line c.args.decimals c.in-Some.opening) _ _ _ _ c.in_err-print_candidate.field-0.0 c.from_residual.result c.from_residual.ensures.0
    (candidate-next c.args.decimals (to_come b.resting c.loop-opening.walk) (to_come b.resting c.next.new.self) c.in-Some.opening c.in-Some.ensures.first c.in-Some.ensures.rest)
    c.in_err-print_candidate.ensures
