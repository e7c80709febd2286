use Rattle.open_auction.specs.OpeningText.{opening_texts}
use Rattle.exec_report.proofs.Pushed.{Put}
use Rattle.open_auction.proofs.print.print_opening.Given as goal

abbrev pub invariant-loop-instrument : goal.invariant-loop-instrument
invariant-loop-instrument g l =
    Put g.S.Station.meanings l.initial.station l.station l.initial.buffer l.buffer (opening_texts l.product.names l.core 0 l.instrument)
