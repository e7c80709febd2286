use Rattle.std.proofs.Common.{◌+◌, ◌-◌, length, map}
use Rattle.level_feed.specs.Rows.{with_rows}
use Rattle.level_feed.specs.FeedText.{text_of_lines}
use Rattle.level_feed.specs.Inner.{line_as}
use Rattle.exec_report.proofs.Parts.{IsPart}
use Rattle.level_feed.proofs.Merging.{merged_from, AreWalked}
use Rattle.level_feed.proofs.printing.print_merged.Given as goal

abbrev pub invariant-loop-at : goal.invariant-loop-at
invariant-loop-at g l =
    AreWalked l.settled l.changes l.at l.next
    × IsPart g.S.Station.meanings (text_of_lines (map (line_as l.in_block l.names.instruments) (with_rows l.changes l.settled))) (text_of_lines (map (line_as l.in_block l.names.instruments) (merged_from l.settled l.changes l.at l.next))) l.initial.station l.station l.initial.buffer l.buffer

abbrev pub decreases-loop-at : goal.decreases-loop-at
decreases-loop-at g l = (length l.settled - l.at) + (length l.changes - l.next)
