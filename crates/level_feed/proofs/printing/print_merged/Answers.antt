use Rattle.std.proofs.Common.{◌+◌, ◌++◌, ◌∙◌, get_or, sym, refl, subst, rules, arith}
use Rattle.line_parts.specs.Words.{line_feed}
use Rattle.level_feed.specs.Rows.{with_rows}
use Rattle.level_feed.specs.Inner.{line_as}
use Rattle.exec_report.proofs.Pushed.{put-of}
use Rattle.exec_report.proofs.Parts.{IsPart, part-none, part-more, part-fails}
use Rattle.level_feed.proofs.Compared.{no_row}
use Rattle.level_feed.proofs.Merging.{Step, merged_from, next-row, step-row, step-here, step-first, step-alone, own-none, own-one}
use Rattle.level_feed.proofs.PrintedRows.{lines_of, lines-one, lines-same}
use Rattle.level_feed.proofs.printing.print_merged.Goals.{then-at-settled-2+then-is_at_level, else-at-settled-2, else-at-settled-2-via-then-at-settled-2+else-is_at_level, else-at-settled-2-via-else-at-settled-2, then-not-is_gone+in_ok-print_row_as-2, else-not-is_gone}
use Rattle.level_feed.proofs.printing.print_merged.Goals as goal

pub loop-at-init : goal.loop-at-init
loop-at-init g c =
    let m = g.S.Station.meanings in
    let settled = c.args.settled.now in
    let changes = c.args.changes.now in
    let line = line_as c.args.in_block c.args.names.now.instruments in
    (record { within = omega arith; inside = omega arith }, part-none m (lines_of line (with_rows changes settled)) c.args.station.now c.args.buffer.now)

pub returns-in_err-print_row_as : goal.returns-in_err-print_row_as
returns-in_err-print_row_as g c =
    let m = g.S.Station.meanings in
    let settled = c.args.settled.now in
    let changes = c.args.changes.now in
    let line = line_as c.args.in_block c.args.names.now.instruments in
    let at = c.loop-at.at in
    let next = c.loop-at.next in
    let o = c.requires.settled in
    let p = c.requires.changes in
    let row = get_or settled at no_row in
    let e = next-row settled changes at next o p (c.if-comes_first.ensures.inside refl) c.if-comes_first.ensures.first in
    let text = lines-one line (merged_from settled changes at next) (merged_from settled changes (at + 1) next) row e in
    part-fails m c.loop-at.invariant.1 (line row ++ line_feed) (lines_of line (merged_from settled changes (at + 1) next)) _ _ _ c.in_err-print_row_as.field-0.0 c.from_residual.result c.from_residual.ensures.0
    text c.in_err-print_row_as.ensures

pub loop-at-preserved-then-comes_first : goal.loop-at-preserved-then-comes_first
loop-at-preserved-then-comes_first g c =
    let m = g.S.Station.meanings in
    let settled = c.args.settled.now in
    let changes = c.args.changes.now in
    let line = line_as c.args.in_block c.args.names.now.instruments in
    let at = c.loop-at.at in
    let next = c.loop-at.next in
    let o = c.requires.settled in
    let p = c.requires.changes in
    let row = get_or settled at no_row in
    let e = next-row settled changes at next o p (c.if-comes_first.ensures.inside refl) c.if-comes_first.ensures.first in
    let text = lines-one line (merged_from settled changes at next) (merged_from settled changes (at + 1) next) row e in (
      step-row settled changes at next at o p c.loop-at.invariant.0 (c.if-comes_first.ensures.inside refl),
      part-more m c.loop-at.invariant.1 (line row ++ line_feed) (lines_of line (merged_from settled changes (at + 1) next)) _ _ text
          (put-of m _ _ _ _ _ c.in_ok-print_row_as.field-0 c.in_ok-print_row_as.ensures),
    )

pub returns-in_err-print_row_as-2 : goal.returns-in_err-print_row_as-2
returns-in_err-print_row_as-2 g c =
    let m = g.S.Station.meanings in
    let settled = c.args.settled.now in
    let changes = c.args.changes.now in
    let line = line_as c.args.in_block c.args.names.now.instruments in
    let at = c.loop-at.at in
    let next = c.loop-at.next in
    let o = c.requires.settled in
    let p = c.requires.changes in
    let change = get_or changes next no_row in
    let after = c.if-at-settled-2.at in
    let walked = c.loop-at.invariant.0 in
    let step = elim c.if-at-settled-2.branch as (λ _. Step settled changes at next after) [
      | then-at-settled-2+then-is_at_level w ↦ step-here settled changes at next after o p walked (search rules) (search rules) w.if-is_at_level.ensures w.at-is
      | else-at-settled-2 w ↦ elim w.else-at-settled-2.branch as (λ _. Step settled changes at next after) [
        | else-at-settled-2-via-then-at-settled-2+else-is_at_level v ↦ step-first settled changes at next after o p walked (search rules) (search rules) c.if-comes_first.ensures.first v.if-is_at_level.ensures w.at-is
        | else-at-settled-2-via-else-at-settled-2 v ↦ step-alone settled changes at next after o p walked (search rules) (search rules) w.at-is
      ]
    ] in
    let left = merged_from settled changes after (next + 1) in
    part-fails m c.loop-at.invariant.1 (line change ++ line_feed) (lines_of line left) _ _ _ c.in_err-print_row_as-2.field-0.0 c.from_residual-in_err-print_row_as-2.result c.from_residual-in_err-print_row_as-2.ensures.0
    (lines-one line (merged_from settled changes at next) left change (step.1 ∙ own-one change left c.if-not-is_gone.ensures))
    c.in_err-print_row_as-2.ensures

pub loop-at-preserved : goal.loop-at-preserved
loop-at-preserved g c =
    let m = g.S.Station.meanings in
    let settled = c.args.settled.now in
    let changes = c.args.changes.now in
    let line = line_as c.args.in_block c.args.names.now.instruments in
    let at = c.loop-at.at in
    let next = c.loop-at.next in
    let o = c.requires.settled in
    let p = c.requires.changes in
    let change = get_or changes next no_row in
    let after = c.if-at-settled-2.at in
    let walked = c.loop-at.invariant.0 in
    let step = elim c.if-at-settled-2.branch as (λ _. Step settled changes at next after) [
      | then-at-settled-2+then-is_at_level w ↦ step-here settled changes at next after o p walked (search rules) (search rules) w.if-is_at_level.ensures w.at-is
      | else-at-settled-2 w ↦ elim w.else-at-settled-2.branch as (λ _. Step settled changes at next after) [
        | else-at-settled-2-via-then-at-settled-2+else-is_at_level v ↦ step-first settled changes at next after o p walked (search rules) (search rules) c.if-comes_first.ensures.first v.if-is_at_level.ensures w.at-is
        | else-at-settled-2-via-else-at-settled-2 v ↦ step-alone settled changes at next after o p walked (search rules) (search rules) w.at-is
      ]
    ] in
    let left = merged_from settled changes after (next + 1) in
    let whole = lines_of line (with_rows changes settled) in
    let part = elim c.if-not-is_gone.branch as (λ _. IsPart m whole (lines_of line left) c.args.station.now c.if-not-is_gone.station c.args.buffer.now c.if-not-is_gone.buffer) [
      | then-not-is_gone+in_ok-print_row_as-2 w ↦
          subst (λ s. IsPart m whole (lines_of line left) c.args.station.now s c.args.buffer.now c.if-not-is_gone.buffer) (sym w.station-is)
          (subst (λ b. IsPart m whole (lines_of line left) c.args.station.now w.print_row_as-then-not-is_gone.new.station c.args.buffer.now b) (sym w.buffer-is)
          (part-more m c.loop-at.invariant.1 (line change ++ line_feed) (lines_of line left) _ _
          (lines-one line (merged_from settled changes at next) left change (step.1 ∙ own-one change left w.if-not-is_gone.ensures))
          (put-of m _ _ _ _ _ w.in_ok-print_row_as-2.field-0 w.in_ok-print_row_as-2.ensures)))
      | else-not-is_gone w ↦
          subst (λ s. IsPart m whole (lines_of line left) c.args.station.now s c.args.buffer.now c.if-not-is_gone.buffer) (sym w.station-is)
          (subst (λ b. IsPart m whole (lines_of line left) c.args.station.now c.loop-at.station c.args.buffer.now b) (sym w.buffer-is)
          (subst (λ t. IsPart m whole t c.args.station.now c.loop-at.station c.args.buffer.now c.loop-at.buffer)
          (lines-same line (merged_from settled changes at next) left (step.1 ∙ own-none change left w.if-not-is_gone.ensures))
          c.loop-at.invariant.1))
    ] in
    (step.0, part)
