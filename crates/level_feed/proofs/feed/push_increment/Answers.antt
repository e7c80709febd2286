use Rattle.std.proofs.Common.{◌+◌, ◌++◌, [], length, true, refl, sym, arith}
use Rattle.std.proofs.lemmas.List.{append-nil}
use Rattle.level_feed.specs.Blocks.{increment}
use Rattle.level_feed.specs.FeedText.{text_of_blocks}
use Rattle.exec_report.proofs.Pushed.{put-of}
use Rattle.exec_report.proofs.Parts.{part-none, part-more, part-all, part-fails}
use Rattle.level_feed.proofs.BlockTexts.{rows_text, increment_text, increment-parts, told-some}
use Rattle.level_feed.proofs.feed.push_increment.Goals as goal

pub returns-in_err-print_increment_line-clause-sends : goal.returns-in_err-print_increment_line-clause-sends
returns-in_err-print_increment_line-clause-sends g c =
    let m = g.S.Station.meanings in
    let listed = c.args.names.now.instruments in
    let gs = c.args.gone.now in
    let cs = c.args.changed.now in
    let n = length gs + length cs in
    let whole = text_of_blocks listed (increment c.args.number c.args.last (gs ++ cs)) in
    part-fails m (part-none m whole c.args.station.now c.args.buffer.now) (increment_text c.args.number c.args.last n) (rows_text listed gs ++ rows_text listed cs) _ _ _ c.in_err-print_increment_line.field-0.0 c.from_residual.result c.from_residual.ensures.0
    (increment-parts listed c.args.number c.args.last n gs cs refl (omega arith)) c.in_err-print_increment_line.ensures

pub returns-in_err-print_rows-clause-sends : goal.returns-in_err-print_rows-clause-sends
returns-in_err-print_rows-clause-sends g c =
    let m = g.S.Station.meanings in
    let listed = c.args.names.now.instruments in
    let gs = c.args.gone.now in
    let cs = c.args.changed.now in
    let n = length gs + length cs in
    let whole = text_of_blocks listed (increment c.args.number c.args.last (gs ++ cs)) in
    let rg = rows_text listed gs in
    let rc = rows_text listed cs in
    let e0 = increment-parts listed c.args.number c.args.last n gs cs refl (omega arith) in
    let p0 = part-none m whole c.args.station.now c.args.buffer.now in
    let p1 = part-more m p0 (increment_text c.args.number c.args.last n) (rg ++ rc) _ _ e0 (put-of m _ _ _ _ _ c.in_ok-print_increment_line.field-0 c.in_ok-print_increment_line.ensures) in
    part-fails m p1 rg rc _ _ _ c.in_err-print_rows.field-0.0 c.from_residual-in_err-print_rows.result c.from_residual-in_err-print_rows.ensures.0 refl c.in_err-print_rows.ensures

pub returns-in_err-print_rows-2-clause-sends : goal.returns-in_err-print_rows-2-clause-sends
returns-in_err-print_rows-2-clause-sends g c =
    let m = g.S.Station.meanings in
    let listed = c.args.names.now.instruments in
    let gs = c.args.gone.now in
    let cs = c.args.changed.now in
    let n = length gs + length cs in
    let whole = text_of_blocks listed (increment c.args.number c.args.last (gs ++ cs)) in
    let rg = rows_text listed gs in
    let rc = rows_text listed cs in
    let e0 = increment-parts listed c.args.number c.args.last n gs cs refl (omega arith) in
    let p0 = part-none m whole c.args.station.now c.args.buffer.now in
    let p1 = part-more m p0 (increment_text c.args.number c.args.last n) (rg ++ rc) _ _ e0 (put-of m _ _ _ _ _ c.in_ok-print_increment_line.field-0 c.in_ok-print_increment_line.ensures) in
    let p2 = part-more m p1 rg rc _ _ refl (put-of m _ _ _ _ _ c.in_ok-print_rows.field-0 c.in_ok-print_rows.ensures) in
    part-fails m p2 rc [] _ _ _ c.in_err-print_rows-2.field-0.0 c.from_residual-in_err-print_rows-2.result c.from_residual-in_err-print_rows-2.ensures.0 (sym (append-nil rc)) c.in_err-print_rows-2.ensures

pub returns-clause-sends : goal.returns-clause-sends
returns-clause-sends g c =
    let m = g.S.Station.meanings in
    let listed = c.args.names.now.instruments in
    let gs = c.args.gone.now in
    let cs = c.args.changed.now in
    let n = length gs + length cs in
    let whole = text_of_blocks listed (increment c.args.number c.args.last (gs ++ cs)) in
    let rg = rows_text listed gs in
    let rc = rows_text listed cs in
    let e0 = increment-parts listed c.args.number c.args.last n gs cs refl (omega arith) in
    let p0 = part-none m whole c.args.station.now c.args.buffer.now in
    let p1 = part-more m p0 (increment_text c.args.number c.args.last n) (rg ++ rc) _ _ e0 (put-of m _ _ _ _ _ c.in_ok-print_increment_line.field-0 c.in_ok-print_increment_line.ensures) in
    let p2 = part-more m p1 rg rc _ _ refl (put-of m _ _ _ _ _ c.in_ok-print_rows.field-0 c.in_ok-print_rows.ensures) in
    let p3 = part-more m p2 rc [] _ _ (sym (append-nil rc)) (put-of m _ _ _ _ _ c.in_ok-print_rows-2.field-0 c.in_ok-print_rows-2.ensures) in
    part-all m p3 true refl

pub returns-clause-told : goal.returns-clause-told
returns-clause-told g c = told-some c.args.gone.now c.args.changed.now (omega arith)
