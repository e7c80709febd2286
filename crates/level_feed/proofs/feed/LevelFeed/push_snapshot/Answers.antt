use Rattle.std.proofs.Common.{◌≡◌, ◌∷◌, ◌++◌, ◌∙◌, [], ℕ, length, ap, arith}
use Rattle.level_feed.specs.Blocks.{Snapshot}
use Rattle.level_feed.specs.FeedText.{text_of_blocks}
use Rattle.level_feed.specs.Held.{FeedRows}
use Rattle.exec_report.proofs.Parts.{part-none, part-fails}
use Rattle.level_feed.proofs.BlockTexts.{rows_text, snapshot_text, snapshot-parts}
use Rattle.level_feed.proofs.feed.LevelFeed.push_snapshot.Goals as goal

pub returns-in_err-print_snapshot_line : goal.returns-in_err-print_snapshot_line
returns-in_err-print_snapshot_line g c =
    let m = g.S.Station.meanings in
    let listed = c.args.product.now.names.instruments in
    let rows = c.args.self.now.rows in
    let whole = text_of_blocks listed (Snapshot c.args.number rows ∷ []) in
    let count : length rows ≡ c.len.result = omega (arith, c.len.ensures, ap (λ (f : FeedRows). length f.rows) c.self.view_is) in
    part-fails m (part-none m whole c.args.station.now c.args.buffer.now) (snapshot_text c.args.number c.len.result) (rows_text listed rows) _ _ _ c.in_err-print_snapshot_line.field-0.0 c.from_residual.result c.from_residual.ensures.0
    (snapshot-parts listed c.args.number rows ∙ ap (λ (n : ℕ). snapshot_text c.args.number n ++ rows_text listed rows) count) c.in_err-print_snapshot_line.ensures
