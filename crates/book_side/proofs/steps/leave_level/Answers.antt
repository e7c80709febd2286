use Rattle.std.proofs.Common.{◌≡◌, ℕ, List, ◌==◌, if◌then◌else◌, sym, ap, ◌∙◌}
use Rattle.price_level.specs.declared.row.LevelRow.{LevelRow}
use Rattle.price_level.specs.Rows.{row_of, without_row}
use Rattle.book_side.specs.Inner.Steps.{lowered}
use Rattle.book_side.proofs.Flat.{without-summed}
use Rattle.book_side.proofs.steps.leave_level.Goals as goal

pub returns-then-row-eq1 : goal.returns-then-row-eq1
returns-then-row-eq1 c =
    let lv = c.args.levels.now in
    let q = c.args.queue in
    let low = lowered q c.args.order.now lv.rows in
    let one : (row_of q lv.rows).count ≡ 1 = sym (ap (λ (r : LevelRow). r.count) c.row-row.ensures) ∙ c.if-row-eq1.true in
    c.remove_level.ensures.rows
    ∙ sym (ap (λ (l : List LevelRow). record lv { rows = l }) (ap (λ (n : ℕ). if n == 1 then without_row q low else low) one ∙ without-summed q _ _ _ lv.rows))
