use Rattle.std.proofs.Common.{◌∙◌, List, Err, ap, sym, subst}
use Rattle.book_order.specs.Levels.{level}
use Rattle.level_feed.specs.declared.row.Row.{Row}
use Rattle.level_feed.specs.Noted.{Noted, noted_new, noted_with}
use Rattle.level_feed.specs.Inner.{IsFound}
use Rattle.level_feed.proofs.AtLevel.{not-among-new}
use Rattle.level_feed.proofs.Noting.{new-with}
use Rattle.level_feed.proofs.noted.NotedLevels.note.Goals as goal

pub returns-in-Err : goal.returns-in-Err
returns-in-Err c =
    let rows = c.self.inside.levels.items in
    let k = level c.args.instrument c.args.side c.args.price in
    let row : Row = record { instrument = c.args.instrument; side = c.args.side; price = c.args.price; shown = 1; orders = 1 } in
    let old : Noted = record { any = c.self.inside.any; levels = rows } in
    let found = subst (λ (xs : List Row). IsFound row xs (Err c.in-Err.place)) c.deref-2.ensures.value c.in-Err.ensures in
    c.note_new.ensures
    ∙ ap (noted_new k) (sym c.self.view_is)
    ∙ new-with k old c.if-self.false (not-among-new row rows c.in-Err.place c.self.invariant.1 found)
    ∙ ap (noted_with k) c.self.view_is
