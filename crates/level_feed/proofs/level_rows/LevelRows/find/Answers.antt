use Rattle.std.proofs.Common.{◌∙◌, [], ◌∷◌, List, Ok, Err, cond, ap, sym, subst}
use Rattle.level_feed.specs.declared.row.Row.{Row}
use Rattle.level_feed.specs.Held.{FeedRows}
use Rattle.level_feed.specs.Inner.{IsFound}
use Rattle.level_feed.proofs.FoundRows.{beside, beside-one-row, beside-other-rows, found-there, found-none, found-not-there}
use Rattle.level_feed.proofs.level_rows.LevelRows.find.Goals as goal

pub returns-then-is_gone : goal.returns-then-is_gone
returns-then-is_gone c =
    let w = c.args.level.now in
    let settled = c.self.inside.settled.items in
    let changes = c.self.inside.changes.items in
    let r = c.index.result.now in
    let found = subst (λ (xs : List Row). IsFound w xs (Ok c.in-Ok.place)) c.deref.ensures.value c.in-Ok.ensures in
    ap (λ (q : FeedRows). beside w q.rows) (sym c.self.view_is)
    ∙ beside-one-row w r changes settled c.self.invariant.0 (found-there w changes c.in-Ok.place r c.self.invariant.1 found c.index.ensures)
    ∙ ap (λ b. cond b [] (r ∷ [])) (sym c.is_gone.ensures ∙ c.if-is_gone.true)

pub returns-else-is_gone : goal.returns-else-is_gone
returns-else-is_gone c =
    let w = c.args.level.now in
    let settled = c.self.inside.settled.items in
    let changes = c.self.inside.changes.items in
    let r = c.index.result.now in
    let found = subst (λ (xs : List Row). IsFound w xs (Ok c.in-Ok.place)) c.deref.ensures.value c.in-Ok.ensures in
    ap (λ (q : FeedRows). beside w q.rows) (sym c.self.view_is)
    ∙ beside-one-row w r changes settled c.self.invariant.0 (found-there w changes c.in-Ok.place r c.self.invariant.1 found c.index.ensures)
    ∙ ap (λ b. cond b [] (r ∷ [])) (sym c.is_gone.ensures ∙ c.if-is_gone.false)

pub returns-in-Ok-find_place : goal.returns-in-Ok-find_place
returns-in-Ok-find_place c =
    let w = c.args.level.now in
    let settled = c.self.inside.settled.items in
    let changes = c.self.inside.changes.items in
    let r = c.index-in-Ok-find_place.result.now in
    let not = subst (λ (xs : List Row). IsFound w xs (Err c.in_default.field-0)) c.deref.ensures.value c.in_default.ensures in
    let found = subst (λ (xs : List Row). IsFound w xs (Ok c.in-Ok-find_place.place)) c.deref-2.ensures.value c.in-Ok-find_place.ensures in
    ap (λ (q : FeedRows). beside w q.rows) (sym c.self.view_is)
    ∙ beside-other-rows w changes settled c.self.invariant.0 (found-none w changes c.in_default.field-0 c.self.invariant.1 not)
    ∙ found-there w settled c.in-Ok-find_place.place r c.self.invariant.0 found c.index-in-Ok-find_place.ensures

pub returns-in-Err : goal.returns-in-Err
returns-in-Err c =
    let w = c.args.level.now in
    let settled = c.self.inside.settled.items in
    let changes = c.self.inside.changes.items in
    let not = subst (λ (xs : List Row). IsFound w xs (Err c.in_default.field-0)) c.deref.ensures.value c.in_default.ensures in
    let none = subst (λ (xs : List Row). IsFound w xs (Err c.in-Err.field-0)) c.deref-2.ensures.value c.in-Err.ensures in
    ap (λ (q : FeedRows). beside w q.rows) (sym c.self.view_is)
    ∙ beside-other-rows w changes settled c.self.invariant.0 (found-none w changes c.in_default.field-0 c.self.invariant.1 not)
    ∙ found-not-there w settled c.in-Err.field-0 c.self.invariant.0 none
