use Rattle.std.proofs.Common.{◌∙◌, List, Bool, Ok, Err, cond, ap, subst, sym}
use Rattle.std.specs.List.{insert}
use Rattle.level_feed.specs.declared.row.Row.{Row}
use Rattle.level_feed.specs.Rows.{AreOrdered}
use Rattle.level_feed.specs.Inner.{IsFound}
use Rattle.level_feed.proofs.Compared.{no_row}
use Rattle.level_feed.proofs.KeptApart.{ordered-with-change, change-set, change-inserted}
use Rattle.level_feed.proofs.settling.put_change.Goals as goal

pub returns-in-Ok-clause-put : goal.returns-in-Ok-clause-put
returns-in-Ok-clause-put c =
    let rows = c.args.changes.now.items in
    let found = subst (λ (xs : List Row). IsFound c.args.row xs (Ok c.in-Ok.place)) c.deref.ensures.value c.in-Ok.ensures in
    change-set c.args.row rows c.in-Ok.place c.requires.ordered found.1 found.0 (found.2 no_row)

pub returns-in-Ok-clause-ordered : goal.returns-in-Ok-clause-ordered
returns-in-Ok-clause-ordered c = subst AreOrdered (sym (returns-in-Ok-clause-put c)) (ordered-with-change c.args.row c.args.changes.now.items c.requires.ordered)

pub returns-else-is_err-clause-put : goal.returns-else-is_err-clause-put
returns-else-is_err-clause-put c =
    let rows = c.args.changes.now.items in
    let place = c.in-Err.place in
    let found = subst (λ (xs : List Row). IsFound c.args.row xs (Err place)) c.deref.ensures.value c.in-Err.ensures in
    c.insert.ensures.items
    ∙ ap (λ (b : Bool). cond b (insert rows place c.args.row) rows) c.if-is_err.ensures.negation
    ∙ change-inserted c.args.row rows place c.requires.ordered found.0 (found.1 no_row)

pub returns-else-is_err-clause-ordered : goal.returns-else-is_err-clause-ordered
returns-else-is_err-clause-ordered c = subst AreOrdered (sym (returns-else-is_err-clause-put c)) (ordered-with-change c.args.row c.args.changes.now.items c.requires.ordered)
