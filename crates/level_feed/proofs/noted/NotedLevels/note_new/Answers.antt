use Rattle.std.proofs.Common.{◌≡◌, ◌≤◌, ◌∙◌, Bool, List, cond, length, sym, ap, subst, arith}
use Rattle.std.specs.List.{insert}
use Rattle.std.proofs.lemmas.List.Edits.{length-insert}
use Rattle.level_feed.specs.declared.noted.TheConstants.{MOST_NOTED}
use Rattle.level_feed.specs.declared.row.Row.{Row}
use Rattle.level_feed.specs.Rows.{is_gone, level_of_row, with_row, AreOrdered}
use Rattle.level_feed.specs.Noted.{Noted, noted_new}
use Rattle.level_feed.specs.Inner.{IsNewPlace}
use Rattle.level_feed.proofs.Compared.{no_row}
use Rattle.level_feed.proofs.Lengths.{ordered-with-row}
use Rattle.level_feed.proofs.Placed.{inserted-new}
use Rattle.level_feed.proofs.Noting.{new-fits}
use Rattle.level_feed.proofs.noted.NotedLevels.note_new.Goals as goal

pub invariant_of-self-2 : goal.invariant_of-self-2
invariant_of-self-2 c =
    let rows = c.self.inside.levels.items in
    let row = c.args.row in
    let place = c.args.place in
    let new : IsNewPlace row rows place = subst (λ (n : Noted). IsNewPlace row n.levels place) (sym c.self.view_is) c.requires.place in
    let within = new.0.within in
    let inserted : c.insert.new.self.items ≡ insert rows place row = c.insert.ensures.items ∙ ap (λ (b : Bool). cond b (insert rows place row) rows) c.if-is_err.ensures.negation in
    let is = inserted-new row rows place c.self.invariant.1 new.0 (new.1 no_row) (ap is_gone c.requires.noting) in
    let few : length c.insert.new.self.items ≤ MOST_NOTED = omega (arith, ap length inserted, length-insert rows place row within, c.len.ensures, c.self.inside.levels.ok) in
    let room = c.self.invariant.2 in
    (few, subst AreOrdered (sym (inserted ∙ is)) (ordered-with-row row rows c.self.invariant.1), omega (arith, c.insert.ensures.capacity))

pub returns : goal.returns
returns c =
    let rows = c.self.inside.levels.items in
    let row = c.args.row in
    let place = c.args.place in
    let k = level_of_row row in
    let new : IsNewPlace row rows place = subst (λ (n : Noted). IsNewPlace row n.levels place) (sym c.self.view_is) c.requires.place in
    let inserted : c.insert.new.self.items ≡ insert rows place row = c.insert.ensures.items ∙ ap (λ (b : Bool). cond b (insert rows place row) rows) c.if-is_err.ensures.negation in
    let is = inserted-new row rows place c.self.invariant.1 new.0 (new.1 no_row) (ap is_gone c.requires.noting) in
    let old : Noted = record { any = c.self.inside.any; levels = rows } in
    let with : Noted = record { any = c.self.inside.any; levels = with_row row rows } in
    ap (λ (q : List Row). record with { levels = q }) (inserted ∙ is)
    ∙ ap (λ (r : Row). record with { levels = with_row r rows }) c.requires.noting
    ∙ sym (new-fits k old (omega (arith, c.len.ensures, c.self.inside.levels.ok)))
    ∙ ap (noted_new k) c.self.view_is
