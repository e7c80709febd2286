use Rattle.std.proofs.Common.{◌≡◌, ◌-◌, ◌∙◌, length, sym, ap, arith, rules}
use Rattle.std.proofs.lemmas.Bool.{OnTrue_from}
use Rattle.std.proofs.lemmas.List.{nil_from_length}
use Rattle.std.proofs.lemmas.Option.{slice_get_within, get_or_from_slice_get}
use Rattle.level_feed.specs.declared.row.Row.{Row}
use Rattle.level_feed.specs.Rows.{row_before}
use Rattle.level_feed.proofs.Compared.{no_row}
use Rattle.level_feed.proofs.KeptApart.{with-row-last, all-before-last}
use Rattle.level_feed.proofs.settling.comes_last.Goals as goal

pub returns-in-Some : goal.returns-in-Some
returns-in-Some c =
    let rows = c.args.settled.now in
    let row = c.args.row.now in
    let last = length rows - 1 in
    let is = sym c.in-Some.ensures.value in
    let within = slice_get_within rows last c.in-Some.last.now is in
    let here = get_or_from_slice_get rows last c.in-Some.last.now no_row is in
    let none : length c.args.changes.now ≡ 0 = search rules in
    OnTrue_from c.is_before.result _ (λ h. (
      nil_from_length c.args.changes.now none,
      with-row-last row rows c.requires.shown
          (all-before-last row rows last c.requires.ordered (omega arith) (ap (λ (x : Row). row_before x row) here ∙ sym c.is_before.ensures ∙ h)),
    ))
