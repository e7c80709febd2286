use Rattle.std.proofs.Common.{◌≡◌, ◌∙◌, ◌++◌, ◌∷◌, List, sym, subst, take, drop, rules}
use Rattle.plain_book.specs.declared.entry.Entry.{Entry}
use Rattle.plain_book.specs.Orders.{lined_up, is_of_earlier_instrument}
use Rattle.plain_book.specs.Book.{EachPair, AreInLine}
use Rattle.plain_book.proofs.Sorted.{put_at, line-order}
use Rattle.plain_book.proofs.edits.line_up.Goals as goal

pub returns-clause-entries : goal.returns-clause-entries
returns-clause-entries c =
    let i = c.stop_place_of-at.result in
    let n = c.args.entry in
    let ordered = subst (EachPair AreInLine) (sym c.deref.ensures.value) c.requires.lined in
    let e = c.stop_place_of-at.ensures in
    let at : lined_up n c.args.entries.now.items ≡ take i c.args.entries.now.items ++ n ∷ drop i c.args.entries.now.items =
    subst (λ (xs : List Entry). lined_up n xs ≡ take i xs ++ n ∷ drop i xs) c.deref.ensures.value (put_at is_of_earlier_instrument line-order n c.deref.result.now i ordered e.within e.before e.here) in
    let is : c.insert.new.self.items ≡ take i c.args.entries.now.items ++ n ∷ drop i c.args.entries.now.items = search rules in
    is ∙ sym at
