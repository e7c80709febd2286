use Rattle.std.proofs.Common.{◌≡◌, ◌∙◌, ◌++◌, ◌∷◌, List, sym, subst, take, drop, rules}
use Rattle.plain_book.specs.declared.entry.Entry.{Entry}
use Rattle.plain_book.specs.Orders.{placed, is_at_earlier_level}
use Rattle.plain_book.specs.Book.{EachPair, AreInBookOrder}
use Rattle.plain_book.proofs.Sorted.{put_at, book-order}
use Rattle.plain_book.proofs.edits.put_in.Goals as goal

pub returns-clause-entries : goal.returns-clause-entries
returns-clause-entries c =
    let i = c.place_of-at.result in
    let n = c.args.entry in
    let ordered = subst (EachPair AreInBookOrder) (sym c.deref.ensures.value) c.requires.ordered in
    let e = c.place_of-at.ensures in
    let at : placed n c.args.entries.now.items ≡ take i c.args.entries.now.items ++ n ∷ drop i c.args.entries.now.items =
    subst (λ (xs : List Entry). placed n xs ≡ take i xs ++ n ∷ drop i xs) c.deref.ensures.value (put_at is_at_earlier_level book-order n c.deref.result.now i ordered e.within e.before e.here) in
    let is : c.insert.new.self.items ≡ take i c.args.entries.now.items ++ n ∷ drop i c.args.entries.now.items = search rules in
    is ∙ sym at
