use Rattle.std.proofs.Common.{List, sym, subst, arith}
use Rattle.std.specs.Prelude.{vec_capacity}
use Rattle.std.specs.Option.{option_map}
use Rattle.plain_book.specs.declared.entry.Entry.{Entry}
use Rattle.plain_book.specs.Book.{Book, CanBeTop, slot_number}
use Rattle.plain_book.specs.Inner.FreeSlots.{book_of, IsKept}
use Rattle.plain_book.proofs.Kept.{kept-marked}
use Rattle.plain_book.proofs.plain.PlainBookBook.set_top.Goals as goal

pub invariant_of-self : goal.invariant_of-self
invariant_of-self c =
    let p = c.self.inside in
    let xs = p.resting.items in
    let b = book_of p.capacity p.instruments xs p.waiting.items in
    let top = option_map slot_number c.args.slot in
    let can : CanBeTop c.args.instrument c.args.side top xs = subst (λ (x : Book). CanBeTop c.args.instrument c.args.side top x.resting) (sym c.self.view_is) c.requires.best in
    let e = c.mark_top.ensures in
    let er = vec_capacity c.mark_top.new.entries in
    let wr = vec_capacity p.waiting in
    let fr = vec_capacity p.free in
    subst (λ (l : List Entry). IsKept (book_of p.capacity p.instruments l p.waiting.items) er wr p.free.items fr) (sym e.entries)
    (kept-marked b (vec_capacity p.resting) wr p.free.items fr er wr fr c.self.invariant (omega (arith, e.capacity)) (omega arith) (omega arith) c.args.instrument c.args.side top can)
