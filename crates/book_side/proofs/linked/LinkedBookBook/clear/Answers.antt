use Rattle.std.proofs.Common.{◌≡◌, ℕ, ap, subst, ◌∙◌, arith}
use Rattle.plain_book.specs.Book.{Book, live_orders, empty_book}
use Rattle.book_side.specs.Inner.Steps.{AreFrom}
use Rattle.book_side.proofs.Cleared.{cleared}
use Rattle.book_side.proofs.linked.LinkedBookBook.clear.Goals as goal

pub returns : goal.returns
returns c =
    let b = c.loop-instrument.self in
    let was = c.loop-instrument.invariant in
    let now = c.args.self.now in
    let all : c.loop-instrument.instrument ≡ b.instruments = omega (arith, was.1, c.loop-instrument.auto.instrument-end, c.loop-instrument-test.false, ap (λ (y : Book). y.instruments) c.self.view_is) in
    cleared b c.rules.ensures (subst (λ (i : ℕ). AreFrom i (live_orders b)) all was.2) ∙ ap (λ (m : ℕ). empty_book m b.instruments) was.0 ∙ ap (λ (m : ℕ). empty_book now.capacity m) was.1
