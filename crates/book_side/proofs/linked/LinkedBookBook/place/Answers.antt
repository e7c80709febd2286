use Rattle.std.proofs.Common.{◌≡◌, ◌∙◌, ℕ, ap, subst, sym}
use Rattle.gx_base.specs.declared.order.Order.{Order}
use Rattle.plain_book.specs.Book.{IsFitToRest, as_limit, book_placed}
use Rattle.book_side.proofs.linked.LinkedBookBook.place.Goals as goal

-- an order that is fit to rest is a limit order without a minimum
is_limit : {instruments : ℕ} (o : Order) → IsFitToRest instruments o → as_limit o ≡ o
is_limit o fit = λ j. record o { kind = sym fit.kind j; min = sym fit.no_min j }

pub rest-requires-clause-fit : goal.rest-requires-clause-fit
rest-requires-clause-fit c = subst (IsFitToRest c.args.self.now.instruments) (sym (is_limit c.args.order c.requires.fit)) c.requires.fit

pub returns-clause-placed : goal.returns-clause-placed
returns-clause-placed c =
    c.rest.ensures.placed ∙ ap (λ (o : Order). book_placed c.rest.result.0 o c.args.top_min c.args.self.now) (is_limit c.args.order c.requires.fit)
