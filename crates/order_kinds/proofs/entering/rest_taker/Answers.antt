use Rattle.std.proofs.Common.{ℕ, Option, ap, ◌∙◌}
use Rattle.plain_book.specs.Book.{book_placed}
use Rattle.order_kinds.specs.Entering.{as_limit}
use Rattle.order_kinds.proofs.entering.rest_taker.Goals as goal

pub returns : goal.returns
returns g c = (
  c.rest.result.0,
  c.rest.ensures.placed ∙ ap (λ (top : Option ℕ). book_placed c.rest.result.0 (as_limit c.args.taker.now.order) top (g.B.Book.book c.args.book.now)) c.top_min.ensures,
)
