use Rattle.std.proofs.Common.{◌∙◌}
use Rattle.plain_book.specs.Book.{live_orders}
use Rattle.order_kinds.proofs.Terms.{found-live}
use Rattle.order_kinds.proofs.new_orders.has_id.Goals as goal

pub returns : goal.returns
returns g c = c.is_some.ensures ∙ found-live c.args.firm c.args.id.now (live_orders (g.B.Book.book c.args.book.now)) c.find.result c.find.ensures
