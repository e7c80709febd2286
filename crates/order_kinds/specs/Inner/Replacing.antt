-- What holds of a replace that no rule refused.
use Rattle.std.specs.Prelude.{◌≡◌, ◌<◌, ◌≤◌, false}
use Rattle.gx_base.specs.declared.limits.TheConstants.{MOST_LOTS}
use Rattle.gx_base.specs.declared.order.Kind.TheVariants.{StopLimit}
use Rattle.gx_base.specs.declared.order.Order.{Order}
use Rattle.fix_request.specs.declared.request.Px.TheVariants.{Absent}
use Rattle.fix_request.specs.declared.request.ReplaceOrder.{ReplaceOrder}
use Rattle.plain_book.specs.Orders.{is_live}
use Rattle.plain_book.specs.Book.{Book, live_orders}

-- The order of the firm can be as it asks: its name is free, more is wanted than is filled and no less than is shown at a time,
-- and it gives a stop price only to a stop limit order.
pub record IsAllowed (b : Book) (request : ReplaceOrder) (o : Order) : Type 0 where
  pub own : o.firm ≡ request.sender.firm
  pub unnamed : is_live request.sender.firm request.id (live_orders b) ≡ false
  pub more : o.filled < request.quantity
  pub small : request.quantity ≤ MOST_LOTS
  pub show : o.show ≤ request.quantity
  pub no_stop : (o.kind ≡ StopLimit → ⊥) → request.trigger ≡ Absent
