-- What collecting does to a core, on the orders as its book keeps them.
use Rattle.std.specs.Prelude.{◌≡◌, ℕ, ◌≤◌, ◌+◌}
use Rattle.gx_base.specs.declared.order.Desk.{Desk}
use Rattle.plain_book.specs.Book.{AllDiffer, live_orders}
use Rattle.order_kinds.specs.State.{State}

-- the step was taken, with some name for an order that comes to rest, and slots still differ
pub record Collects (step : (ℕ → ℕ) → State → State) (old new : State) : Type 0 where
  pub name : ℕ
  pub state : new ≡ step (λ number. name) old
  pub differ : AllDiffer (live_orders new.book)

-- no counter rose but that of the orders
pub record OrdersRose (old new : Desk) : Type 0 where
  pub messages : new.messages ≡ old.messages
  pub orders : new.orders ≤ old.orders + 1
  pub trades : new.trades ≡ old.trades
  pub reports : new.reports ≡ old.reports
  pub lines : new.lines ≡ old.lines
