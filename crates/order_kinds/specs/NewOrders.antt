-- New orders: which are refused, and the order that is accepted. The rules, their order and their words are our own.
use Rattle.std.specs.Prelude.{ℕ, Bool, true, false, not, ◌&&◌, ◌||◌, ◌==◌, nat_lt, length, pos, Option, Some, option_map, unwrap_or, Result, Ok, ok_or}
use Rattle.gx_base.specs.declared.price.Price.{Price}
use Rattle.gx_base.specs.declared.order.Kind.TheVariants.{Limit, Market, StopLimit}
use Rattle.gx_base.specs.declared.order.Kind.{Kind}
use Rattle.gx_base.specs.declared.order.Life.{Life}
use Rattle.gx_base.specs.declared.order.Life.TheVariants.{Day, Gtc, Fak, Fok}
use Rattle.gx_base.specs.declared.order.Order.{Order}
use Rattle.gx_base.specs.declared.event.NewFault.{NewFault}
use Rattle.gx_base.specs.declared.event.NewFault.TheVariants as fault
use Rattle.product_file.specs.Products.{ProductLists}
use Rattle.fix_request.specs.declared.request.NewOrder.{NewOrder}
use Rattle.fix_request.specs.declared.request.Px.{Px}
use Rattle.plain_book.specs.Orders.{is_live, best_of, opposite}
use Rattle.plain_book.specs.Book.{Book, live_orders}
use Rattle.order_kinds.specs.Instruments.{ListedInstrument, instrument_of, price_at, protected_limit}
use Rattle.order_kinds.specs.State.{State}
use Rattle.order_kinds.specs.OrderRules.{◌>>=◌, refused_where, is_quantity, has_off_tick, has_bad_stop, is_stop_reached, last_of, stop_price}

-- ---- rules that refuse

-- what is not filled of an order of this life at once may rest
abbrev pub may_rest : Life → Bool
may_rest Day = true
may_rest Gtc = true
may_rest Fak = false
may_rest Fok = false

-- a minimum above the quantity, or one of an order that may rest
abbrev pub has_bad_min : NewOrder → Bool
has_bad_min new = nat_lt new.quantity new.min || (may_rest new.life && nat_lt 0 new.min)

-- the price of a message of a limit order, which has one
abbrev pub own_price : Px → Price
own_price px = unwrap_or (price_at px) (record { 0 = pos 0 })

-- The price at which an order is entered: its own, or for a market order the protected limit. There is none exactly if it is
-- a market order and no order rests on the other side.
abbrev pub limit_of : Kind → ListedInstrument → NewOrder → Book → Option Price
limit_of Market instrument new book = option_map (protected_limit instrument.rule new.side) (best_of instrument.number (opposite new.side) book.resting)
limit_of Limit instrument new book = Some (own_price new.price)
limit_of StopLimit instrument new book = Some (own_price new.price)

-- what an accepted order has besides the message: its instrument, and its limit
pub record Terms : Type 0 where
  pub instrument : ListedInstrument
  pub limit : Price

-- the terms of a new order, or the first of these rules that refuses it
abbrev pub terms_of : ProductLists → NewOrder → State → Result Terms NewFault
terms_of product new state = do
  instrument ← ok_or (instrument_of product new.named) fault.Symbol
  _ ← refused_where (is_live new.sender.firm new.id (live_orders state.book)) fault.Duplicate
  _ ← refused_where (not (is_quantity new.quantity)) fault.Quantity
  _ ← refused_where (has_off_tick instrument new.price new.trigger) fault.Tick
  _ ← refused_where (has_bad_stop new.kind new.side new.price new.trigger) fault.StopLimit
  _ ← refused_where (is_stop_reached new.kind new.side new.trigger (last_of instrument.number state.last)) fault.StopReached
  _ ← refused_where (has_bad_min new) fault.MinQty
  _ ← refused_where (nat_lt new.quantity new.show) fault.Show
  _ ← refused_where (length (live_orders state.book) == product.max_orders) fault.BookFull
  limit ← ok_or (limit_of new.kind instrument new state.book) fault.NoMarket
  Ok (record { instrument = instrument; limit = limit })

-- ---- the order that is accepted

-- the least that has to be open for it: all of it for an order that is filled whole or not at all (FOK)
abbrev pub least_of : Life → NewOrder → ℕ
least_of Fok new = new.quantity
least_of Day new = new.min
least_of Gtc new = new.min
least_of Fak new = new.min

-- the order of a message on these terms, with its number
abbrev pub order_on : Terms → NewOrder → ℕ → Order
order_on terms new number = record {
  number = number;
  firm = new.sender.firm;
  instrument = terms.instrument.number;
  side = new.side;
  id = new.id;
  kind = new.kind;
  price = terms.limit;
  trigger = stop_price new.trigger;
  quantity = new.quantity;
  filled = 0;
  leaves = new.quantity;
  show = new.show;
  shown = 0;
  min = least_of new.life new;
  life = new.life;
  prorated = 0;
}
