-- The terms of a new order, as the code holds them.
use Rattle.std.specs.Prelude.{◌≡◌, ◌<◌, ◌≤◌, pos, ◌≤ℤ◌, false, List, length, Result, Ok, Err}
use Rattle.std.specs.List.{AllByRecursion}
use Rattle.gx_base.specs.declared.limits.TheConstants.{MOST_FIRMS, MOST_LOTS}
use Rattle.gx_base.specs.declared.order.Kind.TheVariants.{StopLimit}
use Rattle.gx_base.specs.declared.event.NewFault.{NewFault}
use Rattle.gx_base.specs.declared.event.ChangeFault.{ChangeFault}
use Rattle.product_file.specs.declared.product.InstrumentRule.{InstrumentRule}
use Rattle.fix_request.specs.declared.request.NewOrder.{NewOrder}
use Rattle.plain_book.specs.declared.entry.Entry.{Entry}
use Rattle.plain_book.specs.Orders.{is_live}
use Rattle.plain_book.specs.Book.{live_orders}
use Rattle.order_kinds.specs.declared.instruments.Instrument.{Instrument}
use Rattle.order_kinds.specs.declared.new_orders.Terms as code
use Rattle.order_kinds.specs.Instruments.{ListedInstrument}
use Rattle.order_kinds.specs.State.{State}
use Rattle.order_kinds.specs.NewOrders.{Terms}
use Rattle.order_kinds.specs.OrderRules.{stop_price}
use Rattle.order_kinds.specs.Cores.{IsInRange}

-- the rule of an instrument that a product lists
pub record IsRule (rule : InstrumentRule) : Type 0 where
  pub least_tick : pos 1 ≤ℤ rule.tick
  pub most_tick : rule.tick ≤ℤ pos 1000000
  pub protection : rule.protection ≤ 10000

abbrev pub listed_instrument : Instrument → ListedInstrument
listed_instrument instrument = record { number = instrument.number; rule = instrument.rule.now }

abbrev pub terms_seen : code.Terms → Terms
terms_seen terms = record { instrument = listed_instrument terms.instrument; limit = terms.limit }

abbrev pub map_terms : Result code.Terms NewFault → Result Terms NewFault
map_terms (Ok terms) = Ok (terms_seen terms)
map_terms (Err f) = Err f

abbrev pub map_instrument : Result Instrument ChangeFault → Result ListedInstrument ChangeFault
map_instrument (Ok instrument) = Ok (listed_instrument instrument)
map_instrument (Err f) = Err f

-- each order's price is within the price range
abbrev pub ArePricesInRange : List Entry → Type 0
ArePricesInRange es = AllByRecursion (λ (e : Entry). IsInRange e.order.price) es

-- A new order that no rule refused, on these terms: its instrument is one of the book's and has a last trade price or none,
-- there is room for it, and where it is no stop limit order it has no stop price.
pub record IsAccepted (state : State) (terms : Terms) (new : NewOrder) : Type 0 where
  pub listed : terms.instrument.number < state.book.instruments
  pub priced : terms.instrument.number < length state.last
  pub firm : new.sender.firm < MOST_FIRMS
  pub unnamed : is_live new.sender.firm new.id (live_orders state.book) ≡ false
  pub spare : length (live_orders state.book) < state.book.capacity
  pub some : 1 ≤ new.quantity
  pub small : new.quantity ≤ MOST_LOTS
  pub show : new.show ≤ new.quantity
  pub no_stop : (new.kind ≡ StopLimit → ⊥) → stop_price new.trigger ≡ record { 0 = pos 0 }
