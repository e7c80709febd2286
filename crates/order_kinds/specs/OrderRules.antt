-- The rules that refuse a new order or a replace, as far as both have them. They, their order and their words are our own.
use Rattle.std.specs.Prelude.{ℕ, Bool, false, ◌&&◌, ◌||◌, nat_le, if◌then◌else◌, List, pos, Option, Some, None, unwrap_or, slice_index_or, Result, Ok, Err}
use Rattle.gx_base.specs.declared.limits.TheConstants.{MOST_LOTS}
use Rattle.gx_base.specs.declared.price.Price.{Price}
use Rattle.gx_base.specs.declared.order.Side.{Side}
use Rattle.gx_base.specs.declared.order.Kind.{Kind}
use Rattle.gx_base.specs.declared.order.Kind.TheVariants.{Limit, Market, StopLimit}
use Rattle.fix_request.specs.declared.request.Px.{Px}
use Rattle.plain_book.specs.Orders.{is_better}
pub use Rattle.book_order.specs.Reached.{is_reached}
use Rattle.order_kinds.specs.Instruments.{ListedInstrument, tick_of, is_off_tick, price_at}

-- ---- one rule after the other

-- up to the first that refuses
infixl 10 ◌>>=◌
abbrev pub ◌>>=◌ : {A B F : Type 0} → Result A F → (A → Result B F) → Result B F
(Ok a) >>= rest = rest a
(Err f) >>= rest = Err f

abbrev pub refused_where : {F : Type 0} → Bool → F → Result (Unit {0}) F
refused_where holds f = if holds then Err f else Ok tt

-- ---- quantities and ticks

-- 1 to 999,999 lots
abbrev pub is_quantity : ℕ → Bool
is_quantity lots = nat_le 1 lots && nat_le lots MOST_LOTS

-- a price or a stop price that the instrument does not have
abbrev pub has_off_tick : ListedInstrument → Px → Px → Bool
has_off_tick instrument price stop = let tick = tick_of instrument.rule in is_off_tick tick price || is_off_tick tick stop

-- ---- stop prices

-- a stop price, where there is one; an order that is no stop has 0
abbrev pub stop_price : Px → Price
stop_price px = unwrap_or (price_at px) (record { 0 = pos 0 })

-- the price is on the wrong side of the stop price: below it for a buy, above it for a sell
abbrev pub is_beyond_stop : Side → Option Price → Option Price → Bool
is_beyond_stop side (Some price) (Some stop) = is_better side stop.0 price.0
is_beyond_stop side _ _ = false

-- a stop limit order whose price is on the wrong side of its stop price; no order of another kind
abbrev pub has_bad_stop : Kind → Side → Px → Px → Bool
has_bad_stop StopLimit side price stop = is_beyond_stop side (price_at price) (price_at stop)
has_bad_stop Limit side price stop = false
has_bad_stop Market side price stop = false

-- the last trade price, if there was a trade, reaches the stop price, if there is one
abbrev pub is_reached_already : Side → Option Price → Option Price → Bool
is_reached_already side (Some stop) (Some last) = is_reached side stop last
is_reached_already side _ _ = false

-- a stop limit order whose stop price the last trade price reaches, if there was a trade; no order of another kind
abbrev pub is_stop_reached : Kind → Side → Px → Option Price → Bool
is_stop_reached StopLimit side stop last = is_reached_already side (price_at stop) last
is_stop_reached Limit side stop last = false
is_stop_reached Market side stop last = false

-- the last trade price of an instrument, if there was a trade; none of an instrument that is not listed
abbrev pub last_of : ℕ → List (Option Price) → Option Price
last_of instrument last = slice_index_or last instrument None
