-- The instrument of an order, and the prices that it has.
use Rattle.std.specs.Prelude.{ℕ, ◌*◌, ◌/◌, ◌%◌, ◌+ℤ◌, ◌-ℤ◌, neg_ℤ, Bool, true, false, not, ◌==◌, ℤ, pos, int_lt, unsigned_abs, if◌then◌else◌, slice_get, Option, Some, None, option_map}
use Rattle.gx_base.specs.declared.limits.TheConstants.{MOST_PRICE_UNITS}
use Rattle.gx_base.specs.declared.order.Side.{Side}
use Rattle.gx_base.specs.declared.order.Side.TheVariants.{Buy, Sell}
use Rattle.gx_base.specs.declared.price.Price.{Price}
use Rattle.product_file.specs.Products.{ProductLists}
use Rattle.product_file.specs.declared.product.InstrumentRule.{InstrumentRule}
use Rattle.fix_request.specs.declared.request.Named.{Named}
use Rattle.fix_request.specs.declared.request.Named.TheVariants.{Known, Unknown}
use Rattle.fix_request.specs.declared.request.Px.{Px}
use Rattle.fix_request.specs.declared.request.Px.TheVariants.{Absent, At, Between}

-- an instrument, by its number, with its rule
pub record ListedInstrument : Type 0 where
  pub number : ℕ
  pub rule : InstrumentRule

-- the instrument that a message names, if there is one
abbrev pub instrument_of : ProductLists → Named → Option ListedInstrument
instrument_of product Unknown = None
instrument_of product (Known number) = option_map (λ rule. record { number = number; rule = rule }) (slice_get product.rules number)

-- ---- ticks

-- the least step of an instrument's prices, in price units
abbrev pub tick_of : InstrumentRule → ℕ
tick_of rule = unsigned_abs rule.tick

-- a price that has a non-zero digit below the decimals, or is no multiple of the tick
abbrev pub is_off_tick : ℕ → Px → Bool
is_off_tick tick Absent = false
is_off_tick tick Between = true
is_off_tick tick (At price) = not (unsigned_abs price.0 % tick == 0)

-- the price of a message, if it has one
abbrev pub price_at : Px → Option Price
price_at (At price) = Some price
price_at Absent = None
price_at Between = None

-- ---- the protected limit of a market order

-- the greatest multiple of the tick within the price range
abbrev pub greatest_price : ℕ → ℤ
greatest_price tick = pos (MOST_PRICE_UNITS / tick * tick)

-- a price, or the last multiple of the tick on the way there where it is beyond the price range
abbrev pub within_range : ℕ → ℤ → ℤ
within_range tick price =
    if int_lt (pos MOST_PRICE_UNITS) price then greatest_price tick
    else if int_lt price (neg_ℤ (pos MOST_PRICE_UNITS)) then neg_ℤ (greatest_price tick)
    else price

-- so many ticks above a price for a buy, below it for a sell
abbrev pub beyond : Side → ℤ → ℕ → ℤ
beyond Buy price units = price +ℤ pos units
beyond Sell price units = price -ℤ pos units

-- the limit of a market order: the best opposite price and the protection, within the price range
abbrev pub protected_limit : InstrumentRule → Side → Price → Price
protected_limit rule side best = let tick = tick_of rule in record { 0 = within_range tick (beyond side best.0 (rule.protection * tick)) }
