-- Price levels, and the order in which a book keeps them.
use Rattle.std.specs.Prelude.{ℕ, ℤ, Bool, true, false, not, ◌&&◌, ◌||◌, int_lt, nat_lt, ◌==◌}
use Rattle.std.specs.Ordering.{int_eq}
use Rattle.gx_base.specs.declared.price.Price.{Price}
use Rattle.gx_base.specs.declared.order.Side.{Side}
use Rattle.gx_base.specs.declared.order.Side.TheVariants.{Buy, Sell}

-- ---- sides and prices

abbrev pub is_side : Side → Side → Bool
is_side Buy Buy = true
is_side Buy Sell = false
is_side Sell Buy = false
is_side Sell Sell = true

-- buy comes before sell
abbrev pub side_before : Side → Side → Bool
side_before Buy Buy = false
side_before Buy Sell = true
side_before Sell side = false

abbrev pub opposite : Side → Side
opposite Buy = Sell
opposite Sell = Buy

-- a is a better price than b: a higher one for a buy, a lower one for a sell
abbrev pub is_better : Side → ℤ → ℤ → Bool
is_better Buy a b = int_lt b a
is_better Sell a b = int_lt a b

-- a price of this side that the limit of an order of the other side allows: not above it for a buy, not below it for a
-- sell
abbrev pub is_within : Side → ℤ → ℤ → Bool
is_within side limit price = not (is_better side limit price)

-- ---- levels

-- the instrument, side and price at which an order stands
pub record Level : Type 0 where
  pub instrument : ℕ
  pub side : Side
  pub price : ℤ

abbrev pub level : ℕ → Side → Price → Level
level instrument side price = record { instrument = instrument; side = side; price = price.0 }

abbrev pub is_level : Level → Level → Bool
is_level a b = (a.instrument == b.instrument) && (is_side a.side b.side && int_eq a.price b.price)

-- a stands before b: the earlier instrument, buy before sell, the better price
abbrev pub is_before : Level → Level → Bool
is_before a b =
    nat_lt a.instrument b.instrument
    || ((a.instrument == b.instrument) && (side_before a.side b.side || (is_side a.side b.side && is_better a.side a.price b.price)))
