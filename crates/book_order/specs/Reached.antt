-- Which stop prices trades reach. Our own rule.
use Rattle.std.specs.Prelude.{Bool, not}
use Rattle.gx_base.specs.declared.price.Price.{Price}
use Rattle.gx_base.specs.declared.order.Side.{Side}
use Rattle.gx_base.specs.declared.order.Side.TheVariants.{Buy, Sell}
use Rattle.book_order.specs.Levels.{is_better}

-- a trade price reaches a stop price: it is not below that of a buy, not above that of a sell
abbrev pub is_reached : Side → Price → Price → Bool
is_reached side stop price = not (is_better side stop.0 price.0)

-- the end of a range of trade prices that reaches the most stops of a side: the greatest price for buys, the least for sells
abbrev pub stop_end : Side → Price × Price → Price
stop_end Buy range = range.1
stop_end Sell range = range.0

-- some price of the range reaches a stop price
abbrev pub is_in_reach : Price × Price → Side → Price → Bool
is_in_reach range side stop = is_reached side stop (stop_end side range)
