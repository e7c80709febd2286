-- Bounds on the stop prices of some stops.
use Rattle.std.specs.Prelude.{◌≡◌, false, Option, Some, None}
use Rattle.gx_base.specs.declared.price.Price.{Price}
use Rattle.gx_base.specs.declared.order.Side.{Side}
use Rattle.gx_base.specs.declared.order.Side.TheVariants.{Buy, Sell}
use Rattle.book_order.specs.Levels.{is_better}
use Rattle.waiting_stops.specs.declared.bound.Bound.{Bound}
use Rattle.waiting_stops.specs.declared.queue.Wait.{Wait}

-- the stop price that trades reach first, of a side
abbrev pub bound_of : Side → Bound → Price
bound_of Buy b = b.lowest_buy
bound_of Sell b = b.highest_sell

-- no trade reaches the stop before it reaches the bound
abbrev pub IsCovered : Bound → Wait → Type 0
IsCovered b w = is_better w.side (bound_of w.side b).0 w.trigger.0 ≡ false

-- of a place: no stop is there, or it is covered
abbrev pub IsPlaceCovered : Bound → Option Wait → Type 0
IsPlaceCovered b None = Unit {0}
IsPlaceCovered b (Some w) = IsCovered b w
