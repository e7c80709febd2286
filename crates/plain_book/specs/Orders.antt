-- Lists of live orders: what is asked of them, and what they become: our own rule, after the exchange's published outline.
--
-- A definition names an order by a number, its slot. In the contract of a call that is the order's slot in its
-- container. Where a state has no slots, it is the order's own number: the definitions are the same.
use Rattle.std.specs.Prelude.{◌≡◌, ℕ, ◌+◌, ◌-◌, min, Bool, true, false, not, ◌&&◌, ℤ, nat_lt, ◌==◌, if◌then◌else◌, List, [], ◌∷◌, ◌++◌, filter, map, sum_by, bytes_eq, Option, Some, None, ◌⊎◌, slice_index_or}
use Rattle.std.specs.List.{list_any}
use Rattle.gx_base.specs.declared.price.Price.{Price}
use Rattle.gx_base.specs.declared.order.Side.{Side}
use Rattle.gx_base.specs.declared.order.Order.{Order}
use Rattle.gx_base.specs.Orders.{blank_order}
pub use Rattle.book_order.specs.Levels.{is_side, side_before, opposite, is_better, is_within, Level, level, is_level, is_before}
use Rattle.plain_book.specs.declared.entry.Entry.{Entry}

-- ---- filters

abbrev pub level_of : Order → Level
level_of o = record { instrument = o.instrument; side = o.side; price = o.price.0 }

abbrev pub is_on : ℕ → Side → Entry → Bool
is_on instrument side e = (e.order.instrument == instrument) && is_side e.order.side side

abbrev pub is_at : Level → Entry → Bool
is_at k e = is_level (level_of e.order) k

-- the orders of one instrument and side
abbrev pub side_of : ℕ → Side → List Entry → List Entry
side_of instrument side es = filter (is_on instrument side) es

-- the orders of one level
abbrev pub orders_at : Level → List Entry → List Entry
orders_at k es = filter (is_at k) es

abbrev pub price_of : List Entry → Option Price
price_of [] = None
price_of (e ∷ es) = Some e.order.price

-- the best price of a side: the list is in book order, so it is that of the first
abbrev pub best_of : ℕ → Side → List Entry → Option Price
best_of instrument side es = price_of (side_of instrument side es)

-- the best of the prices that are worse than this one
abbrev pub worse_of : ℕ → Side → ℤ → List Entry → Option Price
worse_of instrument side price es = price_of (filter (λ e. is_better side price e.order.price.0) (side_of instrument side es))

-- the price of the last of some orders
abbrev pub last_price_or : Price → List Entry → Price
last_price_or p [] = p
last_price_or p (e ∷ es) = last_price_or e.order.price es

abbrev pub last_price_of : List Entry → Option Price
last_price_of [] = None
last_price_of (e ∷ es) = Some (last_price_or e.order.price es)

-- the worst price of a side: the list is in book order, so it is that of the last
abbrev pub worst_of : ℕ → Side → List Entry → Option Price
worst_of instrument side es = last_price_of (side_of instrument side es)

-- the worst of the prices that are better than this one
abbrev pub better_of : ℕ → Side → ℤ → List Entry → Option Price
better_of instrument side price es = last_price_of (filter (λ e. is_better side e.order.price.0 price) (side_of instrument side es))

-- what is open on a side within a limit, whether it is shown or not
abbrev pub open_within : ℕ → Side → ℤ → List Entry → ℕ
open_within instrument side limit es = sum_by (λ e. e.order.leaves) (filter (λ e. is_within side limit e.order.price.0) (side_of instrument side es))

-- what is shown at a level
abbrev pub shown_at : Level → List Entry → ℕ
shown_at k es = sum_by (λ e. e.order.shown) (orders_at k es)

-- what is open at a level, whether it is shown or not
abbrev pub open_at : Level → List Entry → ℕ
open_at k es = sum_by (λ e. e.order.leaves) (orders_at k es)

-- the waiting stops of an instrument
abbrev pub is_of : ℕ → Entry → Bool
is_of instrument e = e.order.instrument == instrument

abbrev pub stops_of : ℕ → List Entry → List Entry
stops_of instrument es = filter (is_of instrument) es

-- ---- one order, by its slot

abbrev pub HasSlot : ℕ → List Entry → Type 0
HasSlot slot [] = ⊥
HasSlot slot (e ∷ es) = (e.slot ≡ slot) ⊎ HasSlot slot es

abbrev pub no_order : Order
no_order = blank_order []

-- the order of a slot, or `no_order` where there is none
abbrev pub order_of : ℕ → List Entry → Order
order_of slot [] = no_order
order_of slot (e ∷ es) = if e.slot == slot then e.order else order_of slot es

-- the first slot
abbrev pub slot_of : List Entry → Option ℕ
slot_of [] = None
slot_of (e ∷ es) = Some e.slot

-- the slot after this one
abbrev pub slot_after : ℕ → List Entry → Option ℕ
slot_after slot [] = None
slot_after slot (e ∷ es) = if e.slot == slot then slot_of es else slot_after slot es

abbrev pub is_slot : ℕ → Entry → Bool
is_slot slot e = e.slot == slot

-- ---- one order, by its firm and the id that the firm gave it

abbrev pub is_named : ℕ → List ℕ → Entry → Bool
is_named firm id e = (e.order.firm == firm) && bytes_eq e.order.id id

-- an order of the firm has this id
abbrev pub is_live : ℕ → List ℕ → List Entry → Bool
is_live firm id es = list_any (is_named firm id) es

-- the slot of that order
abbrev pub slot_named : ℕ → List ℕ → List Entry → Option ℕ
slot_named firm id es = slot_of (filter (is_named firm id) es)

-- ---- what a list of orders becomes

abbrev pub without : ℕ → List Entry → List Entry
without slot es = filter (λ e. not (e.slot == slot)) es

abbrev pub reordered : ℕ → Order → Entry → Entry
reordered slot o e = if e.slot == slot then record e { order = o } else e

-- the order of a slot is now o, in its place
abbrev pub with_order : ℕ → Order → List Entry → List Entry
with_order slot o es = map (reordered slot o) es

-- e comes after n
abbrev pub is_at_earlier_level : Entry → Entry → Bool
is_at_earlier_level n e = is_before (level_of n.order) (level_of e.order)

-- n is put after every order whose instrument, side and price come before or equal its own
abbrev pub placed : Entry → List Entry → List Entry
placed n es = filter (λ e. not (is_at_earlier_level n e)) es ++ n ∷ filter (is_at_earlier_level n) es

-- a stop of a later instrument
abbrev pub is_of_earlier_instrument : Entry → Entry → Bool
is_of_earlier_instrument n e = nat_lt n.order.instrument e.order.instrument

-- n is put after the stops of its instrument, and of those before it
abbrev pub lined_up : Entry → List Entry → List Entry
lined_up n es = filter (λ e. not (is_of_earlier_instrument n e)) es ++ n ∷ filter (is_of_earlier_instrument n) es

-- ---- TOP: the order that bettered the market, which a mark names

abbrev pub top_of : ℕ → Side → List Entry → Option ℕ
top_of instrument side es = slot_of (filter (λ e. e.is_top) (side_of instrument side es))

abbrev pub is_best_price : Side → ℤ → Option Price → Bool
is_best_price side price None = true
is_best_price side price (Some best) = is_better side price best.0

-- o is better than every order of its side
abbrev pub is_new_best : Order → List Entry → Bool
is_new_best o es = is_best_price o.side o.price.0 (best_of o.instrument o.side es)

abbrev pub is_slot_in : Option ℕ → ℕ → Bool
is_slot_in None slot = false
is_slot_in (Some top) slot = slot == top

abbrev pub topped : ℕ → Side → Option ℕ → Entry → Entry
topped instrument side top e = record e { is_top = if is_on instrument side e then is_slot_in top e.slot else e.is_top }

-- the order of this slot is TOP of its side, and no other; or none is
abbrev pub with_top : ℕ → Side → Option ℕ → List Entry → List Entry
with_top instrument side top es = map (topped instrument side top) es

-- ---- one trade of a resting order

-- the lots are traded
abbrev pub filled_by : ℕ → Order → Order
filled_by lots o = record o { filled = o.filled + lots; leaves = o.leaves - lots; shown = o.shown - lots }

-- the next part of it is shown
abbrev pub refreshed : Order → Order
refreshed o = record o { shown = min o.show o.leaves }

-- The order of a slot has become o by a trade. Where nothing is open, it leaves. Where nothing is shown any more, it is
-- refreshed and goes after the last order of its price. Else it stays. In the first two cases it is TOP no more.
abbrev pub settled : ℕ → Order → List Entry → List Entry
settled slot o es =
    if o.leaves == 0 then without slot es
    else (if o.shown == 0 then placed (record { slot = slot; order = refreshed o; is_top = false }) (without slot es)
    else with_order slot o es)

abbrev pub traded : ℕ → ℕ → List Entry → List Entry
traded slot lots es = settled slot (filled_by lots (order_of slot es)) es

-- ---- elements by their index

abbrev pub no_entry : Entry
no_entry = record { slot = 0; order = no_order; is_top = false }

abbrev pub entry_at : List Entry → ℕ → Entry
entry_at es i = slice_index_or es i no_entry
