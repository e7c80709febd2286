-- What is kept of the rows that were looked at, while an image is checked.
use Rattle.std.specs.Prelude.{◌≡◌, ℕ, ◌+◌, ◌*◌, ◌^◌, ◌<◌, ◌==◌, bytes_eq, Bool, true, false, not, ◌&&◌, ◌||◌, if◌then◌else◌, nat_lt, nat_le, List, [], ◌∷◌, length, Option, Some, None}
use Rattle.std.specs.List.{list_any}
use Rattle.gx_base.specs.FirstFault.{fault_if, first_fault}
use Rattle.gx_base.specs.declared.limits.TheConstants.{ADDRESSEES, MOST_LOTS}
use Rattle.gx_base.specs.declared.price.Price.{Price}
use Rattle.gx_base.specs.declared.order.Side.{Side}
use Rattle.gx_base.specs.declared.order.Side.TheVariants.{Buy}
use Rattle.gx_base.specs.declared.order.Kind.TheVariants.{StopLimit}
use Rattle.gx_base.specs.declared.order.Order.{Order}
use Rattle.gx_base.specs.declared.trading.Trading.{Trading}
use Rattle.gx_base.specs.Orders.{blank_order}
use Rattle.product_file.specs.Products.{ProductLists}
use Rattle.order_kinds.specs.OrderRules.{is_quantity}
use Rattle.plain_book.specs.Orders.{is_before, is_side, level_of, is_live}
use Rattle.plain_book.specs.Book.{Book, live_orders}
use Rattle.book_image.specs.declared.format.TheConstants.{DESK_BYTES, INSTRUMENT_BYTES, ROW_BYTES}
use Rattle.book_image.specs.declared.check_rows.Front.{Front}
use Rattle.book_image.specs.declared.check_rows.Asked.{Asked}
use Rattle.book_image.specs.Rows.{number_at, row_at, order_of_row, has_forms}
use Rattle.book_image.specs.Rules.{is_price_of, is_right_order, is_right_resting, is_right_waiting, crosses, has_same_name, is_in_book_order, is_uncrossed, is_right_resting_row, is_right_waiting_row, may_live}
use Rattle.book_image.specs.Faults.{wrong_place, resting_place, resting_rows, resting_count, waiting_place, waiting_rows, waiting_count, orders_at, length_fault, desk_fault, is_right_last, has_right_tops, is_order_on, has_price, is_at_best}

-- ---- a row by itself

-- the two parts of what is asked of each order
abbrev pub has_right_terms : ProductLists → ℕ → Order → Bool
has_right_terms product given o =
    nat_le 1 o.number && nat_le o.number given
    && nat_lt o.firm (length product.names.firms)
    && nat_lt o.instrument (length product.names.instruments)
    && is_price_of product o.instrument o.price

abbrev pub has_right_lots : Order → Bool
has_right_lots o =
    is_quantity o.quantity
    && (o.filled + o.leaves == o.quantity)
    && nat_le 1 o.leaves
    && nat_le o.show o.quantity
    && nat_le o.prorated MOST_LOTS

-- ---- parts and rows

-- each part before this one is right
abbrev pub AreRightBelow : (ℕ → Bool) → ℕ → Type 0
AreRightBelow is_right n = (k : ℕ) → k < n → is_right k ≡ true

-- a counter of reports, trades or lines is not above what so many messages can have brought
abbrev pub is_right_counter : ℕ → List ℕ → ℕ → Bool
is_right_counter messages payload k = nat_le (number_at payload (16 + 8 * k)) (messages * 2 ^ 38)

-- the first counter of reports, trades or lines that is above what so many messages can have brought
abbrev pub counters_fault : ℕ → List ℕ → Option ℕ
counters_fault messages payload = wrong_place (is_right_counter messages payload) 16 8 0 (ADDRESSEES + 2)

-- the first last trade price that is wrong
abbrev pub lasts_fault : ProductLists → List ℕ → Option ℕ
lasts_fault product payload = wrong_place (is_right_last product payload) DESK_BYTES INSTRUMENT_BYTES 0 (length product.names.instruments)

-- the first fault before the rows
abbrev pub head_fault : ProductLists → List ℕ → Option ℕ
head_fault product payload = first_fault (length_fault (length product.names.instruments) payload ∷ desk_fault payload ∷ lasts_fault product payload ∷ [])

-- a resting row, and a waiting one, by itself
abbrev pub is_resting_alone : ProductLists → Asked → List ℕ → Bool
is_resting_alone product asked row =
    let o = order_of_row row in has_forms row && is_right_order product asked.given o && is_right_resting o && may_live asked.trading o

abbrev pub is_waiting_alone : ProductLists → Asked → List ℕ → Bool
is_waiting_alone product asked row =
    let o = order_of_row row in has_forms row && is_right_order product asked.given o && is_right_waiting product o && may_live asked.trading o

-- a resting row after these orders, and a waiting one after these resting and these waiting ones
abbrev pub is_right_resting_after : ProductLists → Asked → List Order → List ℕ → Bool
is_right_resting_after product asked before row = is_right_resting_row product asked.given before row && may_live asked.trading (order_of_row row)

abbrev pub is_right_waiting_after : ProductLists → Asked → List Order → List Order → List ℕ → Bool
is_right_waiting_after product asked resting before row =
    is_right_waiting_row product asked.given resting before row && may_live asked.trading (order_of_row row)

-- a resting row after those before it, by its number, and a waiting one after these resting orders
abbrev pub is_right_resting_at : ProductLists → Asked → List ℕ → ℕ → ℕ → Bool
is_right_resting_at product asked payload first k = is_right_resting_after product asked (orders_at payload first k) (row_at payload first k)

abbrev pub is_right_waiting_at : ProductLists → Asked → List Order → List ℕ → ℕ → ℕ → Bool
is_right_waiting_at product asked resting payload first k =
    is_right_waiting_after product asked resting (orders_at payload first k) (row_at payload first k)

-- the first of so many resting rows that is wrong
abbrev pub resting_fault : ProductLists → Asked → List ℕ → ℕ → ℕ → Option ℕ
resting_fault product asked payload first count =
    wrong_place (is_right_resting_at product asked payload first) first ROW_BYTES 0 count

-- the first of so many waiting rows that is wrong, after these resting orders
abbrev pub waiting_fault : ProductLists → Asked → List Order → List ℕ → ℕ → ℕ → Option ℕ
waiting_fault product asked resting payload first count =
    wrong_place (is_right_waiting_at product asked resting payload first) first ROW_BYTES 0 count

-- what is asked of the orders of a payload
abbrev pub asked_of : Trading → List ℕ → Asked
asked_of trading payload = record { given = number_at payload 8; trading = trading }

-- the first fault in the rows
abbrev pub rows_fault : Trading → ProductLists → List ℕ → Option ℕ
rows_fault trading product payload =
    let instruments = length product.names.instruments in
    let asked = asked_of trading payload in
    let rest = resting_count instruments payload in
    let wait = waiting_count instruments payload in
    let resting = orders_at payload (resting_rows instruments) rest in
    first_fault (
    fault_if (nat_lt product.max_orders rest) (resting_place instruments)
    ∷ resting_fault product asked payload (resting_rows instruments) rest
    ∷ fault_if (nat_lt product.max_orders (rest + wait)) (waiting_place instruments payload)
    ∷ waiting_fault product asked resting payload (waiting_rows instruments payload) wait
    ∷ [])

-- the first of the instruments whose TOP orders are wrong, beside these resting orders
abbrev pub tops_fault_beside : ProductLists → List ℕ → List Order → Option ℕ
tops_fault_beside product payload resting =
    wrong_place (has_right_tops product payload resting) DESK_BYTES INSTRUMENT_BYTES 0 (length product.names.instruments)

-- ---- names

-- the live orders of a book have the names of these
abbrev pub HasNames : Book → List Order → Type 0
HasNames book orders = (o : Order) → is_live o.firm o.id (live_orders book) ≡ list_any (has_same_name o) orders

-- a stop that is fit to wait, for its name alone
abbrev pub stop_named : ℕ → List ℕ → Order
stop_named firm id = record (blank_order id) { number = 1; firm = firm; kind = StopLimit; quantity = 1; leaves = 1 }

-- a book with this name and no other besides those of the one before
pub record TakesName (firm : ℕ) (id : List ℕ) (old new : Book) : Type 0 where
  pub names : (f : ℕ) (i : List ℕ) → is_live f i (live_orders new) ≡ (is_live f i (live_orders old) || ((firm == f) && bytes_eq id i))
  pub count : length (live_orders new) ≡ length (live_orders old) + 1

-- a book for the same orders
pub record IsAsMade (old new : Book) : Type 0 where
  pub capacity : new.capacity ≡ old.capacity
  pub instruments : new.instruments ≡ old.instruments

-- ---- the order of the book

-- it does not go back after the last order, if there is one
abbrev pub is_behind : Option Order → Order → Bool
is_behind None o = true
is_behind (Some last) o = not (is_before (level_of o) (level_of last))

-- the best buy order, if there is one, does not cross it
abbrev pub is_clear_of : Option Order → Order → Bool
is_clear_of None o = true
is_clear_of (Some best) o = not (crosses o best)

abbrev pub fits_behind : Front → Order → Bool
fits_behind front o = is_behind front.last o && is_clear_of front.best_buy o

abbrev pub is_of_instrument : ℕ → Option Order → Bool
is_of_instrument i None = false
is_of_instrument i (Some o) = o.instrument == i

-- the first buy order of the last instrument
abbrev pub best_buy_with : Option Order → Order → Option Order
best_buy_with best o = if is_side o.side Buy && not (is_of_instrument o.instrument best) then Some o else best

abbrev pub front_with : Front → Order → Front
front_with front o = record { last = Some o; best_buy = best_buy_with front.best_buy o }

-- a buy order, which is not after the last one
abbrev pub IsBestOf : Option Order → Option Order → Type 0
IsBestOf last None = Unit {0}
IsBestOf None (Some best) = ⊥
IsBestOf (Some last) (Some best) = (is_side best.side Buy ≡ true) × (is_before (level_of last) (level_of best) ≡ false)

-- the front tells of each order whether it may come after these
pub record IsFrontOf (orders : List Order) (front : Front) : Type 0 where
  pub behind : (o : Order) → is_in_book_order o orders ≡ is_behind front.last o
  pub clear : (o : Order) → is_behind front.last o ≡ true → is_uncrossed o orders ≡ is_clear_of front.best_buy o
  pub best : IsBestOf front.last front.best_buy

-- ---- TOP

-- an order of the side that has this number, at the best price, where that is known from the orders before
abbrev pub is_at_best_from : Option Price → ℕ → Side → ℕ → List Order → Bool
is_at_best_from None i side number os = is_at_best i side number os
is_at_best_from (Some best) i side number os = list_any (λ (x : Order). is_order_on i side x && has_price best x && (x.number == number)) os

-- that price, where an order more is known
abbrev pub best_with : Option Price → ℕ → Side → Order → Option Price
best_with None i side o = if is_order_on i side o then Some o.price else None
best_with (Some best) i side o = Some best

-- an order of the side that has this number, at that price
abbrev pub is_named_at : Option Price → ℕ → Side → ℕ → Order → Bool
is_named_at None i side number o = false
is_named_at (Some best) i side number o = is_order_on i side o && has_price best o && (o.number == number)
