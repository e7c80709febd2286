-- The place of the first thing that is wrong with an image: our own rule. Its length is tried first, then each counter, part and
-- row in the order of their places, then the byte of the session, and the TOP orders last. Each fault has the place where that
-- counter, part, row or byte begins.
use Rattle.std.specs.Prelude.{ℕ, zero, suc, ◌+◌, ◌*◌, ◌^◌, Bool, false, ◌&&◌, ◌||◌, ◌==◌, nat_lt, nat_le, if◌then◌else◌, List, [], ◌∷◌, length, Option, Some, None}
use Rattle.std.specs.Ordering.{int_eq}
use Rattle.std.specs.List.{list_any}
use Rattle.gx_base.specs.FirstFault.{fault_if, first_fault}
use Rattle.gx_base.specs.declared.limits.TheConstants.{ADDRESSEES}
use Rattle.gx_base.specs.declared.price.Price.{Price}
use Rattle.gx_base.specs.declared.order.Side.{Side}
use Rattle.gx_base.specs.declared.order.Side.TheVariants.{Buy, Sell}
use Rattle.gx_base.specs.declared.order.Order.{Order}
use Rattle.gx_base.specs.declared.trading.Trading.{Trading}
use Rattle.product_file.specs.Products.{ProductLists, has_top_by}
use Rattle.plain_book.specs.Orders.{is_side}
use Rattle.order_kinds.specs.declared.core_state.TheConstants.{MOST_MESSAGES}
use Rattle.match_journal.specs.declared.entry.EntryKind.{EntryKind}
use Rattle.book_image.specs.declared.format.TheConstants.{DESK_BYTES, INSTRUMENT_BYTES, COUNT_BYTES, ROW_BYTES}
use Rattle.book_image.specs.Rows.{byte_at, number_at, count_at, price_at, bytes_at, row_at, order_of_row}
use Rattle.book_image.specs.Kinds.{part_of, session_of, trading_of}
use Rattle.book_image.specs.Rules.{is_price_of, is_right_resting_row, is_right_waiting_row, may_live}
use Rattle.std.specs.Prelude.{slice_get}

-- ---- places

-- an instrument's part
abbrev pub part_place : ℕ → ℕ
part_place i = DESK_BYTES + INSTRUMENT_BYTES * i

-- the number of resting orders, and the first of their rows
abbrev pub resting_place : ℕ → ℕ
resting_place instruments = part_place instruments

abbrev pub resting_rows : ℕ → ℕ
resting_rows instruments = resting_place instruments + COUNT_BYTES

abbrev pub resting_count : ℕ → List ℕ → ℕ
resting_count instruments payload = count_at payload (resting_place instruments)

-- the number of waiting stops, and the first of their rows
abbrev pub waiting_place : ℕ → List ℕ → ℕ
waiting_place instruments payload = resting_rows instruments + ROW_BYTES * resting_count instruments payload

abbrev pub waiting_rows : ℕ → List ℕ → ℕ
waiting_rows instruments payload = waiting_place instruments payload + COUNT_BYTES

abbrev pub waiting_count : ℕ → List ℕ → ℕ
waiting_count instruments payload = count_at payload (waiting_place instruments payload)

-- the place after the last row
abbrev pub rows_end : ℕ → List ℕ → ℕ
rows_end instruments payload = waiting_rows instruments payload + ROW_BYTES * waiting_count instruments payload

-- the orders of the first rows of some
abbrev pub orders_at : List ℕ → ℕ → ℕ → List Order
orders_at payload at zero = []
orders_at payload at (suc n) = order_of_row (bytes_at payload at ROW_BYTES) ∷ orders_at payload (at + ROW_BYTES) n

-- ---- the length

-- It ends where its counts say: before that, its length is answered; after it, the place where it should end.
abbrev pub length_fault : ℕ → List ℕ → Option ℕ
length_fault instruments payload =
    let n = length payload in
    first_fault (
    fault_if (nat_lt n (resting_rows instruments)) n
    ∷ fault_if (nat_lt n (waiting_rows instruments payload)) n
    ∷ fault_if (nat_lt n (rows_end instruments payload)) n
    ∷ fault_if (nat_lt (rows_end instruments payload) n) (rows_end instruments payload)
    ∷ [])

-- ---- counters and parts

-- The place of the first of some parts that is wrong. They are of one size, from a place on.
abbrev pub wrong_place : (ℕ → Bool) → ℕ → ℕ → ℕ → ℕ → Option ℕ
wrong_place is_right at size k zero = None
wrong_place is_right at size k (suc n) = if is_right k then wrong_place is_right at size (k + 1) n else Some (at + size * k)

-- fewer messages than a core takes, no more orders than messages, and no other counter above 2 ^ 38 for each message
abbrev pub desk_fault : List ℕ → Option ℕ
desk_fault payload =
    let messages = number_at payload 0 in
    first_fault (
    fault_if (nat_le MOST_MESSAGES messages) 0
    ∷ fault_if (nat_lt messages (number_at payload 8)) 8
    ∷ wrong_place (λ k. nat_le (number_at payload (16 + 8 * k)) (messages * 2 ^ 38)) 16 8 0 (ADDRESSEES + 2)
    ∷ [])

-- 1 and a price of the instrument, or 0 and zeros
abbrev pub is_right_last : ProductLists → List ℕ → ℕ → Bool
is_right_last product payload i =
    let at = part_place i in
    ((byte_at payload at == 1) && is_price_of product i (price_at payload (at + 1)))
    || ((byte_at payload at == 0) && (number_at payload (at + 1) == 0))

-- ---- TOP

-- the order number of the TOP order of a side, 0 for none
abbrev pub top_at : List ℕ → ℕ → Side → ℕ
top_at payload i Buy = number_at payload (part_place i + 9)
top_at payload i Sell = number_at payload (part_place i + 17)

-- an order of a side
abbrev pub is_order_on : ℕ → Side → Order → Bool
is_order_on i side o = (o.instrument == i) && is_side o.side side

abbrev pub has_price : Price → Order → Bool
has_price price o = int_eq o.price.0 price.0

-- one of these, which stand in book order, is of the side, has the number, and stands at the side's best price
abbrev pub is_at_best : ℕ → Side → ℕ → List Order → Bool
is_at_best i side number [] = false
is_at_best i side number (o ∷ os) =
    if is_order_on i side o then list_any (λ (x : Order). is_order_on i side x && has_price o.price x && (x.number == number)) (o ∷ os)
    else is_at_best i side number os

abbrev pub is_right_top : ProductLists → List ℕ → List Order → ℕ → Side → Bool
is_right_top product payload resting i side =
    let number = top_at payload i side in
    (number == 0) || (has_top_by (slice_get product.rules i) && is_at_best i side number resting)

abbrev pub has_right_tops : ProductLists → List ℕ → List Order → ℕ → Bool
has_right_tops product payload resting i = is_right_top product payload resting i Buy && is_right_top product payload resting i Sell

-- ---- all of it

-- The place of the first fault in the bytes of the old form, without the TOP orders. The life of each order is tried with its row.
abbrev pub parts_fault : Trading → ProductLists → List ℕ → Option ℕ
parts_fault trading product part =
    let instruments = length product.names.instruments in
    let given = number_at part 8 in
    let resting = orders_at part (resting_rows instruments) in
    let waiting = orders_at part (waiting_rows instruments part) in
    let rest = resting_count instruments part in
    let wait = waiting_count instruments part in
    first_fault (
    length_fault instruments part
    ∷ desk_fault part
    ∷ wrong_place (is_right_last product part) DESK_BYTES INSTRUMENT_BYTES 0 instruments
    ∷ fault_if (nat_lt product.max_orders rest) (resting_place instruments)
    ∷ wrong_place (λ k. let row = row_at part (resting_rows instruments) k in
    is_right_resting_row product given (resting k) row && may_live trading (order_of_row row)) (resting_rows instruments) ROW_BYTES 0 rest
    ∷ fault_if (nat_lt product.max_orders (rest + wait)) (waiting_place instruments part)
    ∷ wrong_place (λ k. let row = row_at part (waiting_rows instruments part) k in
    is_right_waiting_row product given (resting rest) (waiting k) row && may_live trading (order_of_row row)) (waiting_rows instruments part) ROW_BYTES 0 wait
    ∷ [])

-- the place of the first instrument whose TOP orders are wrong
abbrev pub tops_fault : ProductLists → List ℕ → Option ℕ
tops_fault product part =
    let instruments = length product.names.instruments in
    let resting = orders_at part (resting_rows instruments) (resting_count instruments part) in
    wrong_place (has_right_tops product part resting) DESK_BYTES INSTRUMENT_BYTES 0 instruments

-- The place of the first fault of a payload as an image of this kind of a state of this product, or none if it is right. The byte of
-- the session is tried after the rows, and the TOP orders last. An image of the old form has no such byte.
abbrev pub image_fault : EntryKind → ProductLists → List ℕ → Option ℕ
image_fault kind product payload =
    let part = part_of kind payload in
    let session = session_of kind payload in
    first_fault (
    parts_fault (trading_of session) product part
    ∷ fault_if (nat_lt 1 session) (length part)
    ∷ tops_fault product part
    ∷ [])
