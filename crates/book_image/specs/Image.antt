-- A book image: a state of the engine as bytes (our own rule).
--
-- The counters of messages, orders, execution reports and trades come first, 8 bytes each, and then the counters of report lines,
-- one for each addressee. Then comes each instrument of the product: 1 and its last trade price, or 0 and zeros; and the order
-- numbers of its TOP orders, of the buys and then of the sells, 0 for none. Then the number of resting orders in 4 bytes, a row
-- for each of them in book order, the number of waiting stops, and a row for each of these. The last byte is 1 if the market is
-- open, and 0 if it is closed.
--
-- An image of the old form is the same without its last byte.
use Rattle.std.specs.Prelude.{ℕ, zero, suc, ◌+◌, ◌*◌, List, [], ◌∷◌, ◌++◌, flat_map, filter, length, Option, Some, None}
use Rattle.gx_base.specs.declared.price.Price.{Price}
use Rattle.gx_base.specs.declared.order.Side.{Side}
use Rattle.gx_base.specs.declared.order.Side.TheVariants.{Buy, Sell}
use Rattle.gx_base.specs.declared.order.Desk.{Desk}
use Rattle.gx_base.specs.declared.trading.Trading.{Trading}
use Rattle.gx_base.specs.declared.trading.Trading.TheVariants.{Open, Closed}
use Rattle.plain_book.specs.declared.entry.Entry.{Entry}
use Rattle.plain_book.specs.Orders.{side_of}
use Rattle.order_kinds.specs.State.{State}
use Rattle.order_kinds.specs.OrderRules.{last_of}
use Rattle.book_image.specs.Rows.{number_bytes, count_bytes, price_bytes, order_row}

abbrev pub desk_bytes : Desk → List ℕ
desk_bytes desk =
    number_bytes desk.messages
    ++ number_bytes desk.orders
    ++ number_bytes desk.reports
    ++ number_bytes desk.trades
    ++ flat_map number_bytes desk.lines

abbrev pub last_bytes : Option Price → List ℕ
last_bytes None = 0 ∷ number_bytes 0
last_bytes (Some price) = 1 ∷ price_bytes price

-- the number of the first of these, 0 for none
abbrev pub first_number : List Entry → ℕ
first_number [] = 0
first_number (e ∷ es) = e.order.number

-- the order number of the TOP order of a side, 0 for none
abbrev pub top_number : ℕ → Side → List Entry → ℕ
top_number instrument side es = first_number (filter (λ (e : Entry). e.is_top) (side_of instrument side es))

abbrev pub instrument_bytes : State → ℕ → List ℕ
instrument_bytes state i =
    last_bytes (last_of i state.last)
    ++ number_bytes (top_number i Buy state.book.resting)
    ++ number_bytes (top_number i Sell state.book.resting)

-- so many instruments, from this one on
abbrev pub instruments_bytes : State → ℕ → ℕ → List ℕ
instruments_bytes state i zero = []
instruments_bytes state i (suc count) = instrument_bytes state i ++ instruments_bytes state (i + 1) count

-- how many orders these are, and their rows
abbrev pub entry_row : Entry → List ℕ
entry_row e = order_row e.order

abbrev pub rows_bytes : List Entry → List ℕ
rows_bytes es = count_bytes (length es) ++ flat_map entry_row es

-- all but the session: the whole of an image of the old form
abbrev pub old_image_of : State → List ℕ
old_image_of state =
    desk_bytes state.desk
    ++ instruments_bytes state 0 state.book.instruments
    ++ rows_bytes state.book.resting
    ++ rows_bytes state.book.waiting

abbrev pub session_byte : Trading → ℕ
session_byte Open = 1
session_byte Closed = 0

abbrev pub image_of : State → List ℕ
image_of state = old_image_of state ++ session_byte state.trading ∷ []

-- how many bytes the image of a book has
abbrev pub image_len : ℕ → ℕ → ℕ
image_len instruments orders = 561 + 25 * instruments + 82 * orders
