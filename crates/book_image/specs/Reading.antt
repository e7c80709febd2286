-- The state that an image is read as (our own rule).
use Rattle.std.specs.Prelude.{ℕ, zero, suc, ◌+◌, true, false, ◌&&◌, ◌==◌, if◌then◌else◌, List, [], ◌∷◌, map, length, Option, Some, None}
use Rattle.gx_base.specs.declared.limits.TheConstants.{ADDRESSEES}
use Rattle.gx_base.specs.declared.price.Price.{Price}
use Rattle.gx_base.specs.declared.order.Side.{Side}
use Rattle.gx_base.specs.declared.order.Side.TheVariants.{Buy, Sell}
use Rattle.gx_base.specs.declared.order.Order.{Order}
use Rattle.gx_base.specs.declared.order.Desk.{Desk}
use Rattle.gx_base.specs.declared.trading.Trading.{Trading}
use Rattle.product_file.specs.Products.{ProductLists}
use Rattle.plain_book.specs.declared.entry.Entry.{Entry}
use Rattle.plain_book.specs.Orders.{is_on}
use Rattle.order_kinds.specs.State.{State}
use Rattle.match_journal.specs.declared.entry.EntryKind.{EntryKind}
use Rattle.book_image.specs.Rows.{byte_at, number_at, price_at}
use Rattle.book_image.specs.Kinds.{part_of, session_of, trading_of}
use Rattle.book_image.specs.Faults.{part_place, resting_rows, resting_count, waiting_rows, waiting_count, orders_at, top_at}

-- so many numbers of 8 bytes, from a place on
abbrev pub numbers_at : List ℕ → ℕ → ℕ → List ℕ
numbers_at payload at zero = []
numbers_at payload at (suc n) = number_at payload at ∷ numbers_at payload (at + 8) n

abbrev pub desk_of_image : List ℕ → Desk
desk_of_image payload = record {
  messages = number_at payload 0;
  orders = number_at payload 8;
  reports = number_at payload 16;
  trades = number_at payload 24;
  lines = numbers_at payload 32 ADDRESSEES;
}

-- the last trade price of an instrument
abbrev pub last_at : List ℕ → ℕ → Option Price
last_at payload i = if byte_at payload (part_place i) == 1 then Some (price_at payload (part_place i + 1)) else None

-- those of so many instruments, from this one on
abbrev pub lasts_at : List ℕ → ℕ → ℕ → List (Option Price)
lasts_at payload i zero = []
lasts_at payload i (suc n) = last_at payload i ∷ lasts_at payload (i + 1) n

-- an order in its list, named by its number, and not TOP
abbrev pub entry_of : Order → Entry
entry_of o = record { slot = o.number; order = o; is_top = false }

-- the first order of a side that has this number is TOP
abbrev pub with_first_top : ℕ → Side → ℕ → List Entry → List Entry
with_first_top i side number [] = []
with_first_top i side number (e ∷ es) =
    if is_on i side e && (e.order.number == number) then (record e { is_top = true }) ∷ es
    else e ∷ with_first_top i side number es

-- the TOP orders of an instrument
abbrev pub with_tops : List ℕ → ℕ → List Entry → List Entry
with_tops payload i es = with_first_top i Sell (top_at payload i Sell) (with_first_top i Buy (top_at payload i Buy) es)

-- those of so many instruments, from the first on
abbrev pub with_all_tops : List ℕ → ℕ → List Entry → List Entry
with_all_tops payload zero es = es
with_all_tops payload (suc n) es = with_tops payload n (with_all_tops payload n es)

-- the orders of the rows, in their order, with the TOP orders of all instruments
abbrev pub resting_of_image : ProductLists → List ℕ → List Entry
resting_of_image product payload =
    let instruments = length product.names.instruments in
    with_all_tops payload instruments (map entry_of (orders_at payload (resting_rows instruments) (resting_count instruments payload)))

abbrev pub waiting_of_image : ProductLists → List ℕ → List Entry
waiting_of_image product payload =
    let instruments = length product.names.instruments in
    map entry_of (orders_at payload (waiting_rows instruments payload) (waiting_count instruments payload))

-- The state of bytes of the old form, in a session. Each order is named by its number, as in the state of the engine.
abbrev pub state_of_part : Trading → ProductLists → List ℕ → State
state_of_part trading product payload =
    let instruments = length product.names.instruments in
    record {
      book = record {
        capacity = product.max_orders;
        instruments = instruments;
        resting = resting_of_image product payload;
        waiting = waiting_of_image product payload;
      };
      last = lasts_at payload 0 instruments;
      desk = desk_of_image payload;
      trading = trading;
    }

-- the state of a right image
abbrev pub state_of_image : EntryKind → ProductLists → List ℕ → State
state_of_image kind product payload = state_of_part (trading_of (session_of kind payload)) product (part_of kind payload)
