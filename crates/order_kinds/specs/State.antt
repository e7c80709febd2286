-- The state of the engine: the live orders, the last trade prices, the counters, and the trading session.
use Rattle.std.specs.Prelude.{List, length, replicate, Option, None}
use Rattle.gx_base.specs.declared.limits.TheConstants.{ADDRESSEES}
use Rattle.gx_base.specs.declared.price.Price.{Price}
use Rattle.gx_base.specs.declared.order.Desk.{Desk}
use Rattle.gx_base.specs.declared.trading.Trading.{Trading}
use Rattle.gx_base.specs.declared.trading.Trading.TheVariants.{Open}
use Rattle.plain_book.specs.Book.{Book, empty_book}
use Rattle.plain_book.specs.Numbers.{book_numbered}
use Rattle.product_file.specs.Products.{ProductLists}

pub record State : Type 0 where
  -- The live orders. In the state of the engine the slot of an order is its number; in that of a core it is where the book
  -- keeps it.
  pub book : Book
  -- by instrument: the price of its last trade, if there was one
  pub last : List (Option Price)
  pub desk : Desk
  -- whether the market is open
  pub trading : Trading

-- each order by its number
abbrev pub state_numbered : State → State
state_numbered state = record state { book = book_numbered state.book }

abbrev pub empty_desk : Desk
empty_desk = record { messages = 0; orders = 0; reports = 0; trades = 0; lines = replicate ADDRESSEES 0 }

-- no order, room for as many as the product allows, no trade, all counters 0, and an open market
abbrev pub empty_state : ProductLists → State
empty_state product =
    let instruments = length product.names.instruments in
    record { book = empty_book product.max_orders instruments; last = replicate instruments None; desk = empty_desk; trading = Open }
