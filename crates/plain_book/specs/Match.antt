-- One trade of a resting order and the incoming one, with its reports: our own rule, after the exchange's published outline.
use Rattle.std.specs.Prelude.{ℕ, ◌+◌, ◌-◌, ◌==◌, int_lt, Bool, true, false, if◌then◌else◌, List, [], ◌∷◌, ◌++◌, slice_index, slice_set, Option, Some, None}
use Rattle.gx_base.specs.declared.price.Price.{Price}
use Rattle.gx_base.specs.declared.order.Order.{Order}
use Rattle.gx_base.specs.declared.order.Desk.{Desk}
use Rattle.gx_base.specs.declared.order.Taker.{Taker}
use Rattle.gx_base.specs.declared.event.Head.{Head}
use Rattle.gx_base.specs.declared.event.StepName.{StepName}
use Rattle.gx_base.specs.declared.event.StepName.TheVariants.{Top, Lmm, Split, ProRata, Leveling, Fifo}
use Rattle.gx_base.specs.declared.event.Event.{Event}
use Rattle.gx_base.specs.declared.event.Event.TheVariants.{Fill}
use Rattle.plain_book.specs.Orders.{order_of, filled_by}
use Rattle.plain_book.specs.Book.{Book, book_traded, book_with_order}

-- the state of a match, with the events from its start on
pub record MatchState : Type 0 where
  pub book : Book
  pub desk : Desk
  pub taker : Taker
  pub events : List Event

-- the state of a match that starts
abbrev pub match_start : Book → Desk → Taker → MatchState
match_start book desk taker = record { book = book; desk = desk; taker = taker; events = [] }

-- ---- reports

-- the head of the next execution report, which goes to this firm
abbrev pub next_head : Desk → ℕ → List ℕ → Head
next_head desk firm time = record { firm = Some firm; line = slice_index desk.lines firm + 1; report = desk.reports + 1; time = time }

-- the counters after it
abbrev pub report_counted : Desk → ℕ → Desk
report_counted desk firm = record desk { reports = desk.reports + 1; lines = slice_set desk.lines firm (slice_index desk.lines firm + 1) }

-- an execution report on an order goes to the order's firm
abbrev pub report : (Head → Order → Event) → Order → MatchState → MatchState
report event o m = record m {
  desk = report_counted m.desk o.firm;
  events = m.events ++ event (next_head m.desk o.firm m.taker.time) o ∷ [];
}

-- ---- one trade

-- the lots are traded of the incoming order
abbrev pub taken_by : ℕ → Order → Order
taken_by lots o = record o { filled = o.filled + lots; leaves = o.leaves - lots }

abbrev pub lower : Price → Price → Price
lower a b = if int_lt a.0 b.0 then a else b

abbrev pub higher : Price → Price → Price
higher a b = if int_lt a.0 b.0 then b else a

-- the least and the greatest price so far, with this one
abbrev pub lengthened : Price → Option (Price × Price) → Option (Price × Price)
lengthened price None = Some (price, price)
lengthened price (Some range) = Some (lower range.0 price, higher range.1 price)

abbrev pub fill : ℕ → Price → StepName → ℕ → Head → Order → Event
fill lots price step trade head o = Fill head o lots price step trade

-- The order of a slot gives lots to the incoming one, at its own price. Its report comes first, and shows it before it is
-- refreshed.
abbrev pub trade : StepName → ℕ → ℕ → MatchState → MatchState
trade step slot lots m =
    let resting = order_of slot m.book.resting in
    let given = filled_by lots resting in
    let taken = taken_by lots m.taker.order in
    let number = m.desk.trades + 1 in
    let traded = record m {
      book = book_traded slot lots m.book;
      desk = record m.desk { trades = number };
      taker = record m.taker { order = taken; range = lengthened resting.price m.taker.range };
    } in
    report (fill lots resting.price step number) taken (report (fill lots resting.price step number) given traded)

-- ---- the shares of a step

-- a share of 0 gives no trade
abbrev pub trade_if_any : StepName → ℕ → ℕ → MatchState → MatchState
trade_if_any step slot lots m = if lots == 0 then m else trade step slot lots m

abbrev pub is_prorata : StepName → Bool
is_prorata ProRata = true
is_prorata Top = false
is_prorata Lmm = false
is_prorata Split = false
is_prorata Leveling = false
is_prorata Fifo = false

-- the order of a slot is share_noted with a share
abbrev pub book_share_noted : ℕ → ℕ → Book → Book
book_share_noted slot lots b = book_with_order slot (record (order_of slot b.resting) { prorated = lots }) b

-- the pro rata step notes its share on an order
abbrev pub share_noted : StepName → ℕ → ℕ → MatchState → MatchState
share_noted step slot lots m = record m { book = if is_prorata step then book_share_noted slot lots m.book else m.book }

-- the order of a slot trades its share in a step
abbrev pub trade_share : StepName → ℕ → ℕ → MatchState → MatchState
trade_share step slot lots m = trade_if_any step slot lots (share_noted step slot lots m)

-- a slot, and the lots that its order trades
abbrev pub Share : Type 0
Share = ℕ × ℕ

-- one share after the other
abbrev pub trade_shares : StepName → List Share → MatchState → MatchState
trade_shares step [] m = m
trade_shares step (share ∷ shares) m = trade_shares step shares (trade_share step share.0 share.1 m)
