-- The trading sessions: while the market is closed only orders that are good till cancelled (GTC) are live, so the others expire when
-- it closes. That they expire is as the exchange has it for orders of the day; that stops of every other life do too is our own rule.
use Rattle.std.specs.Prelude.{◌≡◌, ℕ, Bool, true, false, not, List, [], ◌∷◌, filter}
use Rattle.std.specs.List.{AllByRecursion}
use Rattle.gx_base.specs.declared.order.Life.{Life}
use Rattle.gx_base.specs.declared.order.Life.TheVariants.{Day, Gtc, Fak, Fok}
use Rattle.gx_base.specs.declared.order.Order.{Order}
use Rattle.gx_base.specs.declared.order.Desk.{Desk}
use Rattle.gx_base.specs.declared.event.Head.{Head}
use Rattle.gx_base.specs.declared.event.Event.{Event}
use Rattle.gx_base.specs.declared.event.Event.TheVariants as event
use Rattle.gx_base.specs.declared.trading.Trading.{Trading}
use Rattle.gx_base.specs.declared.trading.Trading.TheVariants.{Open, Closed}
use Rattle.fix_request.specs.declared.request.SessionChange.{SessionChange}
use Rattle.plain_book.specs.declared.entry.Entry.{Entry}
use Rattle.plain_book.specs.Book.{Book, live_orders}
use Rattle.plain_book.specs.Match.{report_counted, next_head}
use Rattle.order_kinds.specs.State.{State}
use Rattle.order_kinds.specs.Entering.{closed}

-- ---- who stays

abbrev pub is_until_cancelled : Life → Bool
is_until_cancelled Gtc = true
is_until_cancelled Day = false
is_until_cancelled Fak = false
is_until_cancelled Fok = false

abbrev pub AreUntilCancelled : List Entry → Type 0
AreUntilCancelled es = AllByRecursion (λ (e : Entry). is_until_cancelled e.order.life ≡ true) es

abbrev pub stays : Entry → Bool
stays e = is_until_cancelled e.order.life

abbrev pub expires : Entry → Bool
expires e = not (stays e)

-- the orders that a close ends: the resting ones in book order, and then the waiting stops in theirs
abbrev pub expiring : Book → List Entry
expiring book = filter expires (live_orders book)

-- The orders that it leaves. If a TOP order expires, its side has no TOP any more.
abbrev pub book_closed : Book → Book
book_closed book = record book { resting = filter stays book.resting; waiting = filter stays book.waiting }

-- ---- what is reported

-- an order expires: nothing of it is open or shown any more
abbrev pub expired : Head → Order → Event
expired head o = event.Expired head (closed o) o.leaves

-- Each of these orders is reported to its firm, one after the other, at this time: the counters after that, and the events.
abbrev pub expiry_reports : List ℕ → List Entry → Desk → Desk × List Event
expiry_reports time [] desk = (desk, [])
expiry_reports time (e ∷ es) desk =
    let o = e.order in
    let others = expiry_reports time es (report_counted desk o.firm) in
    (others.0, expired (next_head desk o.firm time) o ∷ others.1)

-- ---- a change of the session

-- the market closes
abbrev pub market_closed : List ℕ → State → State × List Event
market_closed time state =
    let reported = expiry_reports time (expiring state.book) state.desk in
    (record state { book = book_closed state.book; desk = reported.0; trading = Closed }, reported.1)

-- To this session, from that one, at a time. A change to the present session changes nothing.
abbrev pub session_changed : Trading → Trading → List ℕ → State → State × List Event
session_changed Closed Open time state = market_closed time state
session_changed Open Closed time state = (record state { trading = Open }, [])
session_changed Open Open time state = (state, [])
session_changed Closed Closed time state = (state, [])

abbrev pub session_step : SessionChange → State → State × List Event
session_step change state = session_changed change.to state.trading change.time state
