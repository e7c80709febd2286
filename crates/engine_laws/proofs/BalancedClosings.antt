-- A change of the trading session keeps what has been told of the open orders: at a close each order that expires is open no more.
use Rattle.std.proofs.Common.{◌≡◌, ℕ, ◌+◌, ◌≤◌, List, [], ◌∷◌, ◌++◌, filter, length, refl, sym, ap, subst, arith, sum_by, append_assoc, length-append}
use Rattle.std.proofs.lemmas.List.{append-nil}
use Rattle.std.proofs.lemmas.List.Elements.{filter-append}
use Rattle.std.proofs.lemmas.List.Filters.{length-filter_both}
use Rattle.std.proofs.lemmas.List.Sums.{sum_by-cons, sum_by-append}
use Rattle.std.proofs.lemmas.List.Sorted.{IsPermutation-map, IsPermutation-filter_both}
use Rattle.std.specs.List.{AllByRecursion}
use Rattle.gx_base.specs.declared.order.Desk.{Desk}
use Rattle.gx_base.specs.declared.order.Order.{Order}
use Rattle.gx_base.specs.declared.event.Head.{Head}
use Rattle.gx_base.specs.declared.event.Event.{Event}
use Rattle.gx_base.specs.declared.trading.Trading.{Trading}
use Rattle.gx_base.specs.declared.trading.Trading.TheVariants.{Open, Closed}
use Rattle.fix_request.specs.declared.request.SessionChange.{SessionChange}
use Rattle.plain_book.specs.declared.entry.Entry.{Entry}
use Rattle.plain_book.specs.Book.{Book, live_orders}
use Rattle.plain_book.specs.Match.{report_counted, next_head}
use Rattle.plain_book.proofs.Pairs.{all-filter}
use Rattle.order_kinds.specs.State.{State}
use Rattle.order_kinds.specs.Entering.{closed}
use Rattle.order_kinds.specs.TradingSessions.{stays, expires, expiring, book_closed, expired, expiry_reports, market_closed, session_changed, session_step}
use Rattle.order_kinds.specs.Balance.{ArePaired, total_cancelled, cancelled_in}
use Rattle.engine_laws.specs.Bounds.{asked_in, total_asked}
use Rattle.engine_laws.proofs.Events.{paired-append}
use Rattle.engine_laws.proofs.Told.{Account, account, IsTold, told-shuffled, told-closed, told-after}
use Rattle.engine_laws.proofs.Books.{accounts, accounts-append, AreSame, not-not, IsByNumber}
use Rattle.engine_laws.proofs.Trades.{Rests}
use Rattle.engine_laws.proofs.Growth.{Grows, grows-none}
use Rattle.engine_laws.proofs.BalancedRequests.{TellsState, TellsStep}

-- ---- what is told

told-expired : {events : List Event} {orders : ℕ} (head : Head) (o : Order) (xs : List Account) → IsTold events orders (account o ∷ xs) → IsTold (events ++ expired head o ∷ []) orders xs
told-expired head o xs h =
    let y : Account = record { number = o.number; quantity = o.filled; filled = o.filled; leaves = 0 } in
    told-closed y xs refl (told-after (expired head o) (closed o) (account o) y xs
    (record {
      is = refl;
      number = refl;
      same = refl;
      whole = omega arith;
      filled = omega arith;
      tells = refl;
      left = refl;
      adds = omega (arith, h.whole.0);
      spent = refl;
      enters = λ total all others gone within t. omega (arith, t);
    }) h)

-- one after the other
told-expiries : {orders : ℕ} (events : List Event) (time : List ℕ) (es : List Entry) (desk : Desk) (xs : List Account) → IsTold events orders (accounts es ++ xs) → IsTold (events ++ (expiry_reports time es desk).1) orders xs
told-expiries {orders} events time [] desk xs h = subst (λ (l : List Event). IsTold l orders xs) (sym (append-nil events)) h
told-expiries {orders} events time (e ∷ es) desk xs h =
    let head = next_head desk e.order.firm time in
    let event = expired head e.order in
    let after = report_counted desk e.order.firm in
    subst (λ (l : List Event). IsTold l orders xs) (append_assoc events (event ∷ []) (expiry_reports time es after).1)
    (told-expiries (events ++ event ∷ []) time es after xs (told-expired head e.order (accounts es ++ xs) h))

-- no numbers are given
same-numbers : (time : List ℕ) (es : List Entry) (desk : Desk) → let after = (expiry_reports time es desk).0 in (after.orders ≡ desk.orders) × (after.trades ≡ desk.trades)
same-numbers time [] desk = (refl, refl)
same-numbers time (e ∷ es) desk = same-numbers time es (report_counted desk e.order.firm)

no-trades : (time : List ℕ) (es : List Entry) (desk : Desk) (trades : ℕ) → ArePaired (trades + 1) trades (expiry_reports time es desk).1
no-trades time [] desk trades = refl
no-trades time (e ∷ es) desk trades = no-trades time es (report_counted desk e.order.firm) trades

-- ---- who is left

pub live-closed : (b : Book) → live_orders (book_closed b) ≡ filter stays (live_orders b)
live-closed b = sym (filter-append stays b.resting b.waiting)

-- the orders that expire, and those that are left
parted : (b : Book) → AreSame (accounts (live_orders b)) (accounts (expiring b) ++ accounts (live_orders (book_closed b)))
parted b =
    let es = live_orders b in
    let at : AreSame (accounts es) (accounts (filter expires es ++ filter stays es)) =
    IsPermutation-map (λ (e : Entry). account e.order) es (filter expires es ++ filter stays es) (IsPermutation-filter_both expires stays (λ e. not-not (stays e)) es) in
    subst (λ (l : List Entry). AreSame (accounts es) (accounts (filter expires es) ++ accounts l)) (sym (live-closed b)) (subst (AreSame (accounts es)) (accounts-append (filter expires es) (filter stays es)) at)

-- ---- a change of the session

close-kept : (events : List Event) (time : List ℕ) (state : State) → TellsState events state → TellsStep events (market_closed time state)
close-kept events time state h =
    let b = state.book in
    let gone = expiring b in
    let left = accounts (live_orders (book_closed b)) in
    let reported = expiry_reports time gone state.desk in
    let same = same-numbers time gone state.desk in
    let trades = state.desk.trades in
    record {
      told = subst (λ (n : ℕ). IsTold (events ++ reported.1) n left) (sym same.0) (told-expiries events time gone state.desk left (told-shuffled (accounts (live_orders b)) (accounts gone ++ left) (parted b) h.told));
      paired = subst (λ (n : ℕ). ArePaired 1 n (events ++ reported.1)) (sym same.1) (paired-append 1 trades trades events reported.1 h.paired (no-trades time gone state.desk trades));
      rest = all-filter Rests stays b.resting h.rest;
      wait = all-filter IsByNumber stays b.waiting h.wait;
    }

pub session-kept : (events : List Event) (change : SessionChange) (state : State) → TellsState events state → TellsStep events (session_step change state)
session-kept events change state h =
    let none : TellsState (events ++ []) state = subst (λ (l : List Event). TellsState l state) (sym (append-nil events)) h in
    let go : (to from : Trading) → TellsStep events (session_changed to from change.time state) = elim [
      | Open ↦ elim [ Open ↦ none | Closed ↦ record { told = none.told; paired = none.paired; rest = none.rest; wait = none.wait } ]
      | Closed ↦ elim [ Open ↦ close-kept events change.time state h | Closed ↦ none ]
    ] in go change.to state.trading

-- ---- how many events

-- an event for each of these orders: it asks for nothing, and what was open is gone
record Expire (es : List Entry) (events : List Event) : Type 0 where
  many : length events ≡ length es
  asked : total_asked events ≡ 0
  gone : total_cancelled events ≡ sum_by (λ (e : Entry). e.order.leaves) es

each-expires : (time : List ℕ) (es : List Entry) (desk : Desk) → Expire es (expiry_reports time es desk).1
each-expires time [] desk = record { many = refl; asked = refl; gone = refl }
each-expires time (e ∷ es) desk =
    let event = expired (next_head desk e.order.firm time) e.order in
    let after = report_counted desk e.order.firm in
    let more = (expiry_reports time es after).1 in
    let others = each-expires time es after in
    record {
      many = omega (arith, others.many);
      asked = omega (arith, sum_by-cons asked_in event more, others.asked);
      gone = omega (arith, sum_by-cons cancelled_in event more, sum_by-cons (λ (x : Entry). x.order.leaves) e es, others.gone);
    }

-- of each order that rests at least one lot is open
open-lots : (es : List Entry) → AllByRecursion Rests es → length es ≤ sum_by (λ (e : Entry). e.order.leaves) es
open-lots [] h = omega arith
open-lots (e ∷ es) h = omega (arith, sum_by-cons (λ (x : Entry). x.order.leaves) e es, h.0.1.some, h.0.1.within, open-lots es h.1)

-- So there are no more events than lots that are cancelled, besides one for each stop that waits no more.
close-grows : (time : List ℕ) (state : State) → AllByRecursion Rests state.book.resting → let step = market_closed time state in Grows 0 0 [] step.1 state.book.waiting step.0.book.waiting
close-grows time state rest =
    let leaves = λ (e : Entry). e.order.leaves in
    let b = state.book in
    let gone = filter expires b.resting in
    let stops = filter expires b.waiting in
    let reports = (expiry_reports time (expiring b) state.desk).1 in
    let each = each-expires time (expiring b) state.desk in
    let whole = filter-append expires b.resting b.waiting in
    let many : length (expiring b) ≡ length gone + length stops = omega (arith, ap (λ (es : List Entry). length es) whole, length-append gone stops) in
    let lots : sum_by leaves (expiring b) ≡ sum_by leaves gone + sum_by leaves stops = omega (arith, ap (sum_by leaves) whole, sum_by-append leaves gone stops) in
    let some = open-lots gone (all-filter Rests expires b.resting rest) in
    record {
      lots = omega (arith, each.asked);
      events = omega (arith, each.many, each.gone, many, lots, some, length-filter_both stays expires (λ e. refl) b.waiting);
    }

pub session-grows : (change : SessionChange) (state : State) → AllByRecursion Rests state.book.resting → let step = session_step change state in Grows 0 0 [] step.1 state.book.waiting step.0.book.waiting
session-grows change state rest =
    let waiting = state.book.waiting in
    let none : Grows 0 0 [] [] waiting waiting = grows-none [] waiting in
    let go : (to from : Trading) → let step = session_changed to from change.time state in Grows 0 0 [] step.1 waiting step.0.book.waiting = elim [
      | Open ↦ elim [ Open ↦ none | Closed ↦ none ]
      | Closed ↦ elim [ Open ↦ close-grows change.time state rest | Closed ↦ none ]
    ] in go change.to state.trading
