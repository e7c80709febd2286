-- Each text that the engine puts into a report is short and ends no field, no order has a quantity of ten digits, and there are no
-- more order numbers than messages, whatever the requests are.
use Rattle.std.proofs.Common.{ℕ, ◌+◌, ◌^◌, ◌<◌, min, Bool, true, false, cond, not, ◌&&◌, nat_lt, List, [], ◌∷◌, filter, length, Option, Some, None, Result, Ok, Err, refl, arith, ◌≡◌, ◌≤◌}
use Prim.Native.Nat.{zero, suc}
use Rattle.std.specs.Prelude.{◌==◌, IfSome}
use Rattle.std.specs.List.{AllByRecursion}
use Rattle.gx_base.specs.declared.digits.TheConstants.{MOST_DIGITS}
use Rattle.gx_base.specs.declared.price.Price.{Price}
use Rattle.gx_base.specs.declared.order.Order.{Order}
use Rattle.gx_base.specs.declared.order.Side.{Side}
use Rattle.gx_base.specs.declared.order.Kind.{Kind}
use Rattle.gx_base.specs.declared.order.Kind.TheVariants.{Limit, Market, StopLimit}
use Rattle.gx_base.specs.declared.event.StepName.{StepName}
use Rattle.gx_base.specs.declared.event.StepName.TheVariants as name
use Rattle.gx_base.specs.declared.event.Cause.{Cause}
use Rattle.gx_base.specs.declared.event.Cause.TheVariants as cause
use Rattle.gx_base.specs.declared.event.NewFault.{NewFault}
use Rattle.gx_base.specs.declared.event.NewFault.TheVariants as new_fault
use Rattle.gx_base.specs.declared.event.ChangeFault.{ChangeFault}
use Rattle.gx_base.specs.declared.event.ChangeFault.TheVariants as change_fault
use Rattle.gx_base.specs.declared.event.Event.{Event}
use Rattle.gx_base.specs.declared.trading.Trading.{Trading}
use Rattle.gx_base.specs.declared.trading.Trading.TheVariants.{Open, Closed}
use Rattle.gx_base.specs.declared.order.Desk.{Desk}
use Rattle.step_config.specs.declared.step.Step.{Step}
use Rattle.step_config.specs.declared.step.Step.TheVariants.{Top, Lmm, Split, ProRata, Leveling, Fifo}
use Rattle.product_file.specs.Products.{ProductLists}
use Rattle.fix_request.specs.Requests.{request_of}
use Rattle.fix_request.specs.declared.request.Sender.{Sender}
use Rattle.fix_request.specs.declared.request.NewOrder.{NewOrder}
use Rattle.fix_request.specs.declared.request.CancelOrder.{CancelOrder}
use Rattle.fix_request.specs.declared.request.ReplaceOrder.{ReplaceOrder}
use Rattle.fix_request.specs.declared.request.Request.{Request}
use Rattle.fix_request.specs.declared.request.Request.TheVariants.{New, Cancel, Replace, Session, Passed, Refused}
use Rattle.plain_book.specs.declared.entry.Entry.{Entry}
use Rattle.plain_book.specs.Orders.{order_of, without, with_order, placed, lined_up, with_top, settled, refreshed, filled_by, stops_of, is_of, is_at_earlier_level, is_of_earlier_instrument, is_new_best, slot_named, opposite, top_of}
use Rattle.plain_book.specs.Book.{Book, live_orders, first_shown, makes_top, resting_placed, book_without, changed_to}
use Rattle.plain_book.specs.Match.{MatchState, Share, report_counted, trade, is_prorata, book_share_noted, share_noted, trade_share, trade_shares}
use Rattle.plain_book.specs.Steps.{level_now, trade_head, fifo_rounds, prorata_shares, top_shares, lmm_shares, split_shares, leveling_shares}
use Rattle.book_order.proofs.Each.{all-filter, all-append}
use Rattle.level_sweep.specs.Sweep.{after_step, wanted_step, level_match, next_price, match_next, sweep_rounds, sweep}
use Rattle.order_kinds.specs.State.{State}
use Rattle.order_kinds.specs.Instruments.{ListedInstrument}
use Rattle.order_kinds.specs.NewOrders.{Terms, terms_of, may_rest}
use Rattle.order_kinds.specs.Entering.{taker_cancelled, top_min_of, as_limit, taker_rested, finished, open_for, entered}
use Rattle.order_kinds.specs.Stops.{Naming, by_number, is_reached_by, first_entry, first_reached, fill_range, next_stop, stop_triggered, stop_entered, stop_rounds, entered_with_stops, come_in_as, come_in}
use Rattle.order_kinds.specs.Accepting.{refusal, new_start, new_of, after_match, accepted, accepted_or_refused}
use Rattle.order_kinds.specs.Cancels.{cancel_by}
use Rattle.order_kinds.specs.Reports.{unchanged}
use Rattle.order_kinds.specs.Replaces.{least_after, keeps_place, replaced_in_place, replaced_start, replaced_anew, replaced, replace_refused, replace_terms, replaced_or_refused, replace_at}
use Rattle.order_kinds.specs.TradingSessions.{stays, expires, expiring, expiry_reports, market_closed, session_changed}
use Rattle.order_kinds.specs.Step.{with_message, open_step_as, closed_step_as, request_step, step_of as message_step, state_after, events_from}
use Rattle.order_kinds.proofs.SessionSteps.{by-session}
use Rattle.order_kinds.specs.Balance.{quantities_of, order_in}
use Rattle.stream_laws.specs.Texts.{IsText, HasTexts}

-- ---- requests

abbrev pub IsTextRequest : Request → Type 0
IsTextRequest (New order) = IsText order.sender.time × (IsText order.id × (IsText order.symbol × (order.quantity < 10 ^ MOST_DIGITS)))
IsTextRequest (Cancel order) = IsText order.sender.time × (IsText order.id × IsText order.old)
IsTextRequest (Replace order) = IsText order.sender.time × (IsText order.id × (IsText order.old × (order.quantity < 10 ^ MOST_DIGITS)))
IsTextRequest (Session change) = IsText change.time
IsTextRequest (Passed sender) = Unit {0}
IsTextRequest (Refused refusal) = IsText refusal.time

module _ (most : ℕ) where
  -- ---- orders

  pub record IsTextOrder (o : Order) : Type 0 where
    pub id : IsText o.id
    pub small : o.quantity < 10 ^ MOST_DIGITS
    pub given : o.number ≤ most

  abbrev pub AllText : List Entry → Type 0
  AllText es = AllByRecursion (λ (e : Entry). IsTextOrder e.order) es

  pub order-text : (slot : ℕ) (es : List Entry) → AllText es → IsTextOrder (order_of slot es)
  order-text slot [] h = record { id = record { short = omega arith; plain = refl }; small = omega arith; given = omega arith }
  order-text slot (e ∷ es) h = elim (e.slot == slot) as (λ b. IsTextOrder (cond b e.order (order_of slot es))) [ true ↦ h.0 | false ↦ order-text slot es h.1 ]

  without-text : (slot : ℕ) (es : List Entry) → AllText es → AllText (without slot es)
  without-text slot es h = all-filter (λ (e : Entry). IsTextOrder e.order) (λ e. not (e.slot == slot)) es h

  with_order-text : (slot : ℕ) (o : Order) (es : List Entry) → IsTextOrder o → AllText es → AllText (with_order slot o es)
  with_order-text slot o [] is h = tt
  with_order-text slot o (e ∷ es) is h = (
    elim (e.slot == slot) as (λ b. IsTextOrder (cond b (record e { order = o }) e).order) [ true ↦ is | false ↦ h.0 ],
    with_order-text slot o es is h.1,
  )

  placed-text : (n : Entry) (es : List Entry) → IsTextOrder n.order → AllText es → AllText (placed n es)
  placed-text n es is h =
      let P = λ (e : Entry). IsTextOrder e.order in
      let p = is_at_earlier_level n in
      all-append P (filter (λ e. not (p e)) es) (n ∷ filter p es) (all-filter P (λ e. not (p e)) es h) (is, all-filter P p es h)

  lined-text : (n : Entry) (es : List Entry) → IsTextOrder n.order → AllText es → AllText (lined_up n es)
  lined-text n es is h =
      let P = λ (e : Entry). IsTextOrder e.order in
      let p = is_of_earlier_instrument n in
      all-append P (filter (λ e. not (p e)) es) (n ∷ filter p es) (all-filter P (λ e. not (p e)) es h) (is, all-filter P p es h)

  topped-text : (instrument : ℕ) (side : Side) (top : Option ℕ) (es : List Entry) → AllText es → AllText (with_top instrument side top es)
  topped-text instrument side top [] h = tt
  topped-text instrument side top (e ∷ es) h = (h.0, topped-text instrument side top es h.1)

  settled-text : (slot : ℕ) (o : Order) (es : List Entry) → IsTextOrder o → AllText es → AllText (settled slot o es)
  settled-text slot o es is h =
      let left = without-text slot es h in
      let n : Entry = record { slot = slot; order = refreshed o; is_top = false } in
      let back : AllText (placed n (without slot es)) = placed-text n (without slot es) (record { id = is.id; small = is.small; given = is.given }) left in
      let go : (a b : Bool) → AllText (cond a (without slot es) (cond b (placed n (without slot es)) (with_order slot o es))) = elim [
        | true ↦ λ b. left
        | false ↦ elim [ true ↦ back | false ↦ with_order-text slot o es is h ]
      ] in go (o.leaves == 0) (o.shown == 0)

  resting-text : (slot : ℕ) (o : Order) (top_min : Option ℕ) (es : List Entry) → IsTextOrder o → AllText es → AllText (resting_placed slot o top_min es)
  resting-text slot o top_min es is h =
      let best = is_new_best o es in
      let n : Entry = record { slot = slot; order = record o { shown = first_shown o }; is_top = best && makes_top top_min o.leaves } in
      let n_is : IsTextOrder n.order = record { id = is.id; small = is.small; given = is.given } in
      let go : (b : Bool) → AllText (placed n (cond b (with_top o.instrument o.side None es) es)) = elim [
        | true ↦ placed-text n (with_top o.instrument o.side None es) n_is (topped-text o.instrument o.side None es h)
        | false ↦ placed-text n es n_is h
      ] in go best

  pub record IsTextBook (b : Book) : Type 0 where
    pub resting : AllText b.resting
    pub waiting : AllText b.waiting

  live-text : (b : Book) → IsTextBook b → AllText (live_orders b)
  live-text b h = all-append (λ (e : Entry). IsTextOrder e.order) b.resting b.waiting h.resting h.waiting

  left-text : (slot : ℕ) (b : Book) → IsTextBook b → IsTextBook (book_without slot b)
  left-text slot b h = record { resting = without-text slot b.resting h.resting; waiting = without-text slot b.waiting h.waiting }

  -- ---- events

  -- its texts, its quantity, and its number
  pub record IsTextEvent (event : Event) : Type 0 where
    pub texts : HasTexts event
    pub small : IfSome (quantities_of event) (λ q. q.ordered < 10 ^ MOST_DIGITS)
    pub given : IfSome (order_in event) (λ o. o.number ≤ most)

  abbrev pub AllTextEvents : List Event → Type 0
  AllTextEvents events = AllByRecursion IsTextEvent events

  -- ---- a match

  module _ (top : ℕ) where
    pub record IsTextMatch (m : MatchState) : Type 0 where
      pub book : IsTextBook m.book
      pub taker : IsTextOrder m.taker.order
      pub time : IsText m.taker.time
      pub events : AllTextEvents m.events
      pub orders : m.desk.orders ≡ top

    trade-text : (step : StepName) (s n : ℕ) (m : MatchState) → IsTextMatch m → IsTextMatch (trade step s n m)
    trade-text step s n m h =
        let o = order_of s m.book.resting in
        let is = order-text s m.book.resting h.book.resting in
        let given : IsTextOrder (filled_by n o) = record { id = is.id; small = is.small; given = is.given } in
        record {
          book = record { resting = settled-text s (filled_by n o) m.book.resting given h.book.resting; waiting = h.book.waiting };
          taker = record { id = h.taker.id; small = h.taker.small; given = h.taker.given };
          time = h.time;
          events = all-append IsTextEvent _ (_ ∷ [])
              (all-append IsTextEvent m.events (_ ∷ []) h.events (record { texts = (h.time, (is.id, tt)); small = is.small; given = is.given }, tt))
              (record { texts = (h.time, (h.taker.id, tt)); small = h.taker.small; given = h.taker.given }, tt);
          orders = h.orders;
        }

    marked-text : (step : StepName) (s n : ℕ) (m : MatchState) → IsTextMatch m → IsTextMatch (share_noted step s n m)
    marked-text step s n m h =
        let is = order-text s m.book.resting h.book.resting in
        let now : Order = record (order_of s m.book.resting) { prorated = n } in
        let go : (c : Bool) → IsTextMatch (record m { book = cond c (book_share_noted s n m.book) m.book }) = elim [
          | true ↦ record {
            book = record { resting = with_order-text s now m.book.resting (record { id = is.id; small = is.small; given = is.given }) h.book.resting; waiting = h.book.waiting };
            taker = h.taker;
            time = h.time;
            events = h.events;
            orders = h.orders;
          }
          | false ↦ record { book = h.book; taker = h.taker; time = h.time; events = h.events; orders = h.orders }
        ] in go (is_prorata step)

    share-text : (step : StepName) (s n : ℕ) (m : MatchState) → IsTextMatch m → IsTextMatch (trade_share step s n m)
    share-text step s n m h =
        let k = share_noted step s n m in
        let here = marked-text step s n m h in
        let go : (c : Bool) → IsTextMatch (cond c k (trade step s n k)) = elim [ true ↦ here | false ↦ trade-text step s n k here ] in
        go (n == 0)

    shares-text : (step : StepName) (xs : List Share) (m : MatchState) → IsTextMatch m → IsTextMatch (trade_shares step xs m)
    shares-text step [] m h = h
    shares-text step (x ∷ xs) m h = shares-text step xs (trade_share step x.0 x.1 m) (share-text step x.0 x.1 m h)

    first-text : (es : List Entry) (m : MatchState) → IsTextMatch m → IsTextMatch (trade_head es m)
    first-text [] m h = h
    first-text (e ∷ es) m h = share-text name.Fifo e.slot (min m.taker.order.leaves e.order.shown) m h

    fifo-text : (n : ℕ) (price : Price) (m : MatchState) → IsTextMatch m → IsTextMatch (fifo_rounds n price m)
    fifo-text zero price m h = h
    fifo-text (suc n) price m h = fifo-text n price (trade_head (level_now price m) m) (first-text (level_now price m) m h)

    step-text : (step : Step) (price : Price) (m : MatchState) → IsTextMatch m → IsTextMatch (after_step step price m)
    step-text (Top rule) price m h =
        shares-text name.Top (top_shares rule.max (top_of m.taker.order.instrument (opposite m.taker.order.side) m.book.resting) m.taker.order.leaves (level_now price m)) m h
    step-text (Lmm shares) price m h = shares-text name.Lmm (lmm_shares shares.items m.taker.order.leaves (level_now price m)) m h
    step-text (Split percent) price m h = shares-text name.Split (split_shares percent m.taker.order.leaves (level_now price m)) m h
    step-text (ProRata least) price m h =
        let xs = prorata_shares least m.taker.order.leaves (level_now price m) in
        let go : (c : Bool) → IsTextMatch (cond c m (trade_shares name.ProRata xs m)) = elim [ true ↦ h | false ↦ shares-text name.ProRata xs m h ] in
        go (m.taker.order.leaves == 0)
    step-text Leveling price m h = shares-text name.Leveling (leveling_shares m.taker.order.leaves (level_now price m)) m h
    step-text Fifo price m h = fifo-text m.taker.order.leaves price m h

    wanted-text : (step : Step) (price : Price) (m : MatchState) → IsTextMatch m → IsTextMatch (wanted_step step price m)
    wanted-text step price m h =
        let go : (c : Bool) → IsTextMatch (cond c m (after_step step price m)) = elim [ true ↦ h | false ↦ step-text step price m h ] in
        go (m.taker.order.leaves == 0)

    level-text : (steps : List Step) (price : Price) (m : MatchState) → IsTextMatch m → IsTextMatch (level_match steps price m)
    level-text [] price m h = h
    level-text (step ∷ steps) price m h = level-text steps price (wanted_step step price m) (wanted-text step price m h)

    next-text : (steps : List Step) (next : Option Price) (m : MatchState) → IsTextMatch m → IsTextMatch (match_next steps next m)
    next-text steps None m h = h
    next-text steps (Some price) m h = level-text steps price m h

    rounds-text : (n : ℕ) (steps : List Step) (limit : Price) (m : MatchState) → IsTextMatch m → IsTextMatch (sweep_rounds n steps limit m)
    rounds-text zero steps limit m h = h
    rounds-text (suc n) steps limit m h =
        let next = next_price limit m.book m.taker in rounds-text n steps limit (match_next steps next m) (next-text steps next m h)

    -- ---- entering

    cancelled-text : (why : Cause) (m : MatchState) → IsTextMatch m → IsTextMatch (taker_cancelled why m)
    cancelled-text why m h = record {
      book = h.book;
      taker = h.taker;
      time = h.time;
      events = all-append IsTextEvent m.events (_ ∷ []) h.events (record { texts = (h.time, (h.taker.id, tt)); small = h.taker.small; given = h.taker.given }, tt);
      orders = h.orders;
    }

    rested-text : (slot : ℕ) (steps : List Step) (m : MatchState) → IsTextMatch m → IsTextMatch (taker_rested slot steps m)
    rested-text slot steps m h = record {
      book = record {
        resting = resting-text slot (as_limit m.taker.order) (top_min_of steps) m.book.resting (record { id = h.taker.id; small = h.taker.small; given = h.taker.given }) h.book.resting;
        waiting = h.book.waiting;
      };
      taker = h.taker;
      time = h.time;
      events = h.events;
      orders = h.orders;
    }

    finished-text : (slot : ℕ) (steps : List Step) (m : MatchState) → IsTextMatch m → IsTextMatch (finished slot steps m)
    finished-text slot steps m h =
        let go : (a b : Bool) → IsTextMatch (cond a m (cond b (taker_rested slot steps m) (taker_cancelled cause.Fak m))) = elim [
          | true ↦ λ b. h
          | false ↦ elim [ true ↦ rested-text slot steps m h | false ↦ cancelled-text cause.Fak m h ]
        ] in go (m.taker.order.leaves == 0) (may_rest m.taker.order.life)

    entered-text : (slot : ℕ) (steps : List Step) (m : MatchState) → IsTextMatch m → IsTextMatch (entered slot steps m)
    entered-text slot steps m h =
        let swept = sweep steps m.taker.order.price m in
        let after : IsTextMatch swept = rounds-text m.taker.order.leaves steps m.taker.order.price m h in
        let go : (c : Bool) → IsTextMatch (cond c (taker_cancelled cause.MinQty m) (finished slot steps swept)) = elim [
          | true ↦ cancelled-text cause.MinQty m h
          | false ↦ finished-text slot steps swept after
        ] in go (nat_lt (open_for m) m.taker.order.min)

    -- ---- stops

    abbrev IsTextStop : Option Entry → Type 0
    IsTextStop stop = IfSome stop (λ e. IsTextOrder e.order)

    front-text : (es : List Entry) → AllText es → IsTextStop (first_entry es)
    front-text [] h = tt
    front-text (e ∷ es) h = h.0

    stop-text : (instrument : ℕ) (range : Option (Price × Price)) (es : List Entry) → AllText es → IsTextStop (first_reached instrument range es)
    stop-text instrument None es h = tt
    stop-text instrument (Some range) es h =
        let P = λ (e : Entry). IsTextOrder e.order in
        front-text (filter (is_reached_by range) (stops_of instrument es)) (all-filter P (is_reached_by range) (stops_of instrument es) (all-filter P (is_of instrument) es h))

    stop_entered-text : (stop : Option Entry) (named : ℕ → ℕ) (steps : List Step) (m : MatchState) → IsTextStop stop → IsTextMatch m → IsTextMatch (stop_entered stop named steps m)
    stop_entered-text None named steps m is h = h
    stop_entered-text (Some e) named steps m is h =
        entered-text (named e.order.number) steps (stop_triggered e m)
        (record {
          book = left-text e.slot m.book h.book;
          taker = record { id = is.id; small = is.small; given = is.given };
          time = h.time;
          events = all-append IsTextEvent m.events (_ ∷ []) h.events (record { texts = (h.time, (is.id, tt)); small = is.small; given = is.given }, tt);
          orders = h.orders;
        })

    stops-text : (n : ℕ) (naming : Naming) (steps : List Step) (m : MatchState) → IsTextMatch m → IsTextMatch (stop_rounds n naming steps m)
    stops-text zero naming steps m h = h
    stops-text (suc n) naming steps m h =
        let before = stop_rounds n naming steps m in
        let here = stops-text n naming steps m h in
        stop_entered-text (next_stop before) (naming n) steps before (stop-text before.taker.order.instrument (fill_range before.events) before.book.waiting here.book.waiting) here

    with_stops-text : (naming : Naming) (steps : List Step) (m : MatchState) → IsTextMatch m → IsTextMatch (entered_with_stops naming steps m)
    with_stops-text naming steps m h =
        let first = entered (naming 0 m.taker.order.number) steps m in
        stops-text (length first.book.waiting) (λ before. naming (before + 1)) steps first (entered-text (naming 0 m.taker.order.number) steps m h)

    come-text : (kind : Kind) (naming : Naming) (steps : List Step) (m : MatchState) → IsTextMatch m → IsTextMatch (come_in_as kind naming steps m)
    come-text StopLimit naming steps m h = record {
      book = record {
        resting = h.book.resting;
        waiting = lined-text (record { slot = naming 0 m.taker.order.number; order = record m.taker.order { shown = 0 }; is_top = false }) m.book.waiting (record { id = h.taker.id; small = h.taker.small; given = h.taker.given }) h.book.waiting;
      };
      taker = h.taker;
      time = h.time;
      events = h.events;
      orders = h.orders;
    }
    come-text Limit naming steps m h = with_stops-text naming steps m h
    come-text Market naming steps m h = with_stops-text naming steps m h

  -- ---- requests

  -- what a message does, where so many orders had a number before
  pub record IsTextStep (before : ℕ) (step : State × List Event) : Type 0 where
    pub book : IsTextBook step.0.book
    pub events : AllTextEvents step.1
    pub orders : step.0.desk.orders ≤ before + 1

  matched-text : (top instrument : ℕ) (state : State) (m : MatchState) → top ≤ state.desk.orders + 1 → IsTextMatch top m → IsTextStep state.desk.orders (after_match instrument state m)
  matched-text top instrument state m few h = record { book = h.book; events = h.events; orders = omega (arith, few, h.orders) }

  -- the next order has a number that may be given
  abbrev HasRoom : State → Type 0
  HasRoom state = state.desk.orders + 1 ≤ most

  accepted-text : (naming : Naming) (terms : Terms) (new : NewOrder) (state : State) → HasRoom state → IsTextRequest (New new) → IsTextBook state.book → IsTextStep state.desk.orders (accepted naming terms new state)
  accepted-text naming terms new state room is h =
      let top = state.desk.orders + 1 in
      let start = new_start terms new state in
      let at_start : IsTextMatch top start = record {
        book = h;
        taker = record { id = is.1.0; small = is.1.1.1; given = room };
        time = is.0;
        events = (record { texts = (is.0, (is.1.0, tt)); small = is.1.1.1; given = room }, tt);
        orders = refl;
      } in
      matched-text top terms.instrument.number state (new_of naming terms new state) (omega arith) (come-text top start.taker.order.kind naming terms.instrument.rule.steps start at_start)

  new-text : (naming : Naming) (terms : Result Terms NewFault) (new : NewOrder) (state : State) → HasRoom state → IsTextRequest (New new) → IsTextBook state.book → IsTextStep state.desk.orders (accepted_or_refused naming terms new state)
  new-text naming (Ok terms) new state room is h = accepted-text naming terms new state room is h
  new-text naming (Err f) new state room is h = record { book = h; events = (record { texts = (is.0, (is.1.0, (is.1.1.0, tt))); small = is.1.1.1; given = tt }, tt); orders = omega arith }

  unchanged-text : (sender : Sender) (id old : List ℕ) (number filled : ℕ) (replace : Bool) (f : ChangeFault) (state : State) → IsText sender.time → IsText id → IsText old → IsTextBook state.book → IsTextStep state.desk.orders (unchanged sender id old number filled replace f state)
  unchanged-text sender id old number filled replace f state time id_is old_is h = record { book = h; events = (record { texts = (time, (id_is, (old_is, tt))); small = tt; given = tt }, tt); orders = omega arith }

  cancel-text : (slot : Option ℕ) (request : CancelOrder) (state : State) → IsTextRequest (Cancel request) → IsTextBook state.book → IsTextStep state.desk.orders (cancel_by slot request state)
  cancel-text None request state is h = unchanged-text request.sender request.id request.old 0 0 false change_fault.Unknown state is.0 is.1.0 is.1.1 h
  cancel-text (Some slot) request state is h =
      let o = order-text slot (live_orders state.book) (live-text state.book h) in
      record { book = left-text slot state.book h; events = (record { texts = (is.0, (o.id, (is.1.0, tt))); small = o.small; given = o.given }, tt); orders = omega arith }

  replaced-text : (naming : Naming) (instrument : ListedInstrument) (request : ReplaceOrder) (slot : ℕ) (state : State) → IsTextRequest (Replace request) → IsTextBook state.book → IsTextStep state.desk.orders (replaced naming instrument request slot state)
  replaced-text naming instrument request slot state is h =
      let before = order_of slot (live_orders state.book) in
      let was = order-text slot (live_orders state.book) (live-text state.book h) in
      let after = changed_to request.id request.quantity (least_after request before) before in
      let after_is : IsTextOrder after = record { id = is.1.0; small = is.1.1.1; given = was.given } in
      let top = state.desk.orders in
      let start = replaced_start request slot state in
      let at_start : IsTextMatch top start = record {
        book = left-text slot state.book h;
        taker = record { id = is.1.0; small = is.1.1.1; given = was.given };
        time = is.0;
        events = (record { texts = (is.0, (is.1.0, (was.id, tt))); small = is.1.1.1; given = was.given }, tt);
        orders = refl;
      } in
      let end = come_in naming instrument.rule.steps start in
      let anew : IsTextStep state.desk.orders (replaced_anew naming instrument request slot state) = matched-text top instrument.number state end (omega arith) (come-text top start.taker.order.kind naming instrument.rule.steps start at_start) in
      let go : (c : Bool) → IsTextStep state.desk.orders (cond c (replaced_in_place request slot state) (replaced_anew naming instrument request slot state)) = elim [
        | true ↦ record {
          book = record { resting = with_order-text slot after state.book.resting after_is h.resting; waiting = with_order-text slot after state.book.waiting after_is h.waiting };
          events = (record { texts = (is.0, (is.1.0, (was.id, tt))); small = is.1.1.1; given = was.given }, tt);
          orders = omega arith;
        }
        | false ↦ anew
      ] in go (keeps_place request before)

  refused-text : (f : ChangeFault) (request : ReplaceOrder) (number filled : ℕ) (state : State) → IsTextRequest (Replace request) → IsTextBook state.book → IsTextStep state.desk.orders (replace_refused f request number filled state)
  refused-text f request number filled state is h = unchanged-text request.sender request.id request.old number filled true f state is.0 is.1.0 is.1.1.0 h

  by_terms-text : (terms : Result ListedInstrument ChangeFault) (naming : Naming) (request : ReplaceOrder) (slot : ℕ) (state : State) → IsTextRequest (Replace request) → IsTextBook state.book → IsTextStep state.desk.orders (replaced_or_refused terms naming request slot state)
  by_terms-text (Ok instrument) naming request slot state is h = replaced-text naming instrument request slot state is h
  by_terms-text (Err f) naming request slot state is h =
      let o = order_of slot (live_orders state.book) in refused-text f request o.number o.filled state is h

  replace-text : (slot : Option ℕ) (naming : Naming) (product : ProductLists) (request : ReplaceOrder) (state : State) → IsTextRequest (Replace request) → IsTextBook state.book → IsTextStep state.desk.orders (replace_at slot naming product request state)
  replace-text None naming product request state is h = refused-text change_fault.Unknown request 0 0 state is h
  replace-text (Some slot) naming product request state is h =
      by_terms-text (replace_terms product request (order_of slot (live_orders state.book)) state) naming request slot state is h

  -- what expires
  expiry-text : (time : List ℕ) (es : List Entry) (desk : Desk) → IsText time → AllText es → AllTextEvents (expiry_reports time es desk).1
  expiry-text time [] desk is h = tt
  expiry-text time (e ∷ es) desk is h =
      (record { texts = (is, (h.0.id, tt)); small = h.0.small; given = h.0.given }, expiry-text time es (report_counted desk e.order.firm) is h.1)

  expiry-orders : (time : List ℕ) (es : List Entry) (desk : Desk) → (expiry_reports time es desk).0.orders ≡ desk.orders
  expiry-orders time [] desk = refl
  expiry-orders time (e ∷ es) desk = expiry-orders time es (report_counted desk e.order.firm)

  market_closed-text : (time : List ℕ) (state : State) → IsText time → IsTextBook state.book → IsTextStep state.desk.orders (market_closed time state)
  market_closed-text time state is h =
      let P = λ (e : Entry). IsTextOrder e.order in
      record {
        book = record { resting = all-filter P stays state.book.resting h.resting; waiting = all-filter P stays state.book.waiting h.waiting };
        events = expiry-text time (expiring state.book) state.desk is (all-filter P expires (live_orders state.book) (live-text state.book h));
        orders = omega (arith, expiry-orders time (expiring state.book) state.desk);
      }

  session-text : (to from : Trading) (time : List ℕ) (state : State) → IsText time → IsTextBook state.book → IsTextStep state.desk.orders (session_changed to from time state)
  session-text Closed Open time state is h = market_closed-text time state is h
  session-text Open Closed time state is h = record { book = h; events = tt; orders = omega arith }
  session-text Open Open time state is h = record { book = h; events = tt; orders = omega arith }
  session-text Closed Closed time state is h = record { book = h; events = tt; orders = omega arith }

  open-text : (product : ProductLists) (request : Request) (state : State) → HasRoom state → IsTextRequest request → IsTextBook state.book → IsTextStep state.desk.orders (open_step_as by_number product request state)
  open-text product (New order) state room is h = new-text by_number (terms_of product order state) order state room is h
  open-text product (Cancel order) state room is h = cancel-text (slot_named order.sender.firm order.old (live_orders state.book)) order state is h
  open-text product (Replace order) state room is h = replace-text (slot_named order.sender.firm order.old (live_orders state.book)) by_number product order state is h
  open-text product (Session change) state room is h = session-text change.to state.trading change.time state is h
  open-text product (Passed sender) state room is h = record { book = h; events = tt; orders = omega arith }
  open-text product (Refused refusal) state room is h = record { book = h; events = (record { texts = (is, tt); small = tt; given = tt }, tt); orders = omega arith }

  closed-text : (product : ProductLists) (request : Request) (state : State) → HasRoom state → IsTextRequest request → IsTextBook state.book → IsTextStep state.desk.orders (closed_step_as by_number product request state)
  closed-text product (New order) state room is h = new-text by_number (Err new_fault.Closed) order state room is h
  closed-text product (Replace order) state room is h = refused-text change_fault.Closed order 0 0 state is h
  closed-text product (Cancel order) state room is h = open-text product (Cancel order) state room is h
  closed-text product (Session change) state room is h = open-text product (Session change) state room is h
  closed-text product (Passed sender) state room is h = open-text product (Passed sender) state room is h
  closed-text product (Refused refusal) state room is h = open-text product (Refused refusal) state room is h

  request-text : (product : ProductLists) (request : Request) (state : State) → HasRoom state → IsTextRequest request → IsTextBook state.book → IsTextStep state.desk.orders (request_step product request state)
  request-text product request state room is h = by-session (IsTextStep state.desk.orders) by_number product request state (λ _. open-text product request state room is h) (λ _. closed-text product request state room is h)

  -- ---- a stream

  -- what messages lead to: these events, and this state, in which at most so many orders have been given a number
  pub record IsTextStream (top : ℕ) (events : List Event) (state : State) : Type 0 where
    pub book : IsTextBook state.book
    pub told : AllTextEvents events
    pub orders : state.desk.orders ≤ top

  module _ (product : ProductLists) (each : (frame : List ℕ) → IsTextRequest (request_of product frame)) where
    pub stream-text : (state : State) (frames : List (List ℕ)) → state.desk.orders + length frames ≤ most → IsTextBook state.book
        → IsTextStream (state.desk.orders + length frames) (events_from product state frames) (state_after product state frames)
    stream-text state [] room h = record { book = h; told = tt; orders = omega arith }
    stream-text state (frame ∷ frames) room h =
        let step = message_step product state frame in
        let long : length (frame ∷ frames) ≡ 1 + length frames = omega arith in
        let here = request-text product (request_of product frame) (with_message state) (omega (arith, room, long)) (each frame) h in
        let rest = stream-text step.0 frames (omega (arith, room, long, here.orders)) here.book in
        record { book = rest.book; told = all-append IsTextEvent step.1 (events_from product step.0 frames) here.events rest.told; orders = omega (arith, rest.orders, here.orders, long) }
