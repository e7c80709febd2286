-- The events of messages are counted, request by request.
use Rattle.std.proofs.Common.{◌≡◌, ℕ, ◌≤◌, Bool, true, false, cond, List, [], ◌∷◌, length, Option, Some, None, Result, Ok, Err, refl, sym, subst, ◌∙◌, slice_index, slice_set}
use Rattle.std.proofs.lemmas.List.{length-set}
use Rattle.std.specs.Prelude.{◌<◌, ◌+◌}
use Rattle.gx_base.specs.declared.order.Desk.{Desk}
use Rattle.gx_base.specs.declared.event.Event.{Event}
use Rattle.gx_base.specs.declared.event.Event.TheVariants.{Accepted}
use Rattle.gx_base.specs.declared.event.NewFault.{NewFault}
use Rattle.gx_base.specs.declared.event.ChangeFault.{ChangeFault}
use Rattle.gx_base.specs.declared.trading.Trading.{Trading}
use Rattle.gx_base.specs.declared.trading.Trading.TheVariants.{Open, Closed}
use Rattle.product_file.specs.Products.{ProductLists}
use Rattle.fix_request.specs.Requests.{request_of}
use Rattle.fix_request.specs.declared.request.NewOrder.{NewOrder}
use Rattle.fix_request.specs.declared.request.CancelOrder.{CancelOrder}
use Rattle.fix_request.specs.declared.request.ReplaceOrder.{ReplaceOrder}
use Rattle.fix_request.specs.declared.request.SessionChange.{SessionChange}
use Rattle.fix_request.specs.declared.request.Request.{Request}
use Rattle.fix_request.specs.declared.request.Request.TheVariants.{New, Cancel, Replace, Session, Passed, Refused}
use Rattle.plain_book.specs.declared.entry.Entry.{Entry}
use Rattle.plain_book.specs.Orders.{order_of, slot_named}
use Rattle.plain_book.specs.Book.{live_orders, book_without}
use Rattle.plain_book.specs.Match.{MatchState, match_start, next_head, report_counted}
use Rattle.order_kinds.specs.State.{State}
use Rattle.order_kinds.specs.Instruments.{ListedInstrument}
use Rattle.order_kinds.specs.NewOrders.{Terms, terms_of}
use Rattle.order_kinds.specs.Accepting.{taker_on, new_start, after_match, accepted_or_refused, new_step}
use Rattle.order_kinds.specs.Stops.{Naming, by_number, come_in}
use Rattle.order_kinds.specs.Cancels.{cancel_by, cancel_step}
use Rattle.order_kinds.specs.Replaces.{replace_terms, replaced_order, replace_event, keeps_place, replaced_in_place, replaced_start, replaced_anew, replaced_or_refused, replace_at, replace_step}
use Rattle.order_kinds.specs.TradingSessions.{expiring, expired, expiry_reports, market_closed, session_changed, session_step}
use Rattle.order_kinds.specs.Step.{with_message, open_step_as, closed_step_as, request_step, step_of, state_after, events_from}
use Rattle.order_kinds.proofs.SessionSteps.{by-session}
use Rattle.engine_laws.specs.Lines.{place_in, line_in, count_at, lines_to, numbers_between, AreAbove, AreUpTo}
use Rattle.engine_laws.proofs.Counted.{line-counts, AreCounted, counted-append, counted-one, counted-rise, counted-above, counted-up-to, counted-lines}
use Rattle.engine_laws.proofs.NumberedMatches.{InMatch, report-kept, come-in-kept}

module _ (place long : ℕ) where
  -- From this count on the events of a step are counted, in a list of so many counts.
  pub record StepCounts (n : ℕ) (step : State × List Event) : Type 0 where
    pub counted : AreCounted (place < long) place n step.1 (count_at place step.0)
    pub long_as : length step.0.desk.lines ≡ long

  -- a state with so many counts
  abbrev IsLong : State → Type 0
  IsLong state = length state.desk.lines ≡ long

  -- what a request does from such a state is counted from its count on
  abbrev Goes : State → State × List Event → Type 0
  Goes state step = StepCounts (count_at place state) step

  none-goes : (state : State) → IsLong state → Goes state (state, [])
  none-goes state is = record { counted = refl; long_as = is }

  -- the next line to an addressee, after which the counters are these
  one-counts : (lines : List ℕ) (e : Event) → length lines ≡ long → line_in e ≡ slice_index lines (place_in e) + 1
      → AreCounted (place < long) place (slice_index lines place) (e ∷ []) (slice_index (slice_set lines (place_in e) (slice_index lines (place_in e) + 1)) place)
  one-counts lines e is next =
      counted-one (place < long) place (slice_index lines place) e _
      (line-counts (place < long) lines place e (λ w. subst (λ (k : ℕ). place < k) (sym is) w) next)

  raised-long : (lines : List ℕ) (i : ℕ) → length lines ≡ long → length (slice_set lines i (slice_index lines i + 1)) ≡ long
  raised-long lines i is = length-set lines i (slice_index lines i + 1) ∙ is

  -- a step of one event
  one-goes : (state after : State) (e : Event) → IsLong state → line_in e ≡ slice_index state.desk.lines (place_in e) + 1
      → after.desk.lines ≡ slice_set state.desk.lines (place_in e) (slice_index state.desk.lines (place_in e) + 1) → Goes state (after, e ∷ [])
  one-goes state after e is next raised =
      let lines = state.desk.lines in
      record {
        counted = subst (λ (ls : List ℕ). AreCounted (place < long) place (slice_index lines place) (e ∷ []) (slice_index ls place)) (sym raised) (one-counts lines e is next);
        long_as = subst (λ (ls : List ℕ). length ls ≡ long) (sym raised) (raised-long lines (place_in e) is);
      }

  -- what a match leaves
  match-goes : (instrument : ℕ) (state : State) (end : MatchState) → InMatch place long (count_at place state) end → Goes state (after_match instrument state end)
  match-goes instrument state end h = record { counted = h.counted; long_as = h.long_as }

  -- ---- the requests

  new-goes : (naming : Naming) (product : ProductLists) (new : NewOrder) (state : State) → IsLong state → Goes state (new_step naming product new state)
  new-goes naming product new state is =
      let go : (r : Result Terms NewFault) → Goes state (accepted_or_refused naming r new state) = elim [
        | Ok terms ↦
            let number = state.desk.orders + 1 in
            let taker = taker_on terms new number in
            let m : MatchState = match_start state.book (record state.desk { orders = number }) taker in
            let start : InMatch place long (count_at place state) (new_start terms new state) =
            report-kept place long (count_at place state) Accepted (λ head o. refl) taker.order m (record { counted = refl; long_as = is }) in
            let steps = terms.instrument.rule.steps in
            match-goes terms.instrument.number state (come_in naming steps (new_start terms new state))
            (come-in-kept place long (count_at place state) naming steps (new_start terms new state) start)
        | Err f ↦ one-goes state _ _ is refl refl
      ] in go (terms_of product new state)

  cancel-goes : (request : CancelOrder) (state : State) → IsLong state → Goes state (cancel_step request state)
  cancel-goes request state is =
      let go : (slot : Option ℕ) → Goes state (cancel_by slot request state) = elim [
        | None ↦ one-goes state _ _ is refl refl
        | Some slot ↦ one-goes state _ _ is refl refl
      ] in go (slot_named request.sender.firm request.old (live_orders state.book))

  anew-goes : (naming : Naming) (instrument : ListedInstrument) (request : ReplaceOrder) (slot : ℕ) (state : State) → IsLong state → Goes state (replaced_anew naming instrument request slot state)
  anew-goes naming instrument request slot state is =
      let before = order_of slot (live_orders state.book) in
      let after = replaced_order request before in
      let m : MatchState = match_start (book_without slot state.book) state.desk (record { order = after; time = request.sender.time; range = None }) in
      let start : InMatch place long (count_at place state) (replaced_start request slot state) =
      report-kept place long (count_at place state) (replace_event before) (λ head o. refl) after m (record { counted = refl; long_as = is }) in
      let steps = instrument.rule.steps in
      match-goes instrument.number state (come_in naming steps (replaced_start request slot state))
      (come-in-kept place long (count_at place state) naming steps (replaced_start request slot state) start)

  replace-goes : (naming : Naming) (product : ProductLists) (request : ReplaceOrder) (state : State) → IsLong state → Goes state (replace_step naming product request state)
  replace-goes naming product request state is =
      let es = live_orders state.book in
      let changed : (slot : ℕ) (instrument : ListedInstrument) (c : Bool) → Goes state (cond c (replaced_in_place request slot state) (replaced_anew naming instrument request slot state)) = λ slot instrument. elim [
        | true ↦ one-goes state _ _ is refl refl
        | false ↦ anew-goes naming instrument request slot state is
      ] in
      let by : (slot : ℕ) (r : Result ListedInstrument ChangeFault) → Goes state (replaced_or_refused r naming request slot state) = λ slot. elim [
        | Ok instrument ↦ changed slot instrument (keeps_place request (order_of slot es))
        | Err f ↦ one-goes state _ _ is refl refl
      ] in
      let go : (slot : Option ℕ) → Goes state (replace_at slot naming product request state) = elim [
        | None ↦ one-goes state _ _ is refl refl
        | Some slot ↦ by slot (replace_terms product request (order_of slot es) state)
      ] in go (slot_named request.sender.firm request.old es)

  -- ---- a close

  -- the reports of orders that expire
  record DeskCounts (n : ℕ) (reported : Desk × List Event) : Type 0 where
    counted : AreCounted (place < long) place n reported.1 (slice_index reported.0.lines place)
    long_as : length reported.0.lines ≡ long

  expiries-count : (time : List ℕ) (es : List Entry) (desk : Desk) → length desk.lines ≡ long → DeskCounts (slice_index desk.lines place) (expiry_reports time es desk)
  expiries-count time [] desk is = record { counted = refl; long_as = is }
  expiries-count time (e ∷ es) desk is =
      let o = e.order in
      let event = expired (next_head desk o.firm time) o in
      let after = report_counted desk o.firm in
      let others = expiries-count time es after (raised-long desk.lines o.firm is) in
      record {
        counted = counted-append (place < long) place (slice_index desk.lines place) (event ∷ []) _ _ _ (one-counts desk.lines event is refl) others.counted;
        long_as = others.long_as;
      }

  close-goes : (time : List ℕ) (state : State) → IsLong state → Goes state (market_closed time state)
  close-goes time state is = let h = expiries-count time (expiring state.book) state.desk is in record { counted = h.counted; long_as = h.long_as }

  session-goes : (change : SessionChange) (state : State) → IsLong state → Goes state (session_step change state)
  session-goes change state is =
      let go : (to from : Trading) → Goes state (session_changed to from change.time state) = elim [
        | Open ↦ elim [ Open ↦ none-goes state is | Closed ↦ record { counted = refl; long_as = is } ]
        | Closed ↦ elim [ Open ↦ close-goes change.time state is | Closed ↦ none-goes state is ]
      ] in go change.to state.trading

  -- ---- any request

  open-goes : (product : ProductLists) (request : Request) (state : State) → IsLong state → Goes state (open_step_as by_number product request state)
  open-goes product (New order) state is = new-goes by_number product order state is
  open-goes product (Cancel order) state is = cancel-goes order state is
  open-goes product (Replace order) state is = replace-goes by_number product order state is
  open-goes product (Session change) state is = session-goes change state is
  open-goes product (Passed sender) state is = none-goes state is
  open-goes product (Refused refusal) state is = one-goes state _ _ is refl refl

  closed-goes : (product : ProductLists) (request : Request) (state : State) → IsLong state → Goes state (closed_step_as by_number product request state)
  closed-goes product (New order) state is = one-goes state _ _ is refl refl
  closed-goes product (Replace order) state is = one-goes state _ _ is refl refl
  closed-goes product (Cancel order) state is = open-goes product (Cancel order) state is
  closed-goes product (Session change) state is = open-goes product (Session change) state is
  closed-goes product (Passed sender) state is = open-goes product (Passed sender) state is
  closed-goes product (Refused refusal) state is = open-goes product (Refused refusal) state is

  request-goes : (product : ProductLists) (request : Request) (state : State) → IsLong state → Goes state (request_step product request state)
  request-goes product request state is =
      by-session (Goes state) by_number product request state (λ in_open. open-goes product request state is) (λ in_closed. closed-goes product request state is)

  step-goes : (product : ProductLists) (state : State) (frame : List ℕ) → IsLong state → Goes state (step_of product state frame)
  step-goes product state frame is =
      let h = request-goes product (request_of product frame) (with_message state) is in record { counted = h.counted; long_as = h.long_as }

  -- ---- all messages

  pub frames-count : (product : ProductLists) (state : State) (frames : List (List ℕ)) → length state.desk.lines ≡ long
      → StepCounts (count_at place state) (state_after product state frames, events_from product state frames)
  frames-count product state [] is = record { counted = refl; long_as = is }
  frames-count product state (frame ∷ frames) is =
      let step = step_of product state frame in
      let first = step-goes product state frame is in
      let others = frames-count product step.0 frames first.long_as in
      record {
        counted = counted-append (place < long) place (count_at place state) step.1 (count_at place step.0) (events_from product step.0 frames) _ first.counted others.counted;
        long_as = others.long_as;
      }

-- ---- the law

module _ (product : ProductLists) (state : State) (messages : List (List ℕ)) (place : ℕ) where
  abbrev counts : StepCounts place (length state.desk.lines) (count_at place state) (state_after product state messages, events_from product state messages)
  counts = frames-count place (length state.desk.lines) product state messages refl

  abbrev Within : Type 0
  Within = place < length state.desk.lines

  abbrev before : ℕ
  before = count_at place state

  abbrev after : ℕ
  after = count_at place (state_after product state messages)

  abbrev events : List Event
  events = events_from product state messages

  pub counts-never-fall : count_at place state ≤ count_at place (state_after product state messages)
  counts-never-fall = counted-rise Within place before events after counts.counted

  pub lines-above : AreAbove place (count_at place state) (events_from product state messages)
  lines-above = counted-above Within place before events after counts.counted

  pub lines-up-to : place < length state.desk.lines → AreUpTo place (count_at place (state_after product state messages)) (events_from product state messages)
  lines-up-to w = counted-up-to Within place w before events after counts.counted

  pub lines-in-order : place < length state.desk.lines
      → lines_to place (events_from product state messages) ≡ numbers_between (count_at place state) (count_at place (state_after product state messages))
  lines-in-order w = counted-lines Within place w before events after counts.counted
