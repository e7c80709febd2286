-- How far the totals of a history can grow, and how many events it has. No message asks for more than 999,999 lots, and what is
-- filled, cancelled or open was asked for.
use Rattle.std.proofs.Common.{◌≡◌, ℕ, ◌+◌, ◌*◌, ◌≤◌, Bool, true, false, cond, not, List, [], ◌∷◌, ◌++◌, length, Option, Some, None, Result, Ok, Err, refl, sym, ap, ◌∙◌, arith, sum_by, length-append}
use Rattle.std.proofs.lemmas.List.{length-map, append-nil}
use Rattle.std.proofs.lemmas.List.Sums.{sum_by-cons, sum_by-append}
use Rattle.std.proofs.lemmas.Bool.Decides.{nat_tests}
use Rattle.std.specs.Prelude.{◌^◌, ◌<◌, ◌&&◌, nat_le}
use Rattle.std.specs.List.{AllByRecursion}
use Rattle.gx_base.specs.declared.limits.TheConstants.{MOST_LOTS}
use Rattle.gx_base.specs.declared.event.Event.{Event}
use Rattle.gx_base.specs.declared.event.ChangeFault.{ChangeFault}
use Rattle.gx_base.specs.declared.event.NewFault.{NewFault}
use Rattle.product_file.specs.Products.{ProductLists, IsRightProduct}
use Rattle.fix_request.specs.Requests.{request_of}
use Rattle.fix_request.specs.declared.request.NewOrder.{NewOrder}
use Rattle.fix_request.specs.declared.request.CancelOrder.{CancelOrder}
use Rattle.fix_request.specs.declared.request.ReplaceOrder.{ReplaceOrder}
use Rattle.fix_request.specs.declared.request.Request.{Request}
use Rattle.fix_request.specs.declared.request.Request.TheVariants.{New, Cancel, Replace, Session, Passed, Refused}
use Rattle.plain_book.specs.declared.entry.Entry.{Entry}
use Rattle.plain_book.specs.Orders.{order_of, slot_named, reordered, with_order}
use Rattle.plain_book.specs.Book.{live_orders, changed_to}
use Rattle.order_kinds.specs.State.{State, empty_state}
use Rattle.order_kinds.specs.Amendments.{amended_state}
use Rattle.order_kinds.specs.Histories.{History, of_product, amended, AreRightProducts, length_kept, state_kept, events_kept}
use Rattle.order_kinds.specs.Instruments.{ListedInstrument}
use Rattle.order_kinds.specs.NewOrders.{Terms, terms_of}
use Rattle.order_kinds.specs.Accepting.{new_start, accepted_or_refused, new_step}
use Rattle.order_kinds.specs.Stops.{Naming, by_number}
use Rattle.order_kinds.specs.Cancels.{cancel_by, cancel_step}
use Rattle.order_kinds.specs.Replaces.{replace_terms, least_after, keeps_place, replaced_in_place, replaced_start, replaced_anew, replaced, replaced_or_refused, replace_at, replace_step}
use Rattle.order_kinds.specs.Step.{with_message, open_step_as, closed_step_as, request_step, step_of, state_after, events_from, events_of}
use Rattle.order_kinds.specs.Balance.{total_entered, filled_in, cancelled_in}
use Rattle.order_kinds.specs.declared.core_state.TheConstants.{MOST_MESSAGES}
use Rattle.order_kinds.proofs.SessionSteps.{by-session}
use Rattle.order_kinds.proofs.Refusals.{new-passes, replace-passes}
use Rattle.engine_laws.specs.Bounds.{asked_in, AreWithin, StaysWithin}
use Rattle.engine_laws.proofs.Growth.{entered-within, without-within, Grows, grows-none, grows-within, grows-both, grows-append, come-in-grows}
use Rattle.engine_laws.proofs.Trades.{Rests}
use Rattle.engine_laws.proofs.BalancedRequests.{TellsState}
use Rattle.engine_laws.proofs.BalancedClosings.{session-grows}
use Rattle.engine_laws.proofs.Streams.{step-kept, starts}
use Rattle.engine_laws.proofs.BalancedHistories.{amended-kept, history-kept, histories-balance}

-- ---- one message

-- From a state with these waiting stops, a step asks for at most 999,999 lots, and has at most three events that are no fills and
-- cancel nothing, besides two for each stop that waits no more.
abbrev StepGrows : List Entry → State × List Event → Type 0
StepGrows waiting step = Grows MOST_LOTS 3 [] step.1 waiting step.0.book.waiting

-- one event, and no more stops wait than before
one-grows : (e : Event) (waiting after : List Entry) → asked_in e ≤ MOST_LOTS → length after ≤ length waiting → Grows MOST_LOTS 1 [] (e ∷ []) waiting after
one-grows e waiting after lots fewer = record { lots = omega (arith, lots, sum_by-cons asked_in e []); events = omega (arith, fewer) }

-- one event that asks for nothing
report-grows : (e : Event) (waiting after : List Entry) → asked_in e ≡ 0 → length after ≤ length waiting → Grows MOST_LOTS 3 [] (e ∷ []) waiting after
report-grows e waiting after none fewer = grows-within (omega arith) (omega arith) (one-grows e waiting after (omega (arith, none)) fewer)

quantity-most : (most n : ℕ) → not (nat_le 1 n && nat_le n most) ≡ false → n ≤ most
quantity-most most n h = grind (arith, nat_tests)

new-grows : (naming : Naming) (product : ProductLists) (new : NewOrder) (state : State) → StepGrows state.book.waiting (new_step naming product new state)
new-grows naming product new state =
    let waiting = state.book.waiting in
    let go : (r : Result Terms NewFault) → terms_of product new state ≡ r → StepGrows waiting (accepted_or_refused naming r new state) = elim [
      | Ok terms ↦ λ is.
          let small : new.quantity ≤ MOST_LOTS = quantity-most MOST_LOTS new.quantity (new-passes product new state terms is).quantity in
          let start = new_start terms new state in
          let first : Grows MOST_LOTS 1 [] start.events waiting waiting = one-grows _ waiting waiting small (omega arith) in
          grows-within (omega arith) (omega arith) (grows-both first (come-in-grows naming terms.instrument.rule.steps start))
      | Err f ↦ λ is. report-grows _ waiting waiting refl (omega arith)
    ] in go (terms_of product new state) refl

cancel-grows : (request : CancelOrder) (state : State) → StepGrows state.book.waiting (cancel_step request state)
cancel-grows request state =
    let waiting = state.book.waiting in
    let go : (slot : Option ℕ) → StepGrows waiting (cancel_by slot request state) = elim [
      | None ↦ report-grows _ waiting waiting refl (omega arith)
      | Some slot ↦ report-grows _ waiting _ refl (without-within slot waiting)
    ] in go (slot_named request.sender.firm request.old (live_orders state.book))

module _ (naming : Naming) (product : ProductLists) (request : ReplaceOrder) (state : State) where
  abbrev ReplaceGrows : State × List Event → Type 0
  ReplaceGrows step = StepGrows state.book.waiting step

  in-place-grows : (slot : ℕ) → request.quantity ≤ MOST_LOTS → ReplaceGrows (replaced_in_place request slot state)
  in-place-grows slot small =
      let waiting = state.book.waiting in
      let was = order_of slot (live_orders state.book) in
      let now = changed_to request.id request.quantity (least_after request was) was in
      grows-within (omega arith) (omega arith) (one-grows _ waiting (with_order slot now waiting) small (omega (arith, length-map waiting (reordered slot now))))

  anew-grows : (slot : ℕ) (instrument : ListedInstrument) → request.quantity ≤ MOST_LOTS → ReplaceGrows (replaced_anew naming instrument request slot state)
  anew-grows slot instrument small =
      let waiting = state.book.waiting in
      let start = replaced_start request slot state in
      let first : Grows MOST_LOTS 1 [] start.events waiting start.book.waiting = one-grows _ waiting _ small (without-within slot waiting) in
      grows-within (omega arith) (omega arith) (grows-both first (come-in-grows naming instrument.rule.steps start))

  replaced-grows : (slot : ℕ) (instrument : ListedInstrument) → request.quantity ≤ MOST_LOTS → ReplaceGrows (replaced naming instrument request slot state)
  replaced-grows slot instrument small =
      let go : (c : Bool) → ReplaceGrows (cond c (replaced_in_place request slot state) (replaced_anew naming instrument request slot state)) = elim [
        | true ↦ in-place-grows slot small
        | false ↦ anew-grows slot instrument small
      ] in go (keeps_place request (order_of slot (live_orders state.book)))

  unchanged-grows : (e : Event) → asked_in e ≡ 0 → Grows MOST_LOTS 3 [] (e ∷ []) state.book.waiting state.book.waiting
  unchanged-grows e none = report-grows e state.book.waiting state.book.waiting none (omega arith)

  replace-grows : ReplaceGrows (replace_step naming product request state)
  replace-grows =
      let es = live_orders state.book in
      let by : (slot : ℕ) (r : Result ListedInstrument ChangeFault) → replace_terms product request (order_of slot es) state ≡ r → ReplaceGrows (replaced_or_refused r naming request slot state) = λ slot. elim [
        | Ok instrument ↦ λ is. replaced-grows slot instrument (quantity-most MOST_LOTS request.quantity (replace-passes product request (order_of slot es) state instrument is).quantity)
        | Err f ↦ λ is. unchanged-grows _ refl
      ] in
      let go : (slot : Option ℕ) → ReplaceGrows (replace_at slot naming product request state) = elim [
        | None ↦ unchanged-grows _ refl
        | Some slot ↦ by slot (replace_terms product request (order_of slot es) state) refl
      ] in go (slot_named request.sender.firm request.old es)

-- of each order that rests at least one lot is open
abbrev HasLots : State → Type 0
HasLots state = AllByRecursion Rests state.book.resting

open-grows : (product : ProductLists) (request : Request) (state : State) → HasLots state → StepGrows state.book.waiting (open_step_as by_number product request state)
open-grows product (New order) state rest = new-grows by_number product order state
open-grows product (Cancel order) state rest = cancel-grows order state
open-grows product (Replace order) state rest = replace-grows by_number product order state
open-grows product (Session change) state rest = grows-within (omega arith) (omega arith) (session-grows change state rest)
open-grows product (Passed sender) state rest = grows-within (omega arith) (omega arith) (grows-none [] state.book.waiting)
open-grows product (Refused refusal) state rest = report-grows _ state.book.waiting state.book.waiting refl (omega arith)

closed-grows : (product : ProductLists) (request : Request) (state : State) → HasLots state → StepGrows state.book.waiting (closed_step_as by_number product request state)
closed-grows product (New order) state rest = report-grows _ state.book.waiting state.book.waiting refl (omega arith)
closed-grows product (Replace order) state rest = report-grows _ state.book.waiting state.book.waiting refl (omega arith)
closed-grows product (Cancel order) state rest = open-grows product (Cancel order) state rest
closed-grows product (Session change) state rest = open-grows product (Session change) state rest
closed-grows product (Passed sender) state rest = open-grows product (Passed sender) state rest
closed-grows product (Refused refusal) state rest = open-grows product (Refused refusal) state rest

request-grows : (product : ProductLists) (request : Request) (state : State) → HasLots state → StepGrows state.book.waiting (request_step product request state)
request-grows product request state rest =
    by-session (StepGrows state.book.waiting) by_number product request state (λ in_open. open-grows product request state rest) (λ in_closed. closed-grows product request state rest)

-- ---- all messages

module _ (product : ProductLists) (right : IsRightProduct product) where
  frames-grow : (events : List Event) (state : State) (frames : List (List ℕ)) → TellsState events state
      → Grows (length frames * MOST_LOTS) (length frames * 3) [] (events_from product state frames) state.book.waiting (state_after product state frames).book.waiting
  frames-grow events state [] h = grows-none [] state.book.waiting
  frames-grow events state (frame ∷ frames) h =
      let step = step_of product state frame in
      grows-within (omega arith) (omega arith)
      (grows-append (request-grows product (request_of product frame) (with_message state) h.rest) (frames-grow (events ++ step.1) step.0 frames (step-kept product right events state frame h)))

front-within : (f : Event → ℕ) (events front behind : List Event) → events ≡ front ++ behind → sum_by f front ≤ sum_by f events
front-within f events front behind is = omega (arith, ap (sum_by f) is, sum_by-append f front behind)

-- ---- a history

history-grows : (history : History) → AreRightProducts history → Grows (length_kept history * MOST_LOTS) (length_kept history * 3) [] (events_kept history) [] (state_kept history).book.waiting
history-grows (of_product product messages) right = frames-grow product right [] (empty_state product) messages (starts product right)
history-grows (amended before product messages) right =
    let start = amended_state product (state_kept before) in
    grows-within (omega arith) (omega arith)
    (grows-append (history-grows before right.0) (frames-grow product right.1 (events_kept before) start messages (amended-kept product (events_kept before) (state_kept before) (history-kept before right.0))))

-- After each event of a history its totals, and how many events it has, are within what its messages can bring about.
pub history-within : (history : History) (front behind : List Event) → AreRightProducts history → events_kept history ≡ front ++ behind → AreWithin (length_kept history) front
history-within history front behind right is =
    let events = events_kept history in
    let grown = history-grows history right in
    let balanced = histories-balance history right in
    let all : total_entered events ≤ length_kept history * MOST_LOTS = omega (arith, grown.lots, entered-within 0 events) in
    let long : length events ≡ length front + length behind = ap (λ (es : List Event). length es) is ∙ length-append front behind in
    let asked = front-within asked_in events front behind is in
    record {
      asked = omega (arith, grown.lots, asked);
      entered = omega (arith, grown.lots, asked, entered-within 0 front);
      filled = omega (arith, all, balanced.total, front-within filled_in events front behind is);
      cancelled = omega (arith, all, balanced.total, front-within cancelled_in events front behind is);
      many = omega (arith, all, balanced.total, grown.events, long);
    }

-- And so it is at the end.
pub whole-history-within : (history : History) → AreRightProducts history → AreWithin (length_kept history) (events_kept history)
whole-history-within history right = history-within history (events_kept history) [] right (sym (append-nil (events_kept history)))

-- So it is after each event of the messages of one product.
pub totals-within : (product : ProductLists) (frames : List (List ℕ)) (front behind : List Event) → IsRightProduct product → events_of product frames ≡ front ++ behind → AreWithin (length frames) front
totals-within product frames front behind right is = history-within (of_product product frames) front behind right is

-- ---- counters of 64 bits

-- No total reaches the end of one.
pub total-below : (messages total : ℕ) → messages ≤ MOST_MESSAGES → total ≤ messages * MOST_LOTS → total < 2 ^ 64
total-below messages total few within = omega (arith, few, within)

-- ---- the law

pub histories-stay-within : (history : History) → AreRightProducts history → StaysWithin history
histories-stay-within history right = λ front behind is. history-within history front behind right is
