-- Messages, whatever they are, lead to right states.
use Rattle.std.proofs.Common.{◌≡◌, ℕ, ◌+◌, ◌*◌, ◌<◌, ◌≤◌, true, false, List, [], ◌∷◌, ◌++◌, length, replicate, Option, Some, None, refl, sym, ap, subst, arith, length-append}
use Prim.Native.Nat.{zero, suc}
use Rattle.std.specs.Prelude.{◌^◌, IfSome, slice_index_or}
use Rattle.std.proofs.lemmas.List.{length-replicate}
use Rattle.gx_base.specs.declared.limits.TheConstants.{ADDRESSEES, MOST_LOTS}
use Rattle.gx_base.specs.declared.price.Price.{Price}
use Rattle.gx_base.specs.declared.trading.Trading.TheVariants.{Open}
use Rattle.gx_base.specs.declared.event.NewFault.TheVariants as new_fault
use Rattle.gx_base.specs.declared.event.ChangeFault.TheVariants as change
use Rattle.product_file.specs.Products.{ProductLists, IsRightProduct}
use Rattle.fix_request.specs.Requests.{request_of}
use Rattle.fix_request.specs.ValidRequests.{IsValidRequest}
use Rattle.fix_request.specs.declared.request.CancelOrder.{CancelOrder}
use Rattle.fix_request.specs.declared.request.Refusal.{Refusal}
use Rattle.fix_request.specs.declared.request.Request.{Request}
use Rattle.fix_request.specs.declared.request.Request.TheVariants.{New, Cancel, Replace, Session, Passed, Refused}
use Rattle.plain_book.specs.declared.entry.Entry.{Entry}
use Rattle.plain_book.specs.Orders.{HasSlot, slot_named}
use Rattle.plain_book.specs.Book.{live_orders}
use Rattle.plain_book.proofs.Found.{all-zero}
use Rattle.plain_book.proofs.Right.{live-without}
use Rattle.order_kinds.specs.declared.core_state.TheConstants.{MOST_MESSAGES}
use Rattle.order_kinds.specs.State.{State, empty_state}
use Rattle.order_kinds.specs.Cancels.{cancelled, cancel_by, cancel_step, message_refused}
use Rattle.order_kinds.specs.Stops.{by_number}
use Rattle.order_kinds.specs.TradingSessions.{is_until_cancelled, AreUntilCancelled}
use Rattle.order_kinds.specs.Step.{with_message, open_step_as, closed_step_as, request_step, step_of, state_after, events_from, events_of}
use Rattle.order_kinds.specs.Histories.{of_product}
use Rattle.order_kinds.proofs.SessionSteps.{by-session}
use Rattle.engine_laws.proofs.Bounds.{whole-history-within}
use Rattle.engine_laws.proofs.BalancedRequests.{named-has}
use Rattle.book_image.specs.Rules.{is_price_of}
use Rattle.image_laws.specs.Right.{IsRightState}
use Rattle.image_laws.proofs.Orders.{all-without}
use Rattle.image_laws.proofs.Held.{held-without}
use Rattle.image_laws.proofs.Counted.{counted-report, counted-line, counted-within}
use Rattle.image_laws.proofs.Names.{HasName, request-named, request-valid}
use Rattle.image_laws.proofs.Arriving.{uncrossed-without}
use Rattle.image_laws.proofs.Reached.{IsReached, StepReaches, not-closed}
use Rattle.image_laws.proofs.NewOrders.{refused-reached, new-reached}
use Rattle.image_laws.proofs.Closings.{nothing-reached, session-reached}
use Rattle.image_laws.proofs.Replaces.{unchanged-reached, replace-reached}

-- a state stays right when its message is counted
pub counted-message : (product : ProductLists) (sent bound : ℕ) (state : State) → IsReached product sent bound state → IsReached product (sent + 1) bound (with_message state)
counted-message product sent bound state h = record {
  held = h.held;
  uncrossed = h.uncrossed;
  prices = h.prices;
  lasts = h.lasts;
  lives = h.lives;
  counted = record {
    messages = ap (λ (n : ℕ). n + 1) h.counted.messages;
    orders = refl;
    counts = record { trades = h.counted.counts.trades; reports = h.counted.counts.reports; lines = h.counted.counts.lines };
    lines = h.counted.lines;
  };
  few = omega (arith, h.few);
}

module _ (product : ProductLists) (right : IsRightProduct product) where
  -- ---- cancels and refused messages

  cancelled-reached : (sent bound : ℕ) (request : CancelOrder) (slot : ℕ) (state : State) → HasSlot slot (live_orders state.book) → IsReached product sent bound state → StepReaches product sent bound (cancelled request slot state)
  cancelled-reached sent bound request slot state has h = record {
    held = held-without product state.desk.orders state.book slot has h.held;
    uncrossed = uncrossed-without slot state.book.resting h.uncrossed;
    prices = h.prices;
    lasts = h.lasts;
    lives = λ closed. subst AreUntilCancelled (sym (live-without slot state.book)) (all-without (λ (e : Entry). is_until_cancelled e.order.life ≡ true) slot (live_orders state.book) (h.lives closed));
    counted = counted-report sent state.desk.orders bound state.desk h.counted request.sender.firm;
    few = h.few;
  }

  cancel-reached : (sent bound : ℕ) (request : CancelOrder) (state : State) → IsReached product sent bound state → StepReaches product sent bound (cancel_step request state)
  cancel-reached sent bound request state h =
      let es = live_orders state.book in
      let go : (slot : Option ℕ) → slot_named request.sender.firm request.old es ≡ slot → StepReaches product sent bound (cancel_by slot request state) = elim [
        | None ↦ λ is. unchanged-reached product sent bound request.sender request.id request.old 0 0 false change.Unknown state h
        | Some slot ↦ λ is. cancelled-reached sent bound request slot state (named-has request.sender.firm request.old es slot is) h
      ] in go (slot_named request.sender.firm request.old es) refl

  message-reached : (sent bound : ℕ) (refusal : Refusal) (state : State) → IsReached product sent bound state → StepReaches product sent bound (message_refused refusal state)
  message-reached sent bound refusal state h = record {
    held = h.held;
    uncrossed = h.uncrossed;
    prices = h.prices;
    lasts = h.lasts;
    lives = h.lives;
    counted = counted-line sent state.desk.orders bound state.desk h.counted refusal.firm;
    few = h.few;
  }

  -- ---- one message

  open-reached : (sent bound : ℕ) (request : Request) (state : State) → IsValidRequest product request → HasName request → IsReached product sent bound state → state.desk.orders < sent → state.trading ≡ Open → StepReaches product sent bound (open_step_as by_number product request state)
  open-reached sent bound (New order) state valid name h room is_open = new-reached product right sent bound order state valid name h room is_open
  open-reached sent bound (Cancel order) state valid name h room is_open = cancel-reached sent bound order state h
  open-reached sent bound (Replace order) state valid name h room is_open = replace-reached product right sent bound order state valid name h is_open
  open-reached sent bound (Session change) state valid name h room is_open = session-reached product sent bound state h change
  open-reached sent bound (Passed sender) state valid name h room is_open = nothing-reached product sent bound state h
  open-reached sent bound (Refused refusal) state valid name h room is_open = message-reached sent bound refusal state h

  closed-reached : (sent bound : ℕ) (request : Request) (state : State) → IsValidRequest product request → HasName request → IsReached product sent bound state → state.desk.orders < sent → StepReaches product sent bound (closed_step_as by_number product request state)
  closed-reached sent bound (New order) state valid name h room = refused-reached product right sent bound order state valid name h room new_fault.Closed
  closed-reached sent bound (Replace order) state valid name h room = unchanged-reached product sent bound order.sender order.id order.old 0 0 true change.Closed state h
  closed-reached sent bound (Cancel order) state valid name h room = cancel-reached sent bound order state h
  closed-reached sent bound (Session change) state valid name h room = session-reached product sent bound state h change
  closed-reached sent bound (Passed sender) state valid name h room = nothing-reached product sent bound state h
  closed-reached sent bound (Refused refusal) state valid name h room = message-reached sent bound refusal state h

  request-reached : (sent bound : ℕ) (request : Request) (state : State) → IsValidRequest product request → HasName request → IsReached product sent bound state → state.desk.orders < sent → StepReaches product sent bound (request_step product request state)
  request-reached sent bound request state valid name h room =
      by-session (StepReaches product sent bound) by_number product request state
      (λ is_open. open-reached sent bound request state valid name h room is_open) (λ is_closed. closed-reached sent bound request state valid name h room)

  pub step-reached : (sent bound : ℕ) (state : State) (frame : List ℕ) → IsReached product sent bound state → StepReaches product (sent + 1) bound (step_of product state frame)
  step-reached sent bound state frame h =
      request-reached (sent + 1) bound (request_of product frame) (with_message state) (request-valid product frame) (request-named product frame) (counted-message product sent bound state h) (omega (arith, h.few))

  -- ---- all messages

  pub reached-as : (sent bound sent' bound' : ℕ) (state : State) → sent ≡ sent' → bound ≡ bound' → IsReached product sent bound state → IsReached product sent' bound' state
  reached-as sent bound sent' bound' state s b h = subst (λ (n : ℕ). IsReached product n bound' state) s (subst (λ (n : ℕ). IsReached product sent n state) b h)

  pub frames-reached : (sent bound : ℕ) (state : State) (frames : List (List ℕ)) → IsReached product sent bound state → IsReached product (sent + length frames) (bound + length (events_from product state frames)) (state_after product state frames)
  frames-reached sent bound state [] h = reached-as sent bound (sent + 0) (bound + 0) state (omega arith) (omega arith) h
  frames-reached sent bound state (frame ∷ frames) h =
      let step = step_of product state frame in
      let rest = events_from product step.0 frames in
      reached-as (sent + 1 + length frames) (bound + length step.1 + length rest) (sent + suc (length frames)) (bound + length (step.1 ++ rest)) (state_after product step.0 frames) (omega arith) (omega (arith, length-append step.1 rest))
      (frames-reached (sent + 1) (bound + length step.1) step.0 frames (step-reached sent bound state frame h))

  abbrev no_price : Option Price
  no_price = None

  none-traded : (n j : ℕ) → slice_index_or (replicate n no_price) j None ≡ no_price
  none-traded zero j = refl
  none-traded (suc n) zero = refl
  none-traded (suc n) (suc j) = none-traded n j

  pub starts : IsReached product 0 0 (empty_state product)
  starts = record {
    held = record {
      capacity = refl;
      instruments = refl;
      book = record { rest = tt; wait = tt; differ = tt; named = tt; ordered = tt; lined = tt; tops = tt; few = omega arith; small = omega (arith, right.few_orders) };
      entries = tt;
      tops = tt;
      stops = tt;
    };
    uncrossed = tt;
    prices = length-replicate (length product.names.instruments) None;
    lasts = λ j. subst (λ (x : Option Price). IfSome x (λ price. is_price_of product j price ≡ true)) (sym (none-traded (length product.names.instruments) j)) tt;
    lives = not-closed refl;
    counted = record { messages = refl; orders = refl; counts = record { trades = omega arith; reports = omega arith; lines = λ place. omega (arith, all-zero ADDRESSEES place) }; lines = refl };
    few = omega arith;
  }

-- ---- what has so few messages is right

pub reached-right : (product : ProductLists) (sent bound : ℕ) (state : State) → sent < MOST_MESSAGES → bound ≤ sent * (MOST_LOTS + 3) → IsReached product sent bound state → IsRightState product state
reached-right product sent bound state few most h =
    let same = h.counted.messages in
    let within : bound ≤ state.desk.messages * 2 ^ 38 = omega (arith, most, same) in
    record {
      capacity = h.held.capacity;
      instruments = h.held.instruments;
      book = h.held.book;
      entries = h.held.entries;
      tops = h.held.tops;
      stops = h.held.stops;
      uncrossed = h.uncrossed;
      prices = h.prices;
      lasts = h.lasts;
      lives = h.lives;
      counters = record { orders = omega (arith, h.few, same); messages = omega (arith, few, same); counts = (counted-within sent state.desk.orders bound state.desk h.counted (state.desk.messages * 2 ^ 38) within).counts };
      few = omega (arith, few, same);
      lines = h.counted.lines;
    }

-- ---- the messages of one product

module _ (product : ProductLists) (right : IsRightProduct product) (messages : List (List ℕ)) where
  pub messages-reached : IsReached product (length messages) (length (events_of product messages)) (state_after product (empty_state product) messages)
  messages-reached =
      let many = length (events_of product messages) in
      reached-as product right (0 + length messages) (0 + many) (length messages) many (state_after product (empty_state product) messages) (omega arith) (omega arith)
      (frames-reached product right 0 0 (empty_state product) messages (starts product right))

  pub states-right : length messages < MOST_MESSAGES → IsRightState product (state_after product (empty_state product) messages)
  states-right few =
      reached-right product (length messages) (length (events_of product messages)) (state_after product (empty_state product) messages) few (whole-history-within (of_product product messages) right).many
      messages-reached

  -- each message counts
  pub states-counted : (state_after product (empty_state product) messages).desk.messages ≡ length messages
  states-counted = messages-reached.counted.messages
