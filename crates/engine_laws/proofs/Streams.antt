-- What the messages of a stream report adds up.
use Rattle.std.proofs.Common.{ℕ, true, List, [], ◌∷◌, ◌++◌, refl, sym, subst, ◌∙◌, arith, append_assoc}
use Rattle.std.proofs.lemmas.List.{append-nil}
use Rattle.gx_base.specs.declared.event.Event.{Event}
use Rattle.gx_base.specs.declared.event.NewFault.TheVariants as new_fault
use Rattle.gx_base.specs.declared.event.ChangeFault.TheVariants as change_fault
use Rattle.product_file.specs.Products.{ProductLists, IsRightProduct}
use Rattle.fix_request.specs.Requests.{request_of}
use Rattle.fix_request.specs.declared.request.Request.{Request}
use Rattle.fix_request.specs.declared.request.Request.TheVariants.{New, Cancel, Replace, Session, Passed, Refused}
use Rattle.plain_book.specs.Book.{live_orders}
use Rattle.order_kinds.specs.State.{State, empty_state}
use Rattle.order_kinds.specs.Stops.{by_number}
use Rattle.order_kinds.specs.Step.{with_message, open_step_as, closed_step_as, request_step, step_of, state_after, events_from}
use Rattle.order_kinds.specs.Balance.{AreBalanced}
use Rattle.order_kinds.specs.Histories.{of_product, IsBalanced}
use Rattle.order_kinds.proofs.SessionSteps.{by-session}
use Rattle.engine_laws.proofs.Events.{fills-add-up}
use Rattle.engine_laws.proofs.Books.{numbered-leaves, total-leaves}
use Rattle.engine_laws.proofs.Trades.{live-by-number}
use Rattle.engine_laws.proofs.Entered.{rest-differ}
use Rattle.engine_laws.proofs.BalancedRequests.{TellsState, TellsStep, refused-kept, unchanged-kept, new-kept, cancel-kept, message-kept}
use Rattle.engine_laws.proofs.Replaces.{replace-kept}
use Rattle.engine_laws.proofs.BalancedClosings.{session-kept}

module _ (product : ProductLists) (right : IsRightProduct product) where
  open-kept : (events : List Event) (request : Request) (state : State) → TellsState events state → TellsStep events (open_step_as by_number product request state)
  open-kept events (New order) state h = new-kept product events order state right h
  open-kept events (Cancel order) state h = cancel-kept events order state h
  open-kept events (Replace order) state h = replace-kept product events order state right h
  open-kept events (Session change) state h = session-kept events change state h
  open-kept events (Passed sender) state h = subst (λ (l : List Event). TellsState l state) (sym (append-nil events)) h
  open-kept events (Refused refusal) state h = message-kept events refusal state h

  closed-kept : (events : List Event) (request : Request) (state : State) → TellsState events state → TellsStep events (closed_step_as by_number product request state)
  closed-kept events (New order) state h = refused-kept events new_fault.Closed order state h
  closed-kept events (Replace order) state h = unchanged-kept events order.sender order.id order.old 0 0 true change_fault.Closed state h
  closed-kept events (Cancel order) state h = open-kept events (Cancel order) state h
  closed-kept events (Session change) state h = open-kept events (Session change) state h
  closed-kept events (Passed sender) state h = open-kept events (Passed sender) state h
  closed-kept events (Refused refusal) state h = open-kept events (Refused refusal) state h

  request-kept : (events : List Event) (request : Request) (state : State) → TellsState events state → TellsStep events (request_step product request state)
  request-kept events request state h = by-session (TellsStep events) by_number product request state (λ in_open. open-kept events request state h) (λ in_closed. closed-kept events request state h)

  pub step-kept : (events : List Event) (state : State) (frame : List ℕ) → TellsState events state → TellsStep events (step_of product state frame)
  step-kept events state frame h =
      request-kept events (request_of product frame) (with_message state) (record { told = h.told; paired = h.paired; rest = h.rest; wait = h.wait })

  pub frames-kept : (events : List Event) (state : State) (frames : List (List ℕ)) → TellsState events state → TellsState (events ++ events_from product state frames) (state_after product state frames)
  frames-kept events state [] h = subst (λ (l : List Event). TellsState l state) (sym (append-nil events)) h
  frames-kept events state (frame ∷ frames) h =
      let step = step_of product state frame in
      subst (λ (l : List Event). TellsState l (state_after product step.0 frames)) (append_assoc events step.1 (events_from product step.0 frames))
      (frames-kept (events ++ step.1) step.0 frames (step-kept events state frame h))

  pub starts : TellsState [] (empty_state product)
  starts = record {
    told = record {
      single = λ k. omega arith;
      given = tt;
      whole = tt;
      filled = tt;
      leaves = λ k. refl;
      fresh = λ k lt. refl;
      reports = tt;
      spent = tt;
      fills = tt;
      total = refl;
    };
    paired = refl;
    rest = tt;
    wait = tt;
  }

pub sound-balances : (events : List Event) (state : State) → TellsState events state → AreBalanced events state
sound-balances events state h =
    let es = live_orders state.book in
    let differ = rest-differ events state.book state.desk.orders state.desk.trades h in
    record {
      reports = h.told.reports;
      expired = h.told.spent;
      fills = fills-add-up events h.told.fills;
      leaves = λ number. h.told.leaves number ∙ numbered-leaves number es (live-by-number state.book h.rest h.wait) differ;
      trades = h.paired;
      total = omega (arith, h.told.total, total-leaves es);
    }

pub streams-balance : (product : ProductLists) (frames : List (List ℕ)) → IsRightProduct product → IsBalanced (of_product product frames)
streams-balance product frames right =
    sound-balances (events_from product (empty_state product) frames) (state_after product (empty_state product) frames) (frames-kept product right [] (empty_state product) frames (starts product right))
