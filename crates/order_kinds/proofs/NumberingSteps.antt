-- What a request does is the same where each order is named by its number, and numbers still differ.
use Rattle.std.proofs.Common.{◌≡◌, ℕ, ◌+◌, ◌≤◌, List, [], ◌∷◌, Option, Some, None, option_map, Result, Ok, Err, refl, sym, subst, ap, ◌∙◌, arith, inl, inr}
use Rattle.std.proofs.lemmas.List.Elements.{filter-append}
use Rattle.gx_base.specs.declared.order.Order.{Order}
use Rattle.gx_base.specs.declared.order.Desk.{Desk}
use Rattle.gx_base.specs.declared.event.Event.{Event}
use Rattle.gx_base.specs.declared.trading.Trading.{Trading}
use Rattle.gx_base.specs.declared.trading.Trading.TheVariants.{Open, Closed}
use Rattle.gx_base.specs.declared.event.NewFault.{NewFault}
use Rattle.product_file.specs.Products.{ProductLists}
use Rattle.fix_request.specs.declared.request.NewOrder.{NewOrder}
use Rattle.fix_request.specs.declared.request.CancelOrder.{CancelOrder}
use Rattle.fix_request.specs.declared.request.Request.{Request}
use Rattle.fix_request.specs.declared.request.Request.TheVariants.{New, Cancel, Replace, Session, Passed, Refused}
use Rattle.plain_book.specs.declared.entry.Entry.{Entry}
use Rattle.plain_book.specs.Orders.{HasSlot, order_of, slot_named}
use Rattle.plain_book.specs.Book.{Book, AllDiffer, live_orders, book_without}
use Rattle.plain_book.specs.Match.{report_counted}
use Rattle.plain_book.specs.Numbers.{numbered, book_numbered}
use Rattle.plain_book.proofs.Pairs.{all-with}
use Rattle.plain_book.proofs.Levels.{AllDiffer-filter}
use Rattle.level_sweep.proofs.Renamed.{live-numbered}
use Rattle.order_kinds.specs.State.{State, state_numbered}
use Rattle.order_kinds.specs.Stops.{Naming, by_number}
use Rattle.order_kinds.specs.NewOrders.{Terms, terms_of}
use Rattle.order_kinds.specs.Accepting.{new_start, accepted, accepted_or_refused, new_step}
use Rattle.order_kinds.specs.Cancels.{cancel_by, cancel_step, order_cancelled}
use Rattle.order_kinds.specs.TradingSessions.{stays, expiring, book_closed, expiry_reports, session_changed}
use Rattle.order_kinds.specs.Step.{open_step_as, closed_step_as, step_in, request_step_as, request_step}
use Rattle.order_kinds.specs.Cores.{AreNumbered}
use Rattle.order_kinds.specs.Inner.Apart.{ComeApart, NewApart, OpenApart, ApartIn, StayApart}
use Rattle.order_kinds.proofs.Kept.{all-left}
use Rattle.order_kinds.proofs.Numbering.{terms-same, named-numbered, named-has}
use Rattle.order_kinds.proofs.NumberingChanges.{found-same, left-same, left-numbers}
use Rattle.order_kinds.proofs.NumberingEntered.{IsIncoming}
use Rattle.order_kinds.proofs.NumberingStops.{outcome_numbered, AreGiven, match-same, match-numbered}
use Rattle.order_kinds.proofs.NumberingReplaces.{replace-same, replace-numbered}
use Rattle.order_kinds.proofs.Closings.{closed-numbered, expiries-numbered, closed-among}

-- no live order has the next number
pub next-lacks : (n : ℕ) (es : List Entry) → AreGiven n es → HasSlot (n + 1) (numbered es) → ⊥
next-lacks n [] given has = has
next-lacks n (e ∷ es) given has = elim has [ inl is ↦ omega (arith, given.0, is) | inr more ↦ next-lacks n es given.1 more ]

-- an order that expires gives no number
expiries-orders : (time : List ℕ) (es : List Entry) (desk : Desk) → (expiry_reports time es desk).0.orders ≡ desk.orders
expiries-orders time [] desk = refl
expiries-orders time (e ∷ es) desk = expiries-orders time es (report_counted desk e.order.firm)

module _ (state : State) (slots : AllDiffer (live_orders state.book)) (are : AreNumbered state) where
  -- ---- a new order

  module _ (naming : Naming) (new : NewOrder) where
    start-incoming : (terms : Terms) → IsIncoming (new_start terms new state)
    start-incoming terms =
        let next = state.desk.orders + 1 in
        record {
          slots = slots;
          numbers = are.differ;
          fresh = λ has. next-lacks state.desk.orders (live_orders state.book) are.given (subst (HasSlot next) (live-numbered state.book) has);
        }

    accepted-same : (terms : Terms) → ComeApart naming terms.instrument.rule.steps (new_start terms new state) → accepted by_number terms new (state_numbered state) ≡ outcome_numbered (accepted naming terms new state)
    accepted-same terms apart = match-same terms.instrument.number state naming terms.instrument.rule.steps (new_start terms new state) (start-incoming terms) apart

    accepted-numbered : (terms : Terms) → ComeApart naming terms.instrument.rule.steps (new_start terms new state) → AreNumbered (accepted naming terms new state).0
    accepted-numbered terms apart =
        let n = state.desk.orders in
        let given : AreGiven (n + 1) (live_orders state.book) =
        all-with (λ (e : Entry). e.order.number ≤ n) (λ (e : Entry). e.order.number ≤ n + 1) (λ e h. omega (arith, h)) (live_orders state.book) are.given in
        match-numbered terms.instrument.number state naming terms.instrument.rule.steps (new_start terms new state) (start-incoming terms) apart given (omega arith)

    by-same : (terms : Result Terms NewFault) → NewApart terms new state naming → accepted_or_refused by_number terms new (state_numbered state) ≡ outcome_numbered (accepted_or_refused naming terms new state)
    by-same (Ok terms) apart = accepted-same terms apart
    by-same (Err f) apart = refl

    by-numbered : (terms : Result Terms NewFault) → NewApart terms new state naming → AreNumbered (accepted_or_refused naming terms new state).0
    by-numbered (Ok terms) apart = accepted-numbered terms apart
    by-numbered (Err f) apart = record { differ = are.differ; given = are.given }

    new-same : (product : ProductLists) → NewApart (terms_of product new state) new state naming → new_step by_number product new (state_numbered state) ≡ outcome_numbered (new_step naming product new state)
    new-same product apart =
        ap (λ (terms : Result Terms NewFault). accepted_or_refused by_number terms new (state_numbered state)) (terms-same product new state)
        ∙ by-same (terms_of product new state) apart

  -- ---- a cancel

  module _ (request : CancelOrder) where
    abbrev asked : Option ℕ
    asked = slot_named request.sender.firm request.old (live_orders state.book)

    cancelled-same : (found : Option ℕ) → asked ≡ found
        → cancel_by (option_map (λ s. (order_of s (live_orders state.book)).number) found) request (state_numbered state) ≡ outcome_numbered (cancel_by found request state)
    cancelled-same None is = refl
    cancelled-same (Some s) is =
        let b = state.book in
        let o = order_of s (live_orders b) in
        let has = named-has request.sender.firm request.old s (live_orders b) is in
        let whole : Book → Order → State × List Event = λ x o.
        (record state { book = x; desk = report_counted state.desk request.sender.firm }, order_cancelled request o state.desk ∷ []) in
        ap (whole (book_without o.number (book_numbered b))) (found-same s b slots are.differ has)
        ∙ ap (λ (x : Book). whole x o) (left-same s b slots are.differ has)

    cancel-same : cancel_step request (state_numbered state) ≡ outcome_numbered (cancel_step request state)
    cancel-same =
        ap (λ (found : Option ℕ). cancel_by found request (state_numbered state)) (named-numbered request.sender.firm request.old state.book slots)
        ∙ cancelled-same asked refl

    cancelled-numbered : (found : Option ℕ) → asked ≡ found → AreNumbered (cancel_by found request state).0
    cancelled-numbered None is = record { differ = are.differ; given = are.given }
    cancelled-numbered (Some s) is =
        let has = named-has request.sender.firm request.old s (live_orders state.book) is in
        record {
          differ = left-numbers s state.book slots are.differ has;
          given = all-left (λ (o : Order). o.number ≤ state.desk.orders) s state.book are.given;
        }

  -- ---- a change of the session

  changed-same : (to from : Trading) (time : List ℕ) → session_changed to from time (state_numbered state) ≡ outcome_numbered (session_changed to from time state)
  changed-same Closed Open time =
      let b = state.book in
      let whole : Book → Desk × List Event → State × List Event = λ x reported. (record state { book = x; desk = reported.0; trading = Closed }, reported.1) in
      ap (whole (book_closed (book_numbered b))) (expiries-numbered time b state.desk)
      ∙ ap (λ (x : Book). whole x (expiry_reports time (expiring b) state.desk)) (sym (closed-numbered b))
  changed-same Open Closed time = refl
  changed-same Open Open time = refl
  changed-same Closed Closed time = refl

  changed-numbered : (to from : Trading) (time : List ℕ) → AreNumbered (session_changed to from time state).0
  changed-numbered Closed Open time =
      let b = state.book in
      record {
        differ = subst (λ (x : Book). AllDiffer (live_orders x)) (sym (closed-numbered b))
            (subst AllDiffer (filter-append stays (book_numbered b).resting (book_numbered b).waiting) (AllDiffer-filter stays (live_orders (book_numbered b)) are.differ));
        given = subst (λ (n : ℕ). AreGiven n (live_orders (book_closed b))) (sym (expiries-orders time (expiring b) state.desk))
            (closed-among (λ (e : Entry). e.order.number ≤ state.desk.orders) b are.given);
      }
  changed-numbered Open Closed time = record { differ = are.differ; given = are.given }
  changed-numbered Open Open time = are
  changed-numbered Closed Closed time = are

  -- ---- any request

  module _ (naming : Naming) (product : ProductLists) where
    open-same : (request : Request) → OpenApart product request state naming → open_step_as by_number product request (state_numbered state) ≡ outcome_numbered (open_step_as naming product request state)
    open-same (New order) apart = new-same naming order product apart
    open-same (Cancel order) apart = cancel-same order
    open-same (Replace order) apart = replace-same naming product order state slots are apart
    open-same (Session change) apart = changed-same change.to state.trading change.time
    open-same (Passed sender) apart = refl
    open-same (Refused refusal) apart = refl

    refused-same : (request : Request) → closed_step_as by_number product request (state_numbered state) ≡ outcome_numbered (closed_step_as naming product request state)
    refused-same (New order) = refl
    refused-same (Cancel order) = open-same (Cancel order) tt
    refused-same (Replace order) = refl
    refused-same (Session change) = open-same (Session change) tt
    refused-same (Passed sender) = refl
    refused-same (Refused refusal) = refl

    in-same : (trading : Trading) (request : Request) → ApartIn trading product request state naming → step_in trading by_number product request (state_numbered state) ≡ outcome_numbered (step_in trading naming product request state)
    in-same Open request apart = open-same request apart
    in-same Closed request apart = refused-same request

    pub step-same : (request : Request) → StayApart product request state naming → request_step product request (state_numbered state) ≡ outcome_numbered (request_step_as naming product request state)
    step-same request apart = in-same state.trading request apart

    open-numbered : (request : Request) → OpenApart product request state naming → AreNumbered (open_step_as naming product request state).0
    open-numbered (New order) apart = by-numbered naming order (terms_of product order state) apart
    open-numbered (Cancel order) apart = cancelled-numbered order (slot_named order.sender.firm order.old (live_orders state.book)) refl
    open-numbered (Replace order) apart = replace-numbered naming product order state slots are apart
    open-numbered (Session change) apart = changed-numbered change.to state.trading change.time
    open-numbered (Passed sender) apart = are
    open-numbered (Refused refusal) apart = record { differ = are.differ; given = are.given }

    refused-numbered : (request : Request) → AreNumbered (closed_step_as naming product request state).0
    refused-numbered (New order) = record { differ = are.differ; given = are.given }
    refused-numbered (Cancel order) = open-numbered (Cancel order) tt
    refused-numbered (Replace order) = record { differ = are.differ; given = are.given }
    refused-numbered (Session change) = open-numbered (Session change) tt
    refused-numbered (Passed sender) = are
    refused-numbered (Refused refusal) = record { differ = are.differ; given = are.given }

    in-numbered : (trading : Trading) (request : Request) → ApartIn trading product request state naming → AreNumbered (step_in trading naming product request state).0
    in-numbered Open request apart = open-numbered request apart
    in-numbered Closed request apart = refused-numbered request

    pub step-numbered : (request : Request) → StayApart product request state naming → AreNumbered (request_step_as naming product request state).0
    step-numbered request apart = in-numbered state.trading request apart
