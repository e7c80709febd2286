-- Messages of firms have the steps that they have without trading sessions, and leave an open market open.
use Rattle.std.proofs.Common.{◌≡◌, ℕ, Bool, true, false, cond, List, [], ◌∷◌, ◌++◌, Option, Some, None, Result, Ok, Err, refl, ap, ◌∙◌}
use Rattle.gx_base.specs.declared.event.Event.{Event}
use Rattle.gx_base.specs.declared.event.NewFault.{NewFault}
use Rattle.gx_base.specs.declared.event.ChangeFault.{ChangeFault}
use Rattle.gx_base.specs.declared.trading.Trading.TheVariants.{Open}
use Rattle.fix_frame.specs.Grammar.{body_in}
use Rattle.product_file.specs.Products.{ProductLists}
use Rattle.fix_request.specs.SessionRules.{firm_rules}
use Rattle.fix_request.specs.Requests.{request_under, request_of}
use Rattle.fix_request.specs.declared.request.NewOrder.{NewOrder}
use Rattle.fix_request.specs.declared.request.CancelOrder.{CancelOrder}
use Rattle.fix_request.specs.declared.request.ReplaceOrder.{ReplaceOrder}
use Rattle.fix_request.specs.declared.request.Request.{Request}
use Rattle.fix_request.specs.declared.request.Request.TheVariants.{New, Cancel, Replace, Session, Passed, Refused}
use Rattle.fix_request.proofs.FirmRules.{read_as_firms, IsNoChange, no_change}
use Rattle.plain_book.specs.Orders.{order_of, slot_named}
use Rattle.plain_book.specs.Book.{live_orders}
use Rattle.order_kinds.specs.State.{State}
use Rattle.order_kinds.specs.Instruments.{ListedInstrument}
use Rattle.order_kinds.specs.NewOrders.{Terms, terms_of}
use Rattle.order_kinds.specs.Accepting.{accepted_or_refused}
use Rattle.order_kinds.specs.Cancels.{cancel_by}
use Rattle.order_kinds.specs.Replaces.{replace_terms, keeps_place, replaced_in_place, replaced_anew, replaced_or_refused, replace_at}
use Rattle.order_kinds.specs.Stops.{Naming, by_number}
use Rattle.order_kinds.specs.Step.{with_message, open_step_as, step_in, step_of, state_after, events_from}
use Rattle.engine_laws.specs.FirmSteps.{firm_step_of, firm_state_after, firm_events_from, IsOfFirm, AreOfFirms}

-- ---- a step that changes no session leaves the market as it was

-- what a step leaves is in the session of this state
abbrev Stays : State → State × List Event → Type 0
Stays state after = after.0.trading ≡ state.trading

new-stays : (naming : Naming) (r : Result Terms NewFault) (new : NewOrder) (state : State) → Stays state (accepted_or_refused naming r new state)
new-stays naming (Ok terms) new state = refl
new-stays naming (Err f) new state = refl

cancel-stays : (slot : Option ℕ) (request : CancelOrder) (state : State) → Stays state (cancel_by slot request state)
cancel-stays None request state = refl
cancel-stays (Some slot) request state = refl

in-place-or-anew : (state : State) (b : Bool) (x y : State × List Event) → Stays state x → Stays state y → Stays state (cond b x y)
in-place-or-anew state true x y stays _ = stays
in-place-or-anew state false x y _ stays = stays

replaced-stays : (r : Result ListedInstrument ChangeFault) (naming : Naming) (request : ReplaceOrder) (slot : ℕ) (state : State) → Stays state (replaced_or_refused r naming request slot state)
replaced-stays (Ok instrument) naming request slot state =
    in-place-or-anew state (keeps_place request (order_of slot (live_orders state.book))) (replaced_in_place request slot state) (replaced_anew naming instrument request slot state) refl refl
replaced-stays (Err f) naming request slot state = refl

replace-stays : (slot : Option ℕ) (naming : Naming) (product : ProductLists) (request : ReplaceOrder) (state : State) → Stays state (replace_at slot naming product request state)
replace-stays None naming product request state = refl
replace-stays (Some slot) naming product request state =
    replaced-stays (replace_terms product request (order_of slot (live_orders state.book)) state) naming request slot state

step-stays : (naming : Naming) (product : ProductLists) (request : Request) (state : State) → IsNoChange request → Stays state (open_step_as naming product request state)
step-stays naming product (New order) state _ = new-stays naming (terms_of product order state) order state
step-stays naming product (Cancel order) state _ = cancel-stays (slot_named order.sender.firm order.old (live_orders state.book)) order state
step-stays naming product (Replace order) state _ = replace-stays (slot_named order.sender.firm order.old (live_orders state.book)) naming product order state
step-stays naming product (Session change) state none = absurd none
step-stays naming product (Passed sender) state _ = refl
step-stays naming product (Refused refusal) state _ = refl

-- ---- each message

firm-step : (product : ProductLists) (state : State) (frame : List ℕ) → state.trading ≡ Open → IsOfFirm frame → step_of product state frame ≡ firm_step_of product state frame
unfolding request_of
firm-step product state frame is_open of_firm =
    let now = with_message state in
    ap (λ trading. step_in trading by_number product (request_of product frame) now) is_open
    ∙ ap (λ request. open_step_as by_number product request now) (read_as_firms product.names (body_in frame) of_firm)

step-open : (product : ProductLists) (state : State) (frame : List ℕ) → state.trading ≡ Open → (firm_step_of product state frame).0.trading ≡ Open
step-open product state frame is_open =
    let request = request_under firm_rules product.names (body_in frame) in
    step-stays by_number product request (with_message state) (no_change product.names (body_in frame)) ∙ is_open

-- ---- all messages

pub same-events : (product : ProductLists) (frames : List (List ℕ)) (state : State) → state.trading ≡ Open → AreOfFirms frames → events_from product state frames ≡ firm_events_from product state frames
same-events product [] state is_open of_firms = refl
same-events product (frame ∷ frames) state is_open of_firms =
    let after = firm_step_of product state frame in
    ap (λ (now : State × List Event). now.1 ++ events_from product now.0 frames) (firm-step product state frame is_open of_firms.0)
    ∙ ap (λ (events : List Event). after.1 ++ events) (same-events product frames after.0 (step-open product state frame is_open) of_firms.1)

pub same-state : (product : ProductLists) (frames : List (List ℕ)) (state : State) → state.trading ≡ Open → AreOfFirms frames → state_after product state frames ≡ firm_state_after product state frames
same-state product [] state is_open of_firms = refl
same-state product (frame ∷ frames) state is_open of_firms =
    let after = firm_step_of product state frame in
    ap (λ (now : State × List Event). state_after product now.0 frames) (firm-step product state frame is_open of_firms.0)
    ∙ same-state product frames after.0 (step-open product state frame is_open) of_firms.1

stays-open : (product : ProductLists) (frames : List (List ℕ)) (state : State) → state.trading ≡ Open → (firm_state_after product state frames).trading ≡ Open
stays-open product [] state is_open = is_open
stays-open product (frame ∷ frames) state is_open =
    stays-open product frames (firm_step_of product state frame).0 (step-open product state frame is_open)

pub still-open : (product : ProductLists) (frames : List (List ℕ)) (state : State) → state.trading ≡ Open → AreOfFirms frames → (state_after product state frames).trading ≡ Open
still-open product frames state is_open of_firms =
    ap (λ (now : State). now.trading) (same-state product frames state is_open of_firms) ∙ stays-open product frames state is_open
