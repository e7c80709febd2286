-- One message after the other: what each does to the state of the engine, and what is reported.
use Rattle.std.specs.Prelude.{ℕ, ◌+◌, Bool, true, false, List, [], ◌∷◌, ◌++◌, flat_map}
use Rattle.gx_base.specs.Line.{line_of}
use Rattle.gx_base.specs.declared.event.NewFault.TheVariants as new_fault
use Rattle.gx_base.specs.declared.event.ChangeFault.TheVariants as change_fault
use Rattle.gx_base.specs.declared.event.Event.{Event}
use Rattle.gx_base.specs.declared.trading.Trading.{Trading}
use Rattle.gx_base.specs.declared.trading.Trading.TheVariants.{Open, Closed}
use Rattle.product_file.specs.Products.{ProductLists}
use Rattle.fix_request.specs.Requests.{request_of}
use Rattle.fix_request.specs.declared.request.Request.{Request}
use Rattle.fix_request.specs.declared.request.Request.TheVariants.{New, Cancel, Replace, Session, Passed, Refused}
use Rattle.order_kinds.specs.State.{State, empty_state}
use Rattle.order_kinds.specs.Accepting.{refused, new_step}
use Rattle.order_kinds.specs.Stops.{Naming, by_number}
use Rattle.order_kinds.specs.Cancels.{cancel_step, message_refused}
use Rattle.order_kinds.specs.Replaces.{replace_refused, replace_step}
use Rattle.order_kinds.specs.TradingSessions.{session_step}

-- every message counts
abbrev pub with_message : State → State
with_message state = record state { desk = record state.desk { messages = state.desk.messages + 1 } }

-- a session message, which has no report
abbrev pub is_passed : Request → Bool
is_passed (Passed sender) = true
is_passed (New order) = false
is_passed (Cancel order) = false
is_passed (Replace order) = false
is_passed (Session change) = false
is_passed (Refused refusal) = false

-- What a request does while the market is open: the state after it, and its events.
abbrev pub open_step_as : Naming → ProductLists → Request → State → State × List Event
open_step_as naming product (New order) state = new_step naming product order state
open_step_as naming product (Cancel order) state = cancel_step order state
open_step_as naming product (Replace order) state = replace_step naming product order state
open_step_as naming product (Session change) state = session_step change state
open_step_as naming product (Passed sender) state = (state, [])
open_step_as naming product (Refused refusal) state = message_refused refusal state

-- What it does while the market is closed: new orders and replaces are refused before any other rule is tried, and the refusal of a
-- replace names no order. All else is as in an open market.
abbrev pub closed_step_as : Naming → ProductLists → Request → State → State × List Event
closed_step_as naming product (New order) state = refused new_fault.Closed order state
closed_step_as naming product (Replace order) state = replace_refused change_fault.Closed order 0 0 state
closed_step_as naming product (Cancel order) state = open_step_as naming product (Cancel order) state
closed_step_as naming product (Session change) state = open_step_as naming product (Session change) state
closed_step_as naming product (Passed sender) state = open_step_as naming product (Passed sender) state
closed_step_as naming product (Refused refusal) state = open_step_as naming product (Refused refusal) state

-- What it does in a trading session.
abbrev pub step_in : Trading → Naming → ProductLists → Request → State → State × List Event
step_in Open naming product request state = open_step_as naming product request state
step_in Closed naming product request state = closed_step_as naming product request state

-- What a request does, by the session that the state is in.
abbrev pub request_step_as : Naming → ProductLists → Request → State → State × List Event
request_step_as naming product request state = step_in state.trading naming product request state

-- in the state of the engine each order is named by its number
abbrev pub request_step : ProductLists → Request → State → State × List Event
request_step product request state = request_step_as by_number product request state

abbrev pub step_of : ProductLists → State → List ℕ → State × List Event
step_of product state frame = request_step product (request_of product frame) (with_message state)

-- ---- the folds over messages

abbrev pub state_after : ProductLists → State → List (List ℕ) → State
state_after product state [] = state
state_after product state (frame ∷ frames) = state_after product (step_of product state frame).0 frames

abbrev pub events_from : ProductLists → State → List (List ℕ) → List Event
events_from product state [] = []
events_from product state (frame ∷ frames) = (step_of product state frame).1 ++ events_from product (step_of product state frame).0 frames

-- the events of these messages
abbrev pub events_of : ProductLists → List (List ℕ) → List Event
events_of product frames = events_from product (empty_state product) frames

-- the lines of these events, one after the other
abbrev pub lines_of : ProductLists → List Event → List ℕ
lines_of product events = flat_map (line_of product.names) events

-- the reports of these messages
abbrev pub reports_of : ProductLists → List (List ℕ) → List ℕ
reports_of product frames = lines_of product (events_of product frames)
