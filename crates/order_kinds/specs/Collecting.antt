-- What a request does where orders are collected and nothing is matched, for an indicative opening price: our own rule.
use Rattle.std.specs.Prelude.{ℕ, ◌+◌, Bool, true, false, ◌&&◌, ◌==◌, if◌then◌else◌, List, [], ◌∷◌, Option, Some, None, Result, Ok, Err}
use Rattle.gx_base.specs.declared.order.Kind.{Kind}
use Rattle.gx_base.specs.declared.order.Kind.TheVariants.{Limit, Market, StopLimit}
use Rattle.gx_base.specs.declared.event.NewFault.{NewFault}
use Rattle.product_file.specs.Products.{ProductLists}
use Rattle.fix_request.specs.Requests.{request_of}
use Rattle.fix_request.specs.declared.request.NewOrder.{NewOrder}
use Rattle.fix_request.specs.declared.request.Request.{Request}
use Rattle.fix_request.specs.declared.request.Request.TheVariants.{New, Cancel, Replace, Session, Passed, Refused}
use Rattle.plain_book.specs.Orders.{slot_named}
use Rattle.plain_book.specs.Book.{live_orders, book_placed, book_without}
use Rattle.order_kinds.specs.State.{State}
use Rattle.order_kinds.specs.NewOrders.{Terms, may_rest, terms_of, order_on}
use Rattle.order_kinds.specs.Step.{with_message}

abbrev pub is_limit : Kind → Bool
is_limit Limit = true
is_limit Market = false
is_limit StopLimit = false

-- what is collected: a limit order that may rest, without a minimum
abbrev pub is_collected : NewOrder → Bool
is_collected new = is_limit new.kind && (may_rest new.life && (new.min == 0))

-- It comes to rest under the next number and a name in the list (its number in the state of the engine, its slot in that of a
-- core), and does not become TOP. Nothing is matched or reported.
abbrev pub collected_on : ℕ → Terms → NewOrder → State → State
collected_on name terms new state =
    let number = state.desk.orders + 1 in
    record state { book = book_placed name (order_on terms new number) None state.book; desk = record state.desk { orders = number } }

-- where a rule of new orders refuses it, nothing happens
abbrev pub collected_by : (ℕ → ℕ) → Result Terms NewFault → NewOrder → State → State
collected_by name (Ok terms) new state = collected_on (name (state.desk.orders + 1)) terms new state
collected_by name (Err f) new state = state

-- the order of this slot leaves
abbrev pub taken_out : Option ℕ → State → State
taken_out None state = state
taken_out (Some slot) state = record state { book = book_without slot state.book }

-- a new order is collected, or passed over; a cancel takes its order out where it is live; any other request does nothing
abbrev pub collect_step_as : (ℕ → ℕ) → ProductLists → Request → State → State
collect_step_as name product (New new) state = if is_collected new then collected_by name (terms_of product new state) new state else state
collect_step_as name product (Cancel request) state = taken_out (slot_named request.sender.firm request.old (live_orders state.book)) state
collect_step_as name product (Replace request) state = state
collect_step_as name product (Session change) state = state
collect_step_as name product (Passed sender) state = state
collect_step_as name product (Refused refusal) state = state

-- in the state of the engine each order is named by its number, and every message counts
abbrev pub collect_step : ProductLists → Request → State → State
collect_step product request state = collect_step_as (λ number. number) product request (with_message state)

-- the state after these messages were collected
abbrev pub collected : ProductLists → State → List (List ℕ) → State
collected product state [] = state
collected product state (frame ∷ frames) = collected product (collect_step product (request_of product frame) state) frames
