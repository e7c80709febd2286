-- The slots of the live orders stay apart while the orders of one message come in, one after the other.
use Rattle.std.specs.Prelude.{ℕ, ◌+◌, Bool, true, false, List, Option, Some, None, Result, Ok, Err}
use Rattle.gx_base.specs.declared.order.Kind.{Kind}
use Rattle.gx_base.specs.declared.order.Kind.TheVariants.{Limit, Market, StopLimit}
use Rattle.gx_base.specs.declared.trading.Trading.{Trading}
use Rattle.gx_base.specs.declared.trading.Trading.TheVariants.{Open, Closed}
use Rattle.gx_base.specs.declared.event.NewFault.{NewFault}
use Rattle.gx_base.specs.declared.event.ChangeFault.{ChangeFault}
use Rattle.step_config.specs.declared.step.Step.{Step}
use Rattle.product_file.specs.Products.{ProductLists}
use Rattle.fix_request.specs.declared.request.NewOrder.{NewOrder}
use Rattle.fix_request.specs.declared.request.ReplaceOrder.{ReplaceOrder}
use Rattle.fix_request.specs.declared.request.Request.{Request}
use Rattle.fix_request.specs.declared.request.Request.TheVariants.{New, Cancel, Replace, Session, Passed, Refused}
use Rattle.plain_book.specs.Orders.{order_of, slot_named}
use Rattle.plain_book.specs.Book.{AllDiffer, live_orders}
use Rattle.plain_book.specs.Match.{MatchState}
use Rattle.order_kinds.specs.Instruments.{ListedInstrument}
use Rattle.order_kinds.specs.State.{State}
use Rattle.order_kinds.specs.NewOrders.{Terms, terms_of}
use Rattle.order_kinds.specs.Entering.{entered}
use Rattle.order_kinds.specs.Stops.{Naming, stop_rounds}
use Rattle.order_kinds.specs.Accepting.{new_start}
use Rattle.order_kinds.specs.Replaces.{replace_terms, keeps_place, replaced_start}

-- after the first order was entered, and after each stop
abbrev pub EnterApart : Naming → List Step → MatchState → Type 0
EnterApart naming steps m =
    (turns : ℕ) → AllDiffer (live_orders (stop_rounds turns (λ before. naming (before + 1)) steps (entered (naming 0 m.taker.order.number) steps m)).book)

-- an order that waits is the only one
abbrev pub ComeApartAs : Kind → Naming → List Step → MatchState → Type 0
ComeApartAs StopLimit naming steps m = Unit {0}
ComeApartAs Limit naming steps m = EnterApart naming steps m
ComeApartAs Market naming steps m = EnterApart naming steps m

abbrev pub ComeApart : Naming → List Step → MatchState → Type 0
ComeApart naming steps m = ComeApartAs m.taker.order.kind naming steps m

-- a new order comes in, or is refused
abbrev pub NewApart : Result Terms NewFault → NewOrder → State → Naming → Type 0
NewApart (Ok terms) new state naming = ComeApart naming terms.instrument.rule.steps (new_start terms new state)
NewApart (Err f) new state naming = Unit {0}

-- a replaced order keeps its place, or comes in again
abbrev pub ReplacedApart : Bool → ListedInstrument → ReplaceOrder → ℕ → State → Naming → Type 0
ReplacedApart true instrument request slot state naming = Unit {0}
ReplacedApart false instrument request slot state naming = ComeApart naming instrument.rule.steps (replaced_start request slot state)

abbrev pub ReplaceApartBy : Result ListedInstrument ChangeFault → ReplaceOrder → ℕ → State → Naming → Type 0
ReplaceApartBy (Ok instrument) request slot state naming =
    ReplacedApart (keeps_place request (order_of slot (live_orders state.book))) instrument request slot state naming
ReplaceApartBy (Err f) request slot state naming = Unit {0}

abbrev pub ReplaceApart : Option ℕ → ProductLists → ReplaceOrder → State → Naming → Type 0
ReplaceApart None product request state naming = Unit {0}
ReplaceApart (Some slot) product request state naming =
    ReplaceApartBy (replace_terms product request (order_of slot (live_orders state.book)) state) request slot state naming

-- the orders of a request in an open market
abbrev pub OpenApart : ProductLists → Request → State → Naming → Type 0
OpenApart product (New order) state naming = NewApart (terms_of product order state) order state naming
OpenApart product (Replace order) state naming =
    ReplaceApart (slot_named order.sender.firm order.old (live_orders state.book)) product order state naming
OpenApart product (Cancel order) state naming = Unit {0}
OpenApart product (Session change) state naming = Unit {0}
OpenApart product (Passed sender) state naming = Unit {0}
OpenApart product (Refused refusal) state naming = Unit {0}

-- in a closed market no order comes in
abbrev pub ApartIn : Trading → ProductLists → Request → State → Naming → Type 0
ApartIn Open product request state naming = OpenApart product request state naming
ApartIn Closed product request state naming = Unit {0}

-- the orders of a request
abbrev pub StayApart : ProductLists → Request → State → Naming → Type 0
StayApart product request state naming = ApartIn state.trading product request state naming
