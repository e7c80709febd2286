-- New orders, cancels and refused messages keep what has been told of the open orders.
use Rattle.std.proofs.Common.{◌≡◌, ℕ, ◌+◌, ◌≤◌, Bool, true, false, not, ◌&&◌, nat_le, leb-true, List, [], ◌∷◌, ◌++◌, filter, Option, Some, None, Result, Ok, Err, option_map, slice_get, length, refl, subst, arith}
use Prim.Native.Nat.{zero, suc}
use Rattle.std.specs.Prelude.{◌==◌}
use Rattle.std.specs.List.{AllByRecursion}
use Rattle.gx_base.specs.declared.order.Order.{Order}
use Rattle.gx_base.specs.declared.event.Head.{Head}
use Rattle.gx_base.specs.declared.event.Event.{Event}
use Rattle.gx_base.specs.declared.event.Event.TheVariants.{Accepted}
use Rattle.gx_base.specs.declared.event.Cause.TheVariants.{Asked}
use Rattle.gx_base.specs.declared.event.ChangeFault.{ChangeFault}
use Rattle.gx_base.specs.declared.event.ChangeFault.TheVariants as change
use Rattle.gx_base.specs.declared.event.NewFault.{NewFault}
use Rattle.step_config.specs.RightSteps.{AreRightSteps}
use Rattle.product_file.specs.Products.{ProductLists, IsRightProduct, IsRightInstrument}
use Rattle.product_file.specs.declared.product.InstrumentRule.{InstrumentRule}
use Rattle.fix_request.specs.declared.request.Named.{Named}
use Rattle.fix_request.specs.declared.request.Named.TheVariants.{Known, Unknown}
use Rattle.fix_request.specs.declared.request.NewOrder.{NewOrder}
use Rattle.fix_request.specs.declared.request.CancelOrder.{CancelOrder}
use Rattle.fix_request.specs.declared.request.ReplaceOrder.{ReplaceOrder}
use Rattle.fix_request.specs.declared.request.Refusal.{Refusal}
use Rattle.fix_request.specs.declared.request.Sender.{Sender}
use Rattle.plain_book.specs.declared.entry.Entry.{Entry}
use Rattle.plain_book.specs.Orders.{HasSlot, order_of, slot_named, is_named}
use Rattle.plain_book.specs.Book.{live_orders, book_without}
use Rattle.plain_book.specs.Match.{next_head}
use Rattle.plain_book.proofs.Levels.{HasSlot-filter, and-right}
use Rattle.plain_book.proofs.Live.{first-has}
use Rattle.plain_book.proofs.Pairs.{all-filter}
use Rattle.order_kinds.specs.State.{State}
use Rattle.order_kinds.specs.Instruments.{ListedInstrument, instrument_of}
use Rattle.order_kinds.specs.NewOrders.{Terms, terms_of, order_on}
use Rattle.order_kinds.specs.Reports.{change_refused, unchanged}
use Rattle.order_kinds.specs.Accepting.{refusal, refused, new_start, accepted, accepted_or_refused, new_step}
use Rattle.order_kinds.specs.Replaces.{new_price, is_same_price, keeps_place}
use Rattle.order_kinds.specs.Cancels.{cancelled, cancel_by, cancel_step, order_cancelled, rejected, message_refused}
use Rattle.order_kinds.specs.Stops.{by_number}
use Rattle.order_kinds.specs.Balance.{ArePaired}
use Rattle.order_kinds.proofs.Refusals.{new-passes}
use Rattle.engine_laws.proofs.Events.{paired-append}
use Rattle.engine_laws.proofs.Told.{Account, account, IsTold, TellsNothing, told-none, told-after, unentered, told-numbered}
use Rattle.engine_laws.proofs.Books.{accounts, IsByNumber}
use Rattle.engine_laws.proofs.Trades.{Rests, IsSound, InMatch}
use Rattle.engine_laws.proofs.Entered.{rest-differ, told-cancelled, told-out, come-in-kept}

-- these events tell of the orders of a state
abbrev pub TellsState : List Event → State → Type 0
TellsState events state = IsSound events [] state.book state.desk.orders state.desk.trades

-- with the events of a step they tell of the state after it
abbrev pub TellsStep : List Event → State × List Event → Type 0
TellsStep events step = TellsState (events ++ step.1) step.0

-- ---- nothing changes

event-kept : (events : List Event) (event : Event) (state : State) → TellsNothing event → ArePaired (state.desk.trades + 1) state.desk.trades (event ∷ []) → TellsState events state → TellsState (events ++ event ∷ []) state
event-kept events event state nothing none h = record {
  told = told-none event (accounts (live_orders state.book)) nothing h.told;
  paired = paired-append 1 state.desk.trades state.desk.trades events (event ∷ []) h.paired none;
  rest = h.rest;
  wait = h.wait;
}

pub refused-kept : (events : List Event) (f : NewFault) (new : NewOrder) (state : State) → TellsState events state → TellsStep events (refused f new state)
refused-kept events f new state h =
    let now = event-kept events (refusal f new state.desk) state (record { is = refl; lots = λ k. refl; adds = omega arith; spent = tt; filled = refl; cancelled = refl; enters = λ total. refl }) refl h in
    record { told = now.told; paired = now.paired; rest = now.rest; wait = now.wait }

pub unchanged-kept : (events : List Event) (sender : Sender) (id old : List ℕ) (number filled : ℕ) (replace : Bool) (f : ChangeFault) (state : State) → TellsState events state → TellsStep events (unchanged sender id old number filled replace f state)
unchanged-kept events sender id old number filled replace f state h =
    let now = event-kept events (change_refused sender id old number filled replace f state.desk) state (record { is = refl; lots = λ k. refl; adds = tt; spent = tt; filled = refl; cancelled = refl; enters = λ total. refl }) refl h in
    record { told = now.told; paired = now.paired; rest = now.rest; wait = now.wait }

pub message-kept : (events : List Event) (refusal : Refusal) (state : State) → TellsState events state → TellsStep events (message_refused refusal state)
message-kept events refusal state h =
    let now = event-kept events (rejected refusal state.desk) state (record { is = refl; lots = λ k. refl; adds = tt; spent = tt; filled = refl; cancelled = refl; enters = λ total. refl }) refl h in
    record { told = now.told; paired = now.paired; rest = now.rest; wait = now.wait }

-- each rule of a product has right steps
rule-right : (firms : ℕ) (rules : List InstrumentRule) (i : ℕ) (rule : InstrumentRule) → AllByRecursion (IsRightInstrument firms) rules → slice_get rules i ≡ Some rule → AreRightSteps rule.steps
rule-right firms [] i rule all h = absurd (let k : None ≡ Some rule = h in cc)
rule-right firms (r ∷ rules) zero rule all h = let k : Some r ≡ Some rule = h in let here : r ≡ rule = cc in subst (λ (x : InstrumentRule). AreRightSteps x.steps) here all.0.right_steps
rule-right firms (r ∷ rules) (suc i) rule all h = rule-right firms rules i rule all.1 h

pub instrument-right : (product : ProductLists) (named : Named) (found : ListedInstrument) → IsRightProduct product → instrument_of product named ≡ Some found → AreRightSteps found.rule.steps
instrument-right product Unknown found right h = absurd (let k : None ≡ Some found = h in cc)
instrument-right product (Known number) found right h =
    let go : (rule : Option InstrumentRule) → slice_get product.rules number ≡ rule → option_map (λ r. record { number = number; rule = r }) rule ≡ Some found → AreRightSteps found.rule.steps = elim [
      | None ↦ λ is k. absurd (let e : None ≡ Some found = k in cc)
      | Some r ↦ λ is k.
          let here : ListedInstrument = record { number = number; rule = r } in
          let e : Some here ≡ Some found = k in
          let same : here ≡ found = cc in
          subst (λ (x : ListedInstrument). AreRightSteps x.rule.steps) same (rule-right (length product.names.firms) product.rules number r right.each is)
    ] in go (slice_get product.rules number) refl h

-- ---- new orders

terms-right : (product : ProductLists) (new : NewOrder) (state : State) (terms : Terms) → IsRightProduct product → terms_of product new state ≡ Ok terms → AreRightSteps terms.instrument.rule.steps
terms-right product new state terms right h = instrument-right product new.named terms.instrument right (new-passes product new state terms h).named

told-accepted : {events : List Event} {orders : ℕ} (head : Head) (o : Order) (xs : List Account) → o.number ≡ orders + 1 → o.filled ≡ 0 → o.leaves ≡ o.quantity
    → IsTold events orders xs → IsTold (events ++ Accepted head o ∷ []) (orders + 1) (account o ∷ xs)
told-accepted {events} {orders} head o xs number none all h =
    told-after (Accepted head o) o (unentered (orders + 1)) (account o) xs
    (record {
      is = refl;
      number = number;
      same = number;
      whole = omega (arith, none, all);
      filled = none;
      tells = refl;
      left = refl;
      adds = omega (arith, none, all);
      spent = tt;
      enters = λ total sum others gone within t. omega (arith, t, all);
    }) (told-numbered orders xs h)

start-kept : (events : List Event) (terms : Terms) (new : NewOrder) (state : State) → TellsState events state → InMatch events (new_start terms new state)
start-kept events terms new state h =
    let number = state.desk.orders + 1 in
    let o = order_on terms new number in
    let head = next_head (record state.desk { orders = number }) o.firm new.sender.time in
    record {
      told = told-accepted head o (accounts (live_orders state.book)) refl refl refl h.told;
      paired = paired-append 1 state.desk.trades state.desk.trades events (Accepted head o ∷ []) h.paired refl;
      rest = h.rest;
      wait = h.wait;
    }

accepted-kept : (events : List Event) (terms : Terms) (new : NewOrder) (state : State) → AreRightSteps terms.instrument.rule.steps → TellsState events state → TellsStep events (accepted by_number terms new state)
accepted-kept events terms new state right h =
    let steps = terms.instrument.rule.steps in
    let end = come-in-kept events steps right.each by_number (new_start terms new state) (λ before number. refl) (start-kept events terms new state h) in
    record { told = end.told; paired = end.paired; rest = end.rest; wait = end.wait }

pub new-kept : (product : ProductLists) (events : List Event) (new : NewOrder) (state : State) → IsRightProduct product → TellsState events state → TellsStep events (new_step by_number product new state)
new-kept product events new state right h =
    let go : (r : Result Terms NewFault) → terms_of product new state ≡ r → TellsStep events (accepted_or_refused by_number r new state) = elim [
      | Ok terms ↦ λ is. accepted-kept events terms new state (terms-right product new state terms right is) h
      | Err f ↦ λ is. refused-kept events f new state h
    ] in go (terms_of product new state) refl

-- ---- cancels

pub named-has : (firm : ℕ) (id : List ℕ) (es : List Entry) (slot : ℕ) → slot_named firm id es ≡ Some slot → HasSlot slot es
named-has firm id es slot h = HasSlot-filter (is_named firm id) slot es (first-has slot (filter (is_named firm id) es) h)

cancelled-kept : (events : List Event) (request : CancelOrder) (slot : ℕ) (state : State) → HasSlot slot (live_orders state.book) → TellsState events state → TellsStep events (cancelled request slot state)
cancelled-kept events request slot state has h =
    let b = state.book in
    let o = order_of slot (live_orders b) in
    let differ = rest-differ events b state.desk.orders state.desk.trades h in
    let head = next_head state.desk request.sender.firm request.sender.time in
    record {
      told = told-cancelled head o (Some request.id) Asked (accounts (live_orders (book_without slot b))) (told-out slot b differ has h.told);
      paired = paired-append 1 state.desk.trades state.desk.trades events (order_cancelled request o state.desk ∷ []) h.paired refl;
      rest = all-filter Rests (λ e. not (e.slot == slot)) b.resting h.rest;
      wait = all-filter IsByNumber (λ e. not (e.slot == slot)) b.waiting h.wait;
    }

pub cancel-kept : (events : List Event) (request : CancelOrder) (state : State) → TellsState events state → TellsStep events (cancel_step request state)
cancel-kept events request state h =
    let es = live_orders state.book in
    let go : (slot : Option ℕ) → slot_named request.sender.firm request.old es ≡ slot → TellsStep events (cancel_by slot request state) = elim [
      | None ↦ λ is. unchanged-kept events request.sender request.id request.old 0 0 false change.Unknown state h
      | Some slot ↦ λ is. cancelled-kept events request slot state (named-has request.sender.firm request.old es slot is) h
    ] in go (slot_named request.sender.firm request.old es) refl

-- a replace that leaves an order in its place wants no more than before
pub place-fewer : (request : ReplaceOrder) (was : Order) → keeps_place request was ≡ true → request.quantity ≤ was.quantity
place-fewer request was stays =
    let prices = is_same_price (new_price request.price was.price) was.price in
    let stops = is_same_price (new_price request.trigger was.trigger) was.trigger in
    let fewer = nat_le request.quantity was.quantity in
    leb-true request.quantity was.quantity (and-right stops fewer (and-right prices (stops && fewer) stays))
