-- No stop is left waiting that a fill of the message reaches.
use Rattle.std.proofs.Common.{◌≡◌, ℕ, ◌+◌, Bool, true, false, cond, not, List, [], ◌∷◌, filter, length, Option, Some, None, Result, Ok, Err, refl, sym, ap, subst, ◌∙◌, arith}
use Prim.Native.Nat.{zero, suc}
use Rattle.std.specs.Prelude.{◌==◌, ℤ, int_lt}
use Rattle.std.specs.List.{AllByRecursion}
use Rattle.std.proofs.lemmas.Bool.{true≢false}
use Rattle.std.proofs.lemmas.Bool.Decides.{Decides-eqb}
use Rattle.std.proofs.lemmas.Int.{ints}
use Rattle.gx_base.specs.declared.price.Price.{Price}
use Rattle.gx_base.specs.declared.order.Side.{Side}
use Rattle.gx_base.specs.declared.order.Side.TheVariants.{Buy, Sell}
use Rattle.gx_base.specs.declared.order.Desk.{Desk}
use Rattle.gx_base.specs.declared.order.Kind.{Kind}
use Rattle.gx_base.specs.declared.order.Kind.TheVariants.{Limit, Market, StopLimit}
use Rattle.gx_base.specs.declared.event.NewFault.{NewFault}
use Rattle.gx_base.specs.declared.event.ChangeFault.{ChangeFault}
use Rattle.gx_base.specs.declared.event.Event.{Event}
use Rattle.gx_base.specs.declared.event.Event.TheVariants.{Fill}
use Rattle.gx_base.specs.declared.trading.Trading.{Trading}
use Rattle.gx_base.specs.declared.trading.Trading.TheVariants.{Open, Closed}
use Rattle.step_config.specs.declared.step.Step.{Step}
use Rattle.product_file.specs.Products.{ProductLists}
use Rattle.fix_request.specs.declared.request.NewOrder.{NewOrder}
use Rattle.fix_request.specs.declared.request.CancelOrder.{CancelOrder}
use Rattle.fix_request.specs.declared.request.ReplaceOrder.{ReplaceOrder}
use Rattle.fix_request.specs.declared.request.SessionChange.{SessionChange}
use Rattle.fix_request.specs.declared.request.Request.{Request}
use Rattle.fix_request.specs.declared.request.Request.TheVariants.{New, Cancel, Replace, Session, Passed, Refused}
use Rattle.plain_book.specs.declared.entry.Entry.{Entry}
use Rattle.plain_book.specs.Orders.{order_of, slot_named, is_of, stops_of}
use Rattle.plain_book.specs.Book.{live_orders}
use Rattle.plain_book.specs.Match.{MatchState, lengthened, report_counted}
use Rattle.plain_book.proofs.Levels.{same}
use Rattle.plain_book.proofs.Pairs.{all-filter, all-with, all-passing}
use Rattle.order_kinds.specs.OrderRules.{is_reached}
use Rattle.order_kinds.specs.State.{State}
use Rattle.order_kinds.specs.Instruments.{ListedInstrument}
use Rattle.order_kinds.specs.NewOrders.{Terms, terms_of}
use Rattle.order_kinds.specs.Accepting.{new_start, accepted_or_refused, new_step}
use Rattle.order_kinds.specs.Replaces.{replace_terms, keeps_place, replaced_in_place, replaced_start, replaced_anew, replaced_or_refused, replace_at, replace_step}
use Rattle.order_kinds.specs.Cancels.{cancel_by, cancel_step}
use Rattle.order_kinds.specs.Entering.{entered}
use Rattle.order_kinds.specs.Stops.{Naming, fill_range_from, fill_range, stop_end, is_reached_by, first_entry, first_reached, next_stop, stop_triggered, stop_entered, stop_rounds, stops_entered, entered_with_stops, taker_waiting, come_in_as}
use Rattle.order_kinds.specs.TradingSessions.{expiring, expiry_reports, session_changed, session_step}
use Rattle.order_kinds.specs.Step.{closed_step_as}
use Rattle.order_kinds.proofs.Cascade.{entered-instrument}
use Rattle.engine_laws.specs.Stops.{IsUnreached, NoStopIsLeft, LeavesNoStop}
use Rattle.engine_laws.proofs.StopRounds.{stops-end}

-- ---- prices of a range

cond-price : (c : Bool) (a b : Price) → (cond c a b).0 ≡ cond c a.0 b.0
cond-price true a b = refl
cond-price false a b = refl

most-first : (a b t : ℤ) → not (int_lt (cond (int_lt a b) b a) t) ≡ false → not (int_lt a t) ≡ false
most-first a b t h = grind (arith, ints)

most-second : (a b t : ℤ) → not (int_lt (cond (int_lt a b) b a) t) ≡ false → not (int_lt b t) ≡ false
most-second a b t h = grind (arith, ints)

least-first : (a b t : ℤ) → not (int_lt t (cond (int_lt a b) a b)) ≡ false → not (int_lt t a) ≡ false
least-first a b t h = grind (arith, ints)

least-second : (a b t : ℤ) → not (int_lt t (cond (int_lt a b) a b)) ≡ false → not (int_lt t b) ≡ false
least-second a b t h = grind (arith, ints)

module _ (side : Side) (stop : Price) where
  abbrev Unreached : Price → Type 0
  Unreached price = is_reached side stop price ≡ false

  -- no price of a range reaches the stop price
  abbrev AllUnreached : Option (Price × Price) → Type 0
  AllUnreached None = Unit {0}
  AllUnreached (Some range) = Unreached (stop_end side range)

-- nor does one that it was lengthened by
both-unreached : (side : Side) (stop price : Price) (range : Option (Price × Price)) → AllUnreached side stop (lengthened price range) → Unreached side stop price × AllUnreached side stop range
both-unreached Buy stop price None h = (h, tt)
both-unreached Sell stop price None h = (h, tt)
both-unreached Buy stop price (Some range) h =
    let k : not (int_lt (cond (int_lt range.1.0 price.0) price.0 range.1.0) stop.0) ≡ false =
    ap (λ (z : ℤ). not (int_lt z stop.0)) (sym (cond-price (int_lt range.1.0 price.0) price range.1)) ∙ h in
    (most-second range.1.0 price.0 stop.0 k, most-first range.1.0 price.0 stop.0 k)
both-unreached Sell stop price (Some range) h =
    let k : not (int_lt stop.0 (cond (int_lt range.0.0 price.0) range.0.0 price.0)) ≡ false =
    ap (λ (z : ℤ). not (int_lt stop.0 z)) (sym (cond-price (int_lt range.0.0 price.0) range.0 price)) ∙ h in
    (least-second range.0.0 price.0 stop.0 k, least-first range.0.0 price.0 stop.0 k)

-- ---- the fills of a message

-- each fill has a price of which P holds
abbrev EachFill : (Price → Type 0) → List Event → Type 0
EachFill P [] = Unit {0}
EachFill P (Fill head o lots price step trade ∷ events) = P price × EachFill P events
EachFill P (_ ∷ events) = EachFill P events

fills-unreached : (side : Side) (stop : Price) (range : Option (Price × Price)) (events : List Event) → AllUnreached side stop (fill_range_from range events)
    → EachFill (Unreached side stop) events × AllUnreached side stop range
fills-unreached side stop range [] h = (tt, h)
fills-unreached side stop range (Fill head o lots price step trade ∷ events) h =
    let more = fills-unreached side stop (lengthened price range) events h in
    let both = both-unreached side stop price range more.1 in
    ((both.0, more.0), both.1)
fills-unreached side stop range (_ ∷ events) h = fills-unreached side stop range events h

-- ---- the stops that wait

-- a stop of the instrument is reached by no price of the range
abbrev IsPassed : ℕ → Option (Price × Price) → Entry → Type 0
IsPassed instrument range e = e.order.instrument ≡ instrument → AllUnreached e.order.side e.order.trigger range

first-none : (instrument : ℕ) (range : Price × Price) (waiting : List Entry) → first_entry (filter (is_reached_by range) (stops_of instrument waiting)) ≡ None → AllByRecursion (IsPassed instrument (Some range)) waiting
first-none instrument range [] none = tt
first-none instrument range (e ∷ es) none =
    let S = stops_of instrument es in
    let F = filter (is_reached_by range) S in
    let rest = first-none instrument range es in
    let marked : (c : Bool) → is_reached_by range e ≡ c → first_entry (cond c (e ∷ F) F) ≡ None → AllByRecursion (IsPassed instrument (Some range)) (e ∷ es) = elim [
      | true ↦ λ is k. absurd (let no : Some e ≡ None = k in cc)
      | false ↦ λ is k. ((λ _. is), rest k)
    ] in
    let go : (c : Bool) → is_of instrument e ≡ c → first_entry (filter (is_reached_by range) (cond c (e ∷ S) S)) ≡ None → AllByRecursion (IsPassed instrument (Some range)) (e ∷ es) = elim [
      | true ↦ λ on k. marked (is_reached_by range e) refl k
      | false ↦ λ off k. ((λ is. absurd (true≢false (sym (ap (λ (n : ℕ). n == instrument) is ∙ same instrument) ∙ off))), rest k)
    ] in go (is_of instrument e) refl none

all-passed : (instrument : ℕ) (range : Option (Price × Price)) (waiting : List Entry) → first_reached instrument range waiting ≡ None → AllByRecursion (IsPassed instrument range) waiting
all-passed instrument None [] none = tt
all-passed instrument None (e ∷ es) none = ((λ _. tt), all-passed instrument None es none)
all-passed instrument (Some range) waiting none = first-none instrument range waiting none

-- no fill reaches a stop of the instrument
abbrev IsLeft : ℕ → List Event → Entry → Type 0
IsLeft instrument events e = e.order.instrument ≡ instrument → EachFill (Unreached e.order.side e.order.trigger) events

none-left : (instrument : ℕ) (events : List Event) (waiting : List Entry) → AllByRecursion (IsLeft instrument events) waiting → NoStopIsLeft instrument events waiting
none-left instrument [] waiting h = tt
none-left instrument (Fill head o lots price step trade ∷ events) waiting h = (
  all-with (IsLeft instrument (Fill head o lots price step trade ∷ events)) (IsUnreached instrument price) (λ e k is. (k is).0) waiting h,
  none-left instrument events waiting (all-with (IsLeft instrument (Fill head o lots price step trade ∷ events)) (IsLeft instrument events) (λ e k is. (k is).1) waiting h),
)
none-left instrument (_ ∷ events) waiting h = none-left instrument events waiting h

-- if no waiting stop is reached, no fill reaches one
done-left : (m : MatchState) → next_stop m ≡ None → NoStopIsLeft m.taker.order.instrument m.events m.book.waiting
done-left m done =
    let i = m.taker.order.instrument in
    let range = fill_range m.events in
    none-left i m.events m.book.waiting
    (all-with (IsPassed i range) (IsLeft i m.events) (λ e k is. (fills-unreached e.order.side e.order.trigger None m.events (k is)).0) m.book.waiting
    (all-passed i range m.book.waiting done))

-- ---- the instrument of the message

first-of : (instrument : ℕ) (es : List Entry) (e : Entry) → AllByRecursion (λ (x : Entry). x.order.instrument ≡ instrument) es → first_entry es ≡ Some e → e.order.instrument ≡ instrument
first-of instrument [] e a is = absurd (let k : None ≡ Some e = is in cc)
first-of instrument (x ∷ es) e a is = let k : Some x ≡ Some e = is in let here : x ≡ e = cc in subst (λ (y : Entry). y.order.instrument ≡ instrument) here a.0

marked-of : (instrument : ℕ) (range : Option (Price × Price)) (waiting : List Entry) (e : Entry) → first_reached instrument range waiting ≡ Some e → e.order.instrument ≡ instrument
marked-of instrument None waiting e is = absurd (let k : None ≡ Some e = is in cc)
marked-of instrument (Some range) waiting e is =
    let On = λ (x : Entry). x.order.instrument ≡ instrument in
    let stops = all-passing On (is_of instrument) (λ x on. (Decides-eqb x.order.instrument instrument).0 on) waiting in
    first-of instrument (filter (is_reached_by range) (stops_of instrument waiting)) e (all-filter On (is_reached_by range) (stops_of instrument waiting) stops) is

module _ (steps : List Step) where
  abbrev Keeps : MatchState → MatchState → Type 0
  Keeps a b = b.taker.order.instrument ≡ a.taker.order.instrument

  stop-of : (e : Option Entry) (name : ℕ → ℕ) (m : MatchState) → next_stop m ≡ e → Keeps m (stop_entered e name steps m)
  stop-of None name m is = refl
  stop-of (Some e) name m is = entered-instrument (name e.order.number) steps (stop_triggered e m) ∙ marked-of m.taker.order.instrument (fill_range m.events) m.book.waiting e is

  rounds-of : (n : ℕ) (naming : Naming) (m : MatchState) → Keeps m (stop_rounds n naming steps m)
  rounds-of zero naming m = refl
  rounds-of (suc n) naming m = let x = stop_rounds n naming steps m in stop-of (next_stop x) (naming n) x refl ∙ rounds-of n naming m

  -- once an order was entered with the stops that follow, no fill of the message reaches a stop that waits
  pub no-stop-left : (naming : Naming) (m : MatchState) → NoStopIsLeft m.taker.order.instrument (entered_with_stops naming steps m).events (entered_with_stops naming steps m).book.waiting
  no-stop-left naming m =
      let first = entered (naming 0 m.taker.order.number) steps m in
      let names : Naming = λ before. naming (before + 1) in
      let end = stops_entered names steps first in
      let on : Keeps m end = rounds-of (length first.book.waiting) names first ∙ entered-instrument (naming 0 m.taker.order.number) steps m in
      subst (λ (i : ℕ). NoStopIsLeft i end.events end.book.waiting) on (done-left end (stops-end steps names first))

-- ---- messages

-- an order comes in, and no fill before it reaches a stop
come-left : (kind : Kind) (naming : Naming) (steps : List Step) (m : MatchState) → ((waiting : List Entry) → NoStopIsLeft m.taker.order.instrument m.events waiting)
    → NoStopIsLeft m.taker.order.instrument (come_in_as kind naming steps m).events (come_in_as kind naming steps m).book.waiting
come-left StopLimit naming steps m none = none (taker_waiting (naming 0 m.taker.order.number) m).book.waiting
come-left Limit naming steps m none = no-stop-left steps naming m
come-left Market naming steps m none = no-stop-left steps naming m

pub new-left : (naming : Naming) (product : ProductLists) (new : NewOrder) (state : State) (terms : Terms) → terms_of product new state ≡ Ok terms → LeavesNoStop terms.instrument.number (new_step naming product new state)
new-left naming product new state terms is =
    let start = new_start terms new state in
    subst (λ (r : Result Terms NewFault). LeavesNoStop terms.instrument.number (accepted_or_refused naming r new state)) (sym is)
    (come-left start.taker.order.kind naming terms.instrument.rule.steps start (λ waiting. tt))

pub replaced-left : (naming : Naming) (product : ProductLists) (request : ReplaceOrder) (state : State) (slot : ℕ) → slot_named request.sender.firm request.old (live_orders state.book) ≡ Some slot
    → LeavesNoStop (order_of slot (live_orders state.book)).instrument (replace_step naming product request state)
replaced-left naming product request state slot is =
    let before = order_of slot (live_orders state.book) in
    let start = replaced_start request slot state in
    let accepted : (on : ListedInstrument) (stays : Bool) → LeavesNoStop before.instrument (cond stays (replaced_in_place request slot state) (replaced_anew naming on request slot state)) = λ on. elim [
      | true ↦ tt
      | false ↦ come-left start.taker.order.kind naming on.rule.steps start (λ waiting. tt)
    ] in
    let go : (r : Result ListedInstrument ChangeFault) → LeavesNoStop before.instrument (replaced_or_refused r naming request slot state) = elim [
      | Ok on ↦ accepted on (keeps_place request before)
      | Err f ↦ tt
    ] in
    subst (λ (at : Option ℕ). LeavesNoStop before.instrument (replace_at at naming product request state)) (sym is) (go (replace_terms product request before state))

-- ---- messages without fills

-- orders that expire
expiries-left : (time : List ℕ) (es : List Entry) (desk : Desk) (instrument : ℕ) (waiting : List Entry) → NoStopIsLeft instrument (expiry_reports time es desk).1 waiting
expiries-left time [] desk instrument waiting = tt
expiries-left time (e ∷ es) desk instrument waiting = expiries-left time es (report_counted desk e.order.firm) instrument waiting

pub session-left : (change : SessionChange) (state : State) (instrument : ℕ) → LeavesNoStop instrument (session_step change state)
session-left change state instrument =
    let go : (to from : Trading) → LeavesNoStop instrument (session_changed to from change.time state) = elim [
      | Open ↦ elim [ Open ↦ tt | Closed ↦ tt ]
      | Closed ↦ elim [ Open ↦ expiries-left change.time (expiring state.book) state.desk instrument _ | Closed ↦ tt ]
    ] in go change.to state.trading

cancel-left : (request : CancelOrder) (state : State) (instrument : ℕ) → LeavesNoStop instrument (cancel_step request state)
cancel-left request state instrument =
    let go : (slot : Option ℕ) → LeavesNoStop instrument (cancel_by slot request state) = elim [ None ↦ tt | Some slot ↦ tt ] in
    go (slot_named request.sender.firm request.old (live_orders state.book))

-- any message while the market is closed
pub closed-left : (naming : Naming) (product : ProductLists) (request : Request) (state : State) (instrument : ℕ) → LeavesNoStop instrument (closed_step_as naming product request state)
closed-left naming product (New order) state instrument = tt
closed-left naming product (Replace order) state instrument = tt
closed-left naming product (Cancel order) state instrument = cancel-left order state instrument
closed-left naming product (Session change) state instrument = session-left change state instrument
closed-left naming product (Passed sender) state instrument = tt
closed-left naming product (Refused refusal) state instrument = tt
