-- Each message reports no fill, or does right acts.
use Rattle.std.proofs.Common.{◌≡◌, ◌≢◌, ℕ, ◌+◌, ◌<◌, ◌≤◌, Bool, true, false, cond, ◌&&◌, List, [], ◌∷◌, ◌++◌, length, Option, Some, None, Result, Ok, Err, option_map, refl, sym, ap, subst, ◌∙◌, arith, inl, inr, ◌⊎◌}
use Rattle.std.specs.Prelude.{IfSome, filter, not, ◌==◌, nat_le, ◌-◌}
use Rattle.order_kinds.specs.Balance.{order_in}
use Rattle.std.specs.List.{AllByRecursion}
use Rattle.std.proofs.lemmas.Bool.Decides.{eqb_tells, nat_tests, Decides-int_eq}
use Rattle.gx_base.specs.Texts.{is_name}
use Rattle.gx_base.specs.declared.price.Price.{Price}
use Rattle.gx_base.specs.declared.order.Side.{Side}
use Rattle.gx_base.specs.declared.order.Desk.{Desk}
use Rattle.gx_base.specs.declared.order.Kind.{Kind}
use Rattle.gx_base.specs.declared.order.Kind.TheVariants.{Limit, Market, StopLimit}
use Rattle.step_config.specs.declared.step.Step.{Step}
use Rattle.gx_base.specs.declared.order.Life.{Life}
use Rattle.gx_base.specs.declared.order.Life.TheVariants.{Day, Gtc, Fak, Fok}
use Rattle.gx_base.specs.declared.order.Order.{Order}
use Rattle.gx_base.specs.declared.event.Event.{Event}
use Rattle.gx_base.specs.declared.trading.Trading.{Trading}
use Rattle.gx_base.specs.declared.trading.Trading.TheVariants.{Open, Closed}
use Rattle.gx_base.specs.declared.event.NewFault.{NewFault}
use Rattle.gx_base.specs.declared.event.ChangeFault.{ChangeFault}
use Rattle.product_file.specs.Products.{ProductLists, IsRightProduct, has_top_by}
use Rattle.product_file.specs.Amendments.{may_follow}
use Rattle.fix_request.specs.Requests.{request_of}
use Rattle.fix_request.specs.ValidRequests.{IsValidRequest, IsValidNew, IsValidReplace, HasPricesOf}
use Rattle.fix_request.specs.declared.request.NewOrder.{NewOrder}
use Rattle.fix_request.specs.declared.request.CancelOrder.{CancelOrder}
use Rattle.fix_request.specs.declared.request.ReplaceOrder.{ReplaceOrder}
use Rattle.fix_request.specs.declared.request.Px.{Px}
use Rattle.fix_request.specs.declared.request.Px.TheVariants.{Absent}
use Rattle.fix_request.specs.declared.request.Request.{Request}
use Rattle.fix_request.specs.declared.request.SessionChange.{SessionChange}
use Rattle.fix_request.specs.declared.request.Request.TheVariants.{New, Cancel, Replace, Session, Passed, Refused}
use Rattle.plain_book.specs.declared.entry.Entry.{Entry}
use Rattle.plain_book.specs.Orders.{HasSlot, level_of, order_of, best_of, opposite, is_of, slot_named, without, with_order}
use Rattle.plain_book.specs.Book.{Book, live_orders, AllRest, AllWait, IsResting, IsWaiting, book_without, changed_to}
use Rattle.plain_book.specs.Match.{MatchState}
use Rattle.plain_book.proofs.Right.{live-without}
use Rattle.plain_book.proofs.Walks.{HasSlot-before}
use Rattle.plain_book.proofs.Levels.{AllDiffer-front, renewed, HasSlot-filter, HasSlot-left, HasSlot-right, is_side-same, HasSlot-either, order_of-left, order_of-right, slots-apart, without-none}
use Rattle.plain_book.proofs.Pairs.{pairs-filter, all-from, all-filter, all-both, all-with, all-append, all-front, all-back}
use Rattle.plain_book.proofs.Live.{fit_of, orders-at}
use Rattle.order_kinds.specs.State.{State, empty_state}
use Rattle.order_kinds.specs.Instruments.{ListedInstrument, protected_limit, tick_of, is_off_tick, price_at}
use Rattle.order_kinds.specs.OrderRules.{is_reached, is_reached_already, is_stop_reached, last_of, stop_price}
use Rattle.order_kinds.specs.Entering.{last_fill, last_after}
use Rattle.order_kinds.specs.NewOrders.{Terms, terms_of, limit_of, least_of, order_on}
use Rattle.order_kinds.specs.Accepting.{new_start, new_of, accepted, accepted_or_refused, new_step, after_match}
use Rattle.order_kinds.specs.Cancels.{cancel_by, cancel_step}
use Rattle.order_kinds.specs.Replaces.{least_kept, least_after, new_price, is_same_price, keeps_place, replaced_order, replaced_start, replaced_anew, replaced_in_place, replaced, replaced_or_refused, replace_at, replace_terms, replace_step}
use Rattle.order_kinds.specs.Stops.{by_number, taker_waiting, come_in_as, come_in}
use Rattle.order_kinds.specs.TradingSessions.{stays, expires, expiring, book_closed, market_closed, session_changed, session_step}
use Rattle.order_kinds.specs.Step.{with_message, open_step_as, closed_step_as, request_step, step_of, events_from}
use Rattle.order_kinds.specs.Amendments.{amended_state}
use Rattle.order_kinds.specs.Histories.{History, of_product, amended, AreRightProducts, IsHistory, last_product, length_kept, state_kept, events_kept}
use Rattle.order_kinds.proofs.SessionSteps.{by-session}
use Rattle.order_kinds.proofs.Amended.{follows}
use Rattle.order_kinds.proofs.Terms.{no-trigger}
use Rattle.order_kinds.proofs.Refusals.{PassesAsNew, new-passes, PassesAsReplace, replace-passes}
use Rattle.engine_laws.proofs.BalancedRequests.{instrument-right, named-has}
use Rattle.image_laws.specs.Right.{IsRightEntry}
use Rattle.image_laws.proofs.Orders.{named, IsWas, all-was, IsOther, others-lack, lacks-others, all-renewed, all-without, all-lined}
use Rattle.image_laws.proofs.Prices.{either-right}
use Rattle.image_laws.proofs.Held.{entry-at}
use Rattle.image_laws.proofs.Names.{HasName, request-named, request-valid}
use Rattle.image_laws.proofs.Reached.{IsReached}
use Rattle.image_laws.proofs.NewOrders as news
use Rattle.image_laws.proofs.Replaces as replaces
use Rattle.order_kinds.proofs.LiveOrders.{named-own}
use Rattle.image_laws.proofs.States.{counted-message, step-reached, starts}
use Rattle.image_laws.proofs.Histories.{history-reached}
use Rattle.image_laws.proofs.Amended.{reached-follows}
use Rattle.engine_laws.proofs.BalancedClosings.{live-closed}
use Rattle.market_laws.specs.Streams.{OfEachReport}
use Rattle.market_laws.specs.Acts.{Act, EachAct, IsNoFill, HasNoFill, IsAnnounced, BringsNoOrder, DoesActs}
use Rattle.market_laws.specs.Trades.{IsProtected, IsProtectedMarket}
use Rattle.market_laws.specs.RightActs.{IsRightAct, IsAllOrNothing}
use Rattle.market_laws.proofs.Chains.{Leads, each-with}
use Rattle.market_laws.proofs.Sound.{IsByNumber, number-at, IsSound}
use Rattle.market_laws.specs.Lines.{StandsBefore, LosesPlace, LetsPass, HasReport, KeepsTheLine}
use Rattle.market_laws.specs.Markets.{IsReportOn, IsExpiry, KeepsMarketsApart, IsOut, IsNotOn, KeepsOut, IsUnreached, IsNoStopReached, ReachesNone, LeavesNoneReached}
use Rattle.market_laws.specs.Firms.{has_firm}
use Rattle.market_laws.proofs.FirmSums.{Adds, book_open, adds-same, adds-none, adds-nothing, AddsComing, AddsIn, accepted-adds, replaced-adds, open-without, open-with, cancelled-adds, close-adds}
use Rattle.market_laws.proofs.Passing.{before-with, before-without, before-filter, has-first, has-second, Stands, acts-stand, stands-end}
use Rattle.market_laws.proofs.Outs.{IsSilent, acts-silent, acts-orders}
use Rattle.market_laws.proofs.Apart.{IsElsewhere, of-without, of-with, not-here, last-elsewhere, elsewhere, acts-here, acts-same}
use Rattle.market_laws.proofs.StopsReached.{with-stops-unreached, with-stops-leave-none}
use Rattle.market_laws.proofs.TopFirst.{NoTopAfter, TopsFirst, KeepsLevel, first-with, acts-first}
use Rattle.market_laws.proofs.Reports.{KeepsRules, acts-tell}
use Rattle.market_laws.proofs.Closings.{each-expiry, expiry-orders, filters-swap}
use Rattle.market_laws.proofs.Coming.{IsAsked, come-in-leads}

abbrev pub RightActs : ProductLists → List Act → MatchState → Type 0
RightActs product acts start = EachAct IsSound acts start × IsProtectedMarket product start

-- what is to be shown of a message
pub record IsRightMessage (product : ProductLists) (state : State) (step : State × List Event) : Type 0 where
  pub does : BringsNoOrder state step ⊎ DoesActs (RightActs product) state step
  pub told : AllByRecursion KeepsRules step.1
  pub market : KeepsMarketsApart state step
  pub line : KeepsTheLine state step
  pub firms : (firm : ℕ) (told : List Event) → Adds firm told (book_open firm state.book) → Adds firm (told ++ step.1) (book_open firm step.0.book)
  pub out : (n : ℕ) → IsOut n state → KeepsOut n step
  pub fills : LeavesNoneReached step
  pub stops : IsNoStopReached state → IsNoStopReached step.0
  pub tops : TopsFirst state.book.resting → TopsFirst step.0.book.resting

-- ---- one report

-- a message that changes nothing, and is told in a report that is none of an order
told-alone : (product : ProductLists) (state : State) (desk : Desk) (event : Event) → order_in event ≡ None → HasNoFill (event ∷ []) → KeepsRules event → IsReportOn 0 event → ((n : ℕ) → IsNotOn n event) → ReachesNone state.book.waiting event → desk.orders ≡ state.desk.orders
    → IsRightMessage product state (record state { desk = desk }, event ∷ [])
told-alone product state desk event no_order none told on not_on reaches orders = record {
  does = inl (record { fills = none; live = λ n h. h });
  told = (told, tt);
  market = inl (record { instrument = 0; reports = (on, tt); others = λ j other. record { resting = refl; waiting = refl; last = refl } });
  fills = (reaches, tt);
  line = λ a b h x y. inl h;
  firms = λ firm told k. adds-none firm told event (book_open firm state.book) (ap (has_firm firm) no_order) k;
  out = λ n h. record { reports = (not_on n, tt); out = record { given = omega (arith, h.given, orders); gone = h.gone } };
  stops = λ h. h;
  tops = λ h. h;
}

-- ---- an order that comes in

-- how it starts
pub record Starts (product : ProductLists) (state : State) (start : MatchState) : Type 0 where
  pub book : start.book ≡ book_without start.taker.order.number state.book
  pub reported : IsAnnounced start
  pub rules : AllByRecursion KeepsRules start.events
  pub on : AllByRecursion (IsReportOn start.taker.order.instrument) start.events
  pub by : (n : ℕ) → start.taker.order.number ≢ n → AllByRecursion (IsNotOn n) start.events
  pub orders : state.desk.orders ≤ start.desk.orders
  pub far : (j : ℕ) → j ≢ start.taker.order.instrument → AllByRecursion (IsElsewhere j start.taker.order.number) (live_orders state.book)
  pub fresh : (n : ℕ) → IsOut n state → start.taker.order.number ≢ n
  pub firms : (firm : ℕ) (told : List Event) → Adds firm told (book_open firm state.book) → AddsComing firm told start
  pub passed : (a b : ℕ) → (start.taker.order.number ≡ a) ⊎ (start.taker.order.number ≡ b) → StandsBefore a b state.book.resting → HasReport (LetsPass state.book.resting a b) start.events
  pub protected : IsProtectedMarket product start

-- right acts from there, which leave no stop reached
acts-done : (product : ProductLists) (state : State) (start end : MatchState) → Starts product state start → Leads IsSound start end → ((firm : ℕ) (told : List Event) → AddsComing firm told start → AddsIn firm told end)
    → (AllByRecursion (IsReportOn start.taker.order.instrument) end.events → AllByRecursion (ReachesNone end.book.waiting) end.events)
    → (IsNoStopReached state → IsNoStopReached (after_match start.taker.order.instrument state end).0)
    → IsRightMessage product state (after_match start.taker.order.instrument state end)
acts-done product state start end s l adds fills stops =
    let i = start.taker.order.instrument in
    let number = start.taker.order.number in
    let b = state.book in
    let step = after_match i state end in
    let here = acts-here i l.acts start l.each (record { incoming = refl; reports = s.on }) in
    let on : AllByRecursion (IsReportOn i) end.events = subst (λ (m : MatchState). AllByRecursion (IsReportOn i) m.events) l.end here.reports in
    record {
      does = inr (record {
        start = start;
        acts = l.acts;
        are = record { book = s.book; reported = s.reported; end = ap (after_match i state) (sym l.end) };
        law = (l.each, s.protected);
      });
      told = subst (λ (m : MatchState). AllByRecursion KeepsRules m.events) l.end (acts-tell l.acts start (each-with IsSound IsRightAct (λ act m h. h.is) l.acts start l.each) s.rules);
      market =
          inl (record {
            instrument = i;
            reports = on;
            others = λ j other.
                let same = acts-same i j other l.acts start l.each (record { incoming = refl; reports = s.on }) in
                let far = s.far j other in
                record {
                  resting = ap (λ (m : MatchState). filter (is_of j) m.book.resting) (sym l.end) ∙ same.resting ∙ ap (λ (x : Book). filter (is_of j) x.resting) s.book ∙ of-without j number b.resting (all-front (IsElsewhere j number) b.resting b.waiting far);
                  waiting = ap (λ (m : MatchState). filter (is_of j) m.book.waiting) (sym l.end) ∙ same.waiting ∙ ap (λ (x : Book). filter (is_of j) x.waiting) s.book ∙ of-without j number b.waiting (all-back (IsElsewhere j number) b.resting b.waiting far);
                  last = last-elsewhere j i (last_fill end.events) state.last other;
                };
          });
      fills = fills on;
      firms = λ firm told k. adds firm told (s.firms firm told k);
      line = λ a b_ h x y.
          let goes : StandsBefore a b_ (without number b.resting) → Stands b.resting a b_ start = λ k. inl (subst (λ (z : Book). StandsBefore a b_ z.resting) (sym s.book) k) in
          let begins : Stands b.resting a b_ start = elim (eqb_tells number a) [
            | inl first ↦ inr (inl (s.passed a b_ (inl first.1) h))
            | inr not_first ↦ elim (eqb_tells number b_) [
              | inl second ↦ inr (inl (s.passed a b_ (inr second.1) h))
              | inr not_second ↦ goes (before-without a b_ number b.resting (λ is. not_first.1 (sym is)) (λ is. not_second.1 (sym is)) h)
            ]
          ] in stands-end b.resting a b_ end x y (subst (Stands b.resting a b_) l.end (acts-stand b.resting a b_ l.acts start l.each begins));
      out = λ n h.
          let other = s.fresh n h in
          let was = lacks-others n (live_orders b) h.gone in
          let rest : AllByRecursion (IsOther n) start.book.resting = subst (λ (x : Book). AllByRecursion (IsOther n) x.resting) (sym s.book) (all-without (IsOther n) number b.resting (all-front (IsOther n) b.resting b.waiting was)) in
          let wait : AllByRecursion (IsOther n) start.book.waiting = subst (λ (x : Book). AllByRecursion (IsOther n) x.waiting) (sym s.book) (all-without (IsOther n) number b.waiting (all-back (IsOther n) b.resting b.waiting was)) in
          let now : IsSilent n end = subst (IsSilent n) l.end (acts-silent n l.acts start l.each (record { away = record { incoming = other; rest = rest; wait = wait }; reports = s.by n other })) in
          let count : end.desk.orders ≡ start.desk.orders = ap (λ (m : MatchState). m.desk.orders) (sym l.end) ∙ acts-orders l.acts start in
          record {
            reports = now.reports;
            out = record { given = omega (arith, h.given, s.orders, count); gone = others-lack n (live_orders end.book) (all-append (IsOther n) end.book.resting end.book.waiting now.away.rest now.away.wait) };
          };
      stops = stops;
      tops = λ first.
          let gone : TopsFirst start.book.resting = subst (λ (x : Book). TopsFirst x.resting) (sym s.book) (pairs-filter NoTopAfter (λ e. not (e.slot == number)) b.resting first) in
          subst (λ (m : MatchState). TopsFirst m.book.resting) l.end (acts-first l.acts start l.each gone);
    }

-- what an order that comes in leaves unreached: the stops that wait, and itself where it waits
come-in-unreached : (steps : List Step) (m : MatchState) (last : List (Option Price)) → last_fill m.events ≡ None → AllByRecursion (IsUnreached last) m.book.waiting
    → (m.taker.order.kind ≡ StopLimit → IsUnreached last (named m.taker.order.number (record m.taker.order { shown = 0 })))
    → let end = come_in by_number steps m in AllByRecursion (IsUnreached (last_after m.taker.order.instrument (last_fill end.events) last)) end.book.waiting
come-in-unreached steps m last none h own =
    let i = m.taker.order.instrument in
    let Goal = λ (end : MatchState). AllByRecursion (IsUnreached (last_after i (last_fill end.events) last)) end.book.waiting in
    let o = m.taker.order in
    let go : (kind : Kind) → o.kind ≡ kind → Goal (come_in_as kind by_number steps m) = elim [
      | Limit ↦ λ is. with-stops-unreached steps by_number m last h
      | Market ↦ λ is. with-stops-unreached steps by_number m last h
      | StopLimit ↦ λ is.
          subst (λ (price : Option Price). AllByRecursion (IsUnreached (last_after i price last)) (taker_waiting o.number m).book.waiting) (sym none)
          (all-lined (IsUnreached last) (named o.number (record o { shown = 0 })) m.book.waiting (own is) h)
    ] in go o.kind refl

-- nor does a fill of it reach a stop that is left
come-in-leaves-none : (steps : List Step) (m : MatchState) → ((waiting : List Entry) → AllByRecursion (ReachesNone waiting) m.events)
    → let end = come_in by_number steps m in AllByRecursion (IsReportOn m.taker.order.instrument) end.events → AllByRecursion (ReachesNone end.book.waiting) end.events
come-in-leaves-none steps m none =
    let o = m.taker.order in
    let Goal = λ (end : MatchState). AllByRecursion (IsReportOn o.instrument) end.events → AllByRecursion (ReachesNone end.book.waiting) end.events in
    let go : (kind : Kind) → Goal (come_in_as kind by_number steps m) = elim [
      | Limit ↦ λ on. with-stops-leave-none steps by_number m on
      | Market ↦ λ on. with-stops-leave-none steps by_number m on
      | StopLimit ↦ λ on. none (taker_waiting o.number m).book.waiting
    ] in go o.kind

-- a stop that was not refused
already-unreached : (side : Side) (stop : Price) (last : Option Price) → is_reached_already side (Some stop) last ≡ false → IfSome last (λ p. is_reached side stop p ≡ false)
already-unreached side stop None h = tt
already-unreached side stop (Some p) h = h

fok-least : (life : Life) (new : NewOrder) → life ≡ Fok → least_of life new ≡ new.quantity
fok-least Fok new is = refl
fok-least Day new is = absurd (let k : Day ≡ Fok = is in cc)
fok-least Gtc new is = absurd (let k : Gtc ≡ Fok = is in cc)
fok-least Fak new is = absurd (let k : Fak ≡ Fok = is in cc)

fok-kept : (life : Life) (least quantity : ℕ) → life ≡ Fok → least_kept life least quantity ≡ quantity
fok-kept Fok least quantity is = refl
fok-kept Day least quantity is = absurd (let k : Day ≡ Fok = is in cc)
fok-kept Gtc least quantity is = absurd (let k : Gtc ≡ Fok = is in cc)
fok-kept Fak least quantity is = absurd (let k : Fak ≡ Fok = is in cc)

none-kept : (life : Life) (least quantity : ℕ) → (life ≡ Day) ⊎ (life ≡ Gtc) → least ≡ 0 → least_kept life least quantity ≡ 0
none-kept Day least quantity is none = omega (arith, none)
none-kept Gtc least quantity is none = omega (arith, none)
none-kept Fak least quantity is none = absurd (elim is [ inl k ↦ (let e : Fak ≡ Day = k in cc) | inr k ↦ (let e : Fak ≡ Gtc = k in cc) ])
none-kept Fok least quantity is none = absurd (elim is [ inl k ↦ (let e : Fok ≡ Day = k in cc) | inr k ↦ (let e : Fok ≡ Gtc = k in cc) ])

not-fok : (life : Life) → (life ≡ Day) ⊎ (life ≡ Gtc) → life ≡ Fok → ⊥
not-fok life is fok = elim is [
  | inl k ↦ (let e : Day ≡ Fok = sym k ∙ fok in cc)
  | inr k ↦ (let e : Gtc ≡ Fok = sym k ∙ fok in cc)
]

-- a live order that leaves has traded nothing, or has no minimum
live-all-or-nothing : (b : Book) → AllRest b.instruments b.resting → AllWait b.instruments b.waiting → AllByRecursion (λ (e : Entry). IsAllOrNothing e.order) (live_orders b)
live-all-or-nothing b rest wait =
    let P = λ (e : Entry). IsAllOrNothing e.order in
    all-append P b.resting b.waiting
    (all-with (λ (e : Entry). IsResting b.instruments e.order) P (λ e r. record { minimum = inr (omega (arith, r.fit.no_min)); fok = λ fok. absurd (not-fok e.order.life r.fit.life fok) }) b.resting rest)
    (all-with (λ (e : Entry). IsWaiting b.instruments e.order) P (λ e w. record { minimum = inl w.fit.unfilled; fok = λ fok. w.fit.unfilled }) b.waiting wait)

live-whole : (b : Book) → AllRest b.instruments b.resting → AllWait b.instruments b.waiting → AllByRecursion (λ (e : Entry). e.order.filled + e.order.leaves ≡ e.order.quantity) (live_orders b)
live-whole b rest wait =
    let P = λ (e : Entry). e.order.filled + e.order.leaves ≡ e.order.quantity in
    all-append P b.resting b.waiting
    (all-with (λ (e : Entry). IsResting b.instruments e.order) P (λ e r. r.fit.whole) b.resting rest)
    (all-with (λ (e : Entry). IsWaiting b.instruments e.order) P (λ e w. omega (arith, w.fit.unfilled, w.fit.whole)) b.waiting wait)

more-than : (a b : ℕ) → nat_le a b ≡ false → b < a
more-than a b h = grind (arith, nat_tests)

-- a replace that does not keep the place of an order without a stop price raises its quantity or changes its price
same-price-self : (price : Price) → is_same_price price price ≡ true
same-price-self price = (Decides-int_eq price.0 price.0).1 refl

loses-place : (request : ReplaceOrder) (was : Order) → keeps_place request was ≡ false → request.trigger ≡ Absent → LosesPlace was (replaced_order request was)
loses-place request was moves absent =
    let price = new_price request.price was.price in
    let trigger = new_price request.trigger was.trigger in
    let go : (p t q : Bool) → is_same_price price was.price ≡ p → is_same_price trigger was.trigger ≡ t → nat_le request.quantity was.quantity ≡ q → (p && (t && q)) ≡ false → LosesPlace was (replaced_order request was) = elim [
      | false ↦ λ t q is _ _ _. inr (λ same. (let e : true ≡ false = sym (same-price-self was.price) ∙ ap (λ (x : Price). is_same_price x was.price) same ∙ is in cc))
      | true ↦ elim [
        | false ↦ λ q _ is _ _. absurd (let e : true ≡ false = sym (same-price-self was.trigger) ∙ sym (ap (λ (x : Px). is_same_price (new_price x was.trigger) was.trigger) absent) ∙ is in cc)
        | true ↦ elim [
          | false ↦ λ _ _ is _. inl (more-than request.quantity was.quantity is)
          | true ↦ λ _ _ _ k. absurd (let e : true ≡ false = k in cc)
        ]
      ]
    ] in go (is_same_price price was.price) (is_same_price trigger was.trigger) (nat_le request.quantity was.quantity) refl refl refl moves

-- no order of the book has the number
without-fresh : (n : ℕ) (b : Book) → AllByRecursion (IsOther n) (live_orders b) → b ≡ book_without n b
without-fresh n b fresh =
    let rest = without-none n b.resting (others-lack n b.resting (all-front (IsOther n) b.resting b.waiting fresh)) in
    let wait = without-none n b.waiting (others-lack n b.waiting (all-back (IsOther n) b.resting b.waiting fresh)) in
    let made = λ (xs ys : List Entry). (let c : Book = record b { resting = xs; waiting = ys } in c) in
    sym (ap (λ (xs : List Entry). made xs (without n b.waiting)) rest ∙ ap (made b.resting) wait)

module _ (product : ProductLists) (right : IsRightProduct product) (sent bound : ℕ) where
  -- ---- new orders

  module _ (new : NewOrder) (state : State) (valid : IsValidNew product.names new) (name : is_name new.id ≡ true) (h : IsReached product sent bound state) (room : state.desk.orders < sent) where
    new-unreached : (terms : Terms) → PassesAsNew product new state terms → new.kind ≡ StopLimit → IsUnreached state.last (named (state.desk.orders + 1) (record (order_on terms new (state.desk.orders + 1)) { shown = 0 }))
    new-unreached terms passes stops =
        let on = terms.instrument in
        let prices : HasPricesOf StopLimit new.price new.trigger = subst (λ (k : Kind). HasPricesOf k new.price new.trigger) stops valid.prices in
        let off = either-right (is_off_tick (tick_of on.rule) new.price) (is_off_tick (tick_of on.rule) new.trigger) passes.tick in
        let stop = news.present-price new.trigger (tick_of on.rule) prices.1 off in
        let last = last_of on.number state.last in
        already-unreached new.side (stop_price new.trigger) last (ap (λ (p : Option Price). is_reached_already new.side p last) (sym stop) ∙ subst (λ (k : Kind). is_stop_reached k new.side new.trigger last ≡ false) stops passes.reached)

    new-protected : (terms : Terms) → PassesAsNew product new state terms → new.kind ≡ Market → IsProtected product (new_start terms new state)
    new-protected terms passes market =
        let on = terms.instrument in
        let limit : option_map (protected_limit on.rule new.side) (best_of on.number (opposite new.side) state.book.resting) ≡ Some terms.limit =
        subst (λ (k : Kind). limit_of k on new state.book ≡ Some terms.limit) market passes.limit in
        let go : (best : Option Price) → best_of on.number (opposite new.side) state.book.resting ≡ best → option_map (protected_limit on.rule new.side) best ≡ Some terms.limit → IsProtected product (new_start terms new state) = elim [
          | None ↦ λ is k. absurd (let f : None ≡ Some terms.limit = k in cc)
          | Some best ↦ λ is k. record {
            rule = on.rule;
            listed = news.is_of product right sent bound new state valid name h room terms passes;
            best = best;
            is_best = is;
            limit = (let f : Some (protected_limit on.rule new.side best) ≡ Some terms.limit = k in let e : protected_limit on.rule new.side best ≡ terms.limit = cc in sym e);
          }
        ] in go (best_of on.number (opposite new.side) state.book.resting) refl limit

    accepted-right : (terms : Terms) → PassesAsNew product new state terms → IsRightMessage product state (accepted by_number terms new state)
    accepted-right terms passes =
        let on = terms.instrument in
        let count = state.desk.orders + 1 in
        let start = new_start terms new state in
        let fresh : AllByRecursion (IsOther count) (live_orders state.book) =
        all-with (IsRightEntry product state.desk.orders) (IsOther count) (λ e r is. omega (arith, r.slot, r.given, is)) (live_orders state.book) h.held.entries in
        let asked : IsAsked start.taker.order = record { unfilled = λ some. refl; whole = λ fok. fok-least new.life new fok } in
        let comes = come-in-leads product sent count bound on.number right on.rule.steps (instrument-right product new.named on right passes.named)
        (λ some. ap has_top_by (news.is_of product right sent bound new state valid name h room terms passes) ∙ some)
        by_number start (λ before number. refl) (news.start-kept product right sent bound new state valid name h room terms passes) asked in
        acts-done product state start (new_of by_number terms new state)
        (record {
          book = without-fresh count state.book fresh;
          reported = record { event = _; is = refl; incoming = refl };
          rules = ((tt, tt), tt);
          on = (refl, tt);
          by = λ n other. (other, tt);
          orders = omega arith;
          far = λ j other. all-with (IsOther count) (IsElsewhere j count) (λ e k is. absurd (k is)) (live_orders state.book) fresh;
          fresh = λ n out is. omega (arith, out.given, is);
          firms = λ firm told k. accepted-adds firm told state.book _ start.taker.order refl k;
          passed = λ a b which k. absurd (elim which [
            | inl is ↦ others-lack count state.book.resting (all-front (IsOther count) state.book.resting state.book.waiting fresh) (subst (λ (n : ℕ). HasSlot n state.book.resting) (sym is) (has-first a b state.book.resting k))
            | inr is ↦ others-lack count state.book.resting (all-front (IsOther count) state.book.resting state.book.waiting fresh) (subst (λ (n : ℕ). HasSlot n state.book.resting) (sym is) (has-second a b state.book.resting k))
          ]);
          protected = λ market. new-protected terms passes market;
        })
        comes.leads comes.adds
        (λ told. come-in-leaves-none on.rule.steps start (λ waiting. (tt, tt)) told)
        (λ unreached. come-in-unreached on.rule.steps start state.last refl unreached (λ stops. new-unreached terms passes stops))

    new-right : IsRightMessage product state (new_step by_number product new state)
    new-right =
        let go : (r : Result Terms NewFault) → terms_of product new state ≡ r → IsRightMessage product state (accepted_or_refused by_number r new state) = elim [
          | Ok terms ↦ λ is. accepted-right terms (new-passes product new state terms is)
          | Err f ↦ λ is. told-alone product state _ _ refl (tt, tt) (tt, tt) tt (λ n. tt) tt refl
        ] in go (terms_of product new state) refl

  -- ---- cancels

  cancel-right : (request : CancelOrder) (state : State) → IsReached product sent bound state → IsRightMessage product state (cancel_step request state)
  cancel-right request state h =
      let es = live_orders state.book in
      let b = state.book in
      let go : (slot : Option ℕ) → slot_named request.sender.firm request.old es ≡ slot → IsRightMessage product state (cancel_by slot request state) = elim [
        | None ↦ λ is. told-alone product state _ _ refl (tt, tt) (tt, tt) tt (λ n. tt) tt refl
        | Some slot ↦ λ is.
            let has = named-has request.sender.firm request.old es slot is in
            let o = order_of slot es in
            let g = orders-at IsAllOrNothing slot es (live-all-or-nothing b h.held.book.rest h.held.book.wait) has in
            let number : o.number ≡ slot = number-at slot es (all-with (IsRightEntry product state.desk.orders) IsByNumber (λ e r. r.slot) es h.held.entries) has in
            record {
              does = inl (record { fills = (tt, tt); live = λ n k. HasSlot-filter (λ e. not (e.slot == slot)) n es (subst (HasSlot n) (live-without slot b) k) });
              told = ((tt, record { minimum = g.minimum; fok = g.fok }), tt);
              market = inl (record {
                instrument = o.instrument;
                reports = (refl, tt);
                others = λ j other.
                    let far = elsewhere j o.instrument slot es other h.held.book.differ refl in
                    record {
                      resting = of-without j slot b.resting (all-front (IsElsewhere j slot) b.resting b.waiting far);
                      waiting = of-without j slot b.waiting (all-back (IsElsewhere j slot) b.resting b.waiting far);
                      last = refl;
                    };
              });
              fills = (tt, tt);
              firms = λ firm told k. cancelled-adds firm told (book_open firm (book_without slot b)) _ o _ _ (adds-same firm told _ _ (sym (open-without firm slot b h.held.book.differ has)) k);
              line = λ a b_ k x y. inl (before-filter a b_ (λ e. not (e.slot == slot)) b.resting (AllDiffer-front b.resting b.waiting h.held.book.differ) k x y);
              out = λ n out.
                  let was = lacks-others n es out.gone in
                  record {
                    reports = ((λ e. out.gone (subst (λ (k : ℕ). HasSlot k es) (sym number ∙ e) has)), tt);
                    out = record {
                      given = out.given;
                      gone = others-lack n (live_orders (book_without slot b))
                          (all-append (IsOther n) (without slot b.resting) (without slot b.waiting) (all-without (IsOther n) slot b.resting (all-front (IsOther n) b.resting b.waiting was)) (all-without (IsOther n) slot b.waiting (all-back (IsOther n) b.resting b.waiting was)));
                    };
                  };
              stops = λ unreached. all-without (IsUnreached state.last) slot b.waiting unreached;
              tops = λ first. pairs-filter NoTopAfter (λ e. not (e.slot == slot)) b.resting first;
            }
      ] in go (slot_named request.sender.firm request.old es) refl

  -- ---- replaces

  module _ (request : ReplaceOrder) (state : State) (valid : IsValidReplace product.names request) (name : is_name request.id ≡ true) (h : IsReached product sent bound state) (is_open : state.trading ≡ Open) where
    abbrev live : List Entry
    live = live_orders state.book

    -- no live order is a market order: one that rests is a limit order
    no-market : (slot : ℕ) → HasSlot slot live → (order_of slot live).kind ≡ Market → ⊥
    no-market slot has market =
        let b = state.book in
        let was = order_of slot live in
        elim (HasSlot-either slot b.resting b.waiting has) [
          | inl here ↦
              let r : IsResting b.instruments was = subst (IsResting b.instruments) (sym (order_of-left slot b.resting b.waiting here)) (fit_of b.instruments slot b.resting h.held.book.rest here) in
              (let e : Limit ≡ Market = sym r.fit.kind ∙ market in cc)
          | inr here ↦
              let w : IsWaiting b.instruments was = subst (IsWaiting b.instruments) (sym (order_of-right slot b.resting b.waiting (λ k. slots-apart slot b.resting b.waiting h.held.book.differ k here))) (orders-at (IsWaiting b.instruments) slot b.waiting h.held.book.wait here) in
              (let e : StopLimit ≡ Market = sym w.fit.kind ∙ market in cc)
        ]

    asked-anew : (slot : ℕ) → HasSlot slot live → IsAsked (replaced_order request (order_of slot live))
    asked-anew slot has =
        let b = state.book in
        let was = order_of slot live in
        elim (HasSlot-either slot b.resting b.waiting has) [
          | inl here ↦
              let r : IsResting b.instruments was = subst (IsResting b.instruments) (sym (order_of-left slot b.resting b.waiting here)) (fit_of b.instruments slot b.resting h.held.book.rest here) in
              let none = none-kept was.life was.min request.quantity r.fit.life r.fit.no_min in
              record { unfilled = λ some. absurd (omega (arith, none, some)); whole = λ fok. absurd (not-fok was.life r.fit.life fok) }
          | inr here ↦
              let w : IsWaiting b.instruments was = subst (IsWaiting b.instruments) (sym (order_of-right slot b.resting b.waiting (λ k. slots-apart slot b.resting b.waiting h.held.book.differ k here))) (orders-at (IsWaiting b.instruments) slot b.waiting h.held.book.wait here) in
              record { unfilled = λ some. w.fit.unfilled; whole = λ fok. omega (arith, fok-kept was.life was.min request.quantity fok, w.fit.unfilled) }
        ]

    -- a resting order has no stop price, and gets none
    absent-trigger : (slot : ℕ) (has : HasSlot slot live) (own : (order_of slot live).firm ≡ request.sender.firm) (on : ListedInstrument) (passes : PassesAsReplace product request (order_of slot live) state on) → HasSlot slot state.book.resting → request.trigger ≡ Absent
    absent-trigger slot has own on passes rests =
        let b = state.book in
        let kind = replaces.kind_is product right sent bound request state valid name h is_open slot has own on passes in
        let r : IsResting b.instruments (order_of slot live) = subst (IsResting b.instruments) (sym (order_of-left slot b.resting b.waiting rests)) (fit_of b.instruments slot b.resting h.held.book.rest rests) in
        no-trigger request.kind request.price request.trigger valid.prices (λ stops. (let e : Limit ≡ StopLimit = sym r.fit.kind ∙ sym kind ∙ stops in cc))

    anew-unreached : (slot : ℕ) (has : HasSlot slot live) (own : (order_of slot live).firm ≡ request.sender.firm) (on : ListedInstrument) (passes : PassesAsReplace product request (order_of slot live) state on) → (order_of slot live).kind ≡ StopLimit
        → IsUnreached state.last (named (order_of slot live).number (record (replaced_order request (order_of slot live)) { shown = 0 }))
    anew-unreached slot has own on passes stops =
        let was = order_of slot live in
        let same = replaces.same product right sent bound request state valid name h is_open slot has own on passes in
        let is_on = replaces.on_is product right sent bound request state valid name h is_open slot has own on passes in
        let kind = replaces.kind_is product right sent bound request state valid name h is_open slot has own on passes in
        let side : request.side ≡ was.side = is_side-same request.side was.side same.side_is in
        let prices : HasPricesOf StopLimit request.price request.trigger = subst (λ (k : Kind). HasPricesOf k request.price request.trigger) (kind ∙ stops) valid.prices in
        let off = either-right (is_off_tick (tick_of on.rule) request.price) (is_off_tick (tick_of on.rule) request.trigger) passes.tick in
        let stop = replaces.present-new request.trigger was.trigger (tick_of on.rule) prices.1 off in
        let now = new_price request.trigger was.trigger in
        let last = last_of was.instrument state.last in
        already-unreached was.side now last
        (ap (λ (d : Side). is_reached_already d (Some now) last) (sym side)
        ∙ ap (λ (p : Option Price). is_reached_already request.side p last) (sym stop)
        ∙ ap (λ (i : ℕ). is_reached_already request.side (price_at request.trigger) (last_of i state.last)) (sym is_on)
        ∙ subst (λ (k : Kind). is_stop_reached k request.side request.trigger (last_of on.number state.last) ≡ false) (kind ∙ stops) passes.reached)

    -- what is open of a live order, and of it once it is replaced
    whole : (slot : ℕ) → HasSlot slot live → let was = order_of slot live in was.filled + was.leaves ≡ was.quantity
    whole slot has = orders-at (λ (o : Order). o.filled + o.leaves ≡ o.quantity) slot live (live-whole state.book h.held.book.rest h.held.book.wait) has

    left-open : (slot : ℕ) → nat_le request.quantity (order_of slot live).filled ≡ false → (request.quantity - (order_of slot live).filled) + (order_of slot live).filled ≡ request.quantity
    left-open slot more = grind (arith, nat_tests)

    in-place-right : (slot : ℕ) → HasSlot slot live → nat_le request.quantity (order_of slot live).filled ≡ false → IsRightMessage product state (replaced_in_place request slot state)
    in-place-right slot has more =
        let b = state.book in
        let was = order_of slot live in
        let now : Order = changed_to request.id request.quantity (least_after request was) was in
        let number : was.number ≡ slot = number-at slot live (all-with (IsRightEntry product state.desk.orders) IsByNumber (λ e r. r.slot) live h.held.entries) has in
        let each = all-was slot live h.held.book.differ in
        record {
          does = inl (record {
            fills = (tt, tt);
            live = λ n k. elim (HasSlot-either n (with_order slot now b.resting) (with_order slot now b.waiting) k) [
              | inl here ↦ HasSlot-left n b.resting b.waiting (HasSlot-before slot n now b.resting here)
              | inr here ↦ HasSlot-right n b.resting b.waiting (HasSlot-before slot n now b.waiting here)
            ];
          });
          told = ((tt, tt), tt);
          market = inl (record {
            instrument = was.instrument;
            reports = (refl, tt);
            others = λ j other.
                let far = elsewhere j was.instrument slot live other h.held.book.differ refl in
                let off = not-here j was.instrument was.instrument other refl in
                record {
                  resting = of-with j slot now b.resting off (all-front (IsElsewhere j slot) b.resting b.waiting far);
                  waiting = of-with j slot now b.waiting off (all-back (IsElsewhere j slot) b.resting b.waiting far);
                  last = refl;
                };
          });
          fills = (tt, tt);
          firms = λ firm told k.
              adds-same firm _ _ _ (sym (open-with firm slot now b h.held.book.differ has))
              (replaced-adds firm told (book_open firm (book_without slot b)) _ was.id was now refl (whole slot has) (left-open slot more) (adds-same firm told _ _ (sym (open-without firm slot b h.held.book.differ has)) k));
          line = λ a b_ k x y. inl (before-with a b_ slot now b.resting k);
          out = λ n out.
              let old = lacks-others n live out.gone in
              record {
                reports = ((λ e. out.gone (subst (λ (k : ℕ). HasSlot k live) (sym number ∙ e) has)), tt);
                out = record {
                  given = out.given;
                  gone = others-lack n (with_order slot now b.resting ++ with_order slot now b.waiting)
                      (all-append (IsOther n) (with_order slot now b.resting) (with_order slot now b.waiting)
                      (all-renewed (IsOther n) slot now was b.resting (all-front (IsWas slot was) b.resting b.waiting each) (λ x q is same. q) (all-front (IsOther n) b.resting b.waiting old))
                      (all-renewed (IsOther n) slot now was b.waiting (all-back (IsWas slot was) b.resting b.waiting each) (λ x q is same. q) (all-back (IsOther n) b.resting b.waiting old)));
                };
              };
          stops = λ unreached.
              all-renewed (IsUnreached state.last) slot now was b.waiting (all-back (IsWas slot was) b.resting b.waiting each) (λ x q is same. subst (λ (o : Order). IsUnreached state.last (renewed x o) → IsUnreached state.last (renewed x now)) (sym same) (λ k. k) q) unreached;
          tops = λ first. first-with slot now b.resting (all-with (IsWas slot was) (KeepsLevel slot now) (λ e is at. ap level_of (is at)) b.resting (all-front (IsWas slot was) b.resting b.waiting each)) first;
        }

    anew-right : (slot : ℕ) → HasSlot slot live → (order_of slot live).firm ≡ request.sender.firm → (on : ListedInstrument) → PassesAsReplace product request (order_of slot live) state on → keeps_place request (order_of slot live) ≡ false → IsRightMessage product state (replaced_anew by_number on request slot state)
    anew-right slot has own on passes moves =
        let start = replaced_start request slot state in
        let was = order_of slot live in
        let entry = entry-at product state.desk.orders slot live h.held.entries has in
        let is_on = replaces.on_is product right sent bound request state valid name h is_open slot has own on passes in
        let comes = come-in-leads product sent state.desk.orders bound on.number right on.rule.steps (instrument-right product request.named on right passes.named)
        (λ some. ap has_top_by (replaces.is_of product right sent bound request state valid name h is_open slot has own on passes) ∙ some)
        by_number start (λ before number. refl) (replaces.start-kept product right sent bound request state valid name h is_open slot has own on passes) (asked-anew slot has) in
        subst (λ (i : ℕ). IsRightMessage product state (after_match i state (come_in by_number on.rule.steps start))) (sym is_on)
        (acts-done product state start (come_in by_number on.rule.steps start)
        (record {
          book = ap (λ (n : ℕ). book_without n state.book) entry.slot;
          reported = record { event = _; is = refl; incoming = refl };
          rules = ((tt, tt), tt);
          on = (refl, tt);
          by = λ n other. (other, tt);
          orders = omega arith;
          far = λ j other. subst (λ (n : ℕ). AllByRecursion (IsElsewhere j n) live) entry.slot (elsewhere j was.instrument slot live other h.held.book.differ refl);
          fresh = λ n out is. out.gone (subst (λ (k : ℕ). HasSlot k live) (entry.slot ∙ is) has);
          firms = λ firm told k.
              replaced-adds firm told (book_open firm (book_without slot state.book)) _ was.id was start.taker.order refl (whole slot has) (left-open slot passes.filled) (adds-same firm told _ _ (sym (open-without firm slot state.book h.held.book.differ has)) k);
          passed = λ a b which k.
              let b_ = state.book in
              let rests : HasSlot slot b_.resting = elim which [
                | inl is ↦ subst (λ (n : ℕ). HasSlot n b_.resting) (sym (entry.slot ∙ is)) (has-first a b b_.resting k)
                | inr is ↦ subst (λ (n : ℕ). HasSlot n b_.resting) (sym (entry.slot ∙ is)) (has-second a b b_.resting k)
              ] in
              let same : was ≡ order_of was.number b_.resting = order_of-left slot b_.resting b_.waiting rests ∙ ap (λ (n : ℕ). order_of n b_.resting) entry.slot in
              inl (which, subst (λ (o : Order). LosesPlace o start.taker.order) same (loses-place request was moves (absent-trigger slot has own on passes rests)));
          protected = λ market. absurd (no-market slot has market);
        })
        comes.leads comes.adds
        (λ told. come-in-leaves-none on.rule.steps start (λ waiting. (tt, tt)) told)
        (λ unreached. come-in-unreached on.rule.steps start state.last refl (all-without (IsUnreached state.last) slot state.book.waiting unreached) (λ stops. anew-unreached slot has own on passes stops)))

    replaced-right : (slot : ℕ) → HasSlot slot live → (order_of slot live).firm ≡ request.sender.firm → (on : ListedInstrument) → PassesAsReplace product request (order_of slot live) state on → IsRightMessage product state (replaced by_number on request slot state)
    replaced-right slot has own on passes =
        let go : (c : Bool) → keeps_place request (order_of slot live) ≡ c → IsRightMessage product state (cond c (replaced_in_place request slot state) (replaced_anew by_number on request slot state)) = elim [
          | true ↦ λ stays. in-place-right slot has passes.filled
          | false ↦ λ moves. anew-right slot has own on passes moves
        ] in go (keeps_place request (order_of slot live)) refl

    replace-right : IsRightMessage product state (replace_step by_number product request state)
    replace-right =
        let found = slot_named request.sender.firm request.old live in
        let by : (slot : ℕ) → found ≡ Some slot → (r : Result ListedInstrument ChangeFault) → replace_terms product request (order_of slot live) state ≡ r → IsRightMessage product state (replaced_or_refused r by_number request slot state) = λ slot at. elim [
          | Ok on ↦ λ is. replaced-right slot (named-has request.sender.firm request.old live slot at) (named-own request.sender.firm request.old slot live h.held.book.differ at) on (replace-passes product request (order_of slot live) state on is)
          | Err f ↦ λ is. told-alone product state _ _ refl (tt, tt) (tt, tt) tt (λ n. tt) tt refl
        ] in
        let go : (slot : Option ℕ) → found ≡ slot → IsRightMessage product state (replace_at slot by_number product request state) = elim [
          | None ↦ λ is. told-alone product state _ _ refl (tt, tt) (tt, tt) tt (λ n. tt) tt refl
          | Some slot ↦ λ is. by slot is (replace_terms product request (order_of slot live) state) refl
        ] in go found refl

  -- ---- messages that report nothing, and changes of the session

  nothing-right : (state : State) (trading : Trading) → IsRightMessage product state (record state { trading = trading }, [])
  nothing-right state trading = record {
    does = inl (record { fills = tt; live = λ n h. h });
    told = tt;
    market = inl (record { instrument = 0; reports = tt; others = λ j other. record { resting = refl; waiting = refl; last = refl } });
    out = λ n out. record { reports = tt; out = record { given = out.given; gone = out.gone } };
    fills = tt;
    line = λ a b h x y. inl h;
    firms = λ firm told k. adds-nothing firm told (book_open firm state.book) k;
    stops = λ unreached. unreached;
    tops = λ first. first;
  }

  close-right : (time : List ℕ) (state : State) → IsReached product sent bound state → state.trading ≡ Open → IsRightMessage product state (market_closed time state)
  close-right time state h is_open =
      let b = state.book in
      let es = live_orders b in
      let gone = expiring b in
      let desk = state.desk in
      let Any : Entry → Type 0 = λ e. Unit {0} in
      let any : AllByRecursion Any gone = all-from Any (λ e. tt) gone in
      record {
        does = inl (record { fills = each-expiry IsNoFill Any (λ head e q. tt) time gone desk any; live = λ n k. HasSlot-filter stays n es (subst (HasSlot n) (live-closed b) k) });
        told = each-expiry KeepsRules (λ (e : Entry). IsAllOrNothing e.order) (λ head e q. (tt, record { minimum = q.minimum; fok = q.fok })) time gone desk
            (all-filter (λ (e : Entry). IsAllOrNothing e.order) expires es (live-all-or-nothing b h.held.book.rest h.held.book.wait));
        market = inr (record {
          was = is_open;
          is = refl;
          reports = each-expiry IsExpiry Any (λ head e q. tt) time gone desk any;
          each = λ i. record { resting = filters-swap (is_of i) stays b.resting; waiting = filters-swap (is_of i) stays b.waiting; last = refl };
        });
        out = λ n out.
            let Other = λ (e : Entry). e.order.number ≢ n in
            let others : AllByRecursion Other es =
            all-with (λ (e : Entry). IsOther n e × IsRightEntry product desk.orders e) Other (λ e k is. k.0 (k.1.slot ∙ is)) es (all-both (IsOther n) (IsRightEntry product desk.orders) es (lacks-others n es out.gone) h.held.entries) in
            record {
              reports = each-expiry (IsNotOn n) Other (λ head e q. q) time gone desk (all-filter Other expires es others);
              out = record {
                given = omega (arith, out.given, expiry-orders time gone desk);
                gone = λ k. out.gone (HasSlot-filter stays n es (subst (HasSlot n) (live-closed b) k));
              };
            };
        firms = λ firm told k. close-adds firm told time b desk k;
        line = λ a b_ k x y. inl (before-filter a b_ stays b.resting (AllDiffer-front b.resting b.waiting h.held.book.differ) k x y);
        fills = each-expiry (ReachesNone (book_closed b).waiting) Any (λ head e q. tt) time gone desk any;
        stops = λ unreached. all-filter (IsUnreached state.last) stays b.waiting unreached;
        tops = λ first. pairs-filter NoTopAfter stays b.resting first;
      }

  session-right : (change : SessionChange) (state : State) → IsReached product sent bound state → IsRightMessage product state (session_step change state)
  session-right change state h =
      let go : (to from : Trading) → state.trading ≡ from → IsRightMessage product state (session_changed to from change.time state) = elim [
        | Open ↦ elim [ Open ↦ λ is. nothing-right state state.trading | Closed ↦ λ is. nothing-right state Open ]
        | Closed ↦ elim [ Open ↦ λ is. close-right change.time state h is | Closed ↦ λ is. nothing-right state state.trading ]
      ] in go change.to state.trading refl

  -- ---- one message

  open-right : (request : Request) (state : State) → IsValidRequest product request → HasName request → IsReached product sent bound state → state.desk.orders < sent → state.trading ≡ Open → IsRightMessage product state (open_step_as by_number product request state)
  open-right (New order) state valid name h room is_open = new-right order state valid name h room
  open-right (Cancel order) state valid name h room is_open = cancel-right order state h
  open-right (Replace order) state valid name h room is_open = replace-right order state valid name h is_open
  open-right (Session change) state valid name h room is_open = session-right change state h
  open-right (Passed sender) state valid name h room is_open = nothing-right state state.trading
  open-right (Refused refusal) state valid name h room is_open = told-alone product state _ _ refl (tt, tt) (tt, tt) tt (λ n. tt) tt refl

  -- a message of a closed market that is no new order and no replace is as in an open one
  closed-right : (request : Request) (state : State) → IsReached product sent bound state → IsRightMessage product state (closed_step_as by_number product request state)
  closed-right (New order) state h = told-alone product state _ _ refl (tt, tt) (tt, tt) tt (λ n. tt) tt refl
  closed-right (Replace order) state h = told-alone product state _ _ refl (tt, tt) (tt, tt) tt (λ n. tt) tt refl
  closed-right (Cancel order) state h = cancel-right order state h
  closed-right (Session change) state h = session-right change state h
  closed-right (Passed sender) state h = nothing-right state state.trading
  closed-right (Refused refusal) state h = told-alone product state _ _ refl (tt, tt) (tt, tt) tt (λ n. tt) tt refl

  request-right : (request : Request) (state : State) → IsValidRequest product request → HasName request → IsReached product sent bound state → state.desk.orders < sent → IsRightMessage product state (request_step product request state)
  request-right request state valid name h room =
      by-session (IsRightMessage product state) by_number product request state (λ is_open. open-right request state valid name h room is_open) (λ is_closed. closed-right request state h)

-- ---- every message of every history

pub step-right : (product : ProductLists) → IsRightProduct product → (sent bound : ℕ) (state : State) (frame : List ℕ) → IsReached product sent bound state → IsRightMessage product (with_message state) (step_of product state frame)
step-right product right sent bound state frame h =
    request-right product right (sent + 1) bound (request_of product frame) (with_message state) (request-valid product frame) (request-named product frame) (counted-message product sent bound state h) (omega (arith, h.few))

pub last-right : (history : History) → AreRightProducts history → IsRightProduct (last_product history)
last-right (of_product product messages) right = right
last-right (amended before product messages) right = right.1

-- the next message after a history
pub next-right : (history : History) → AreRightProducts history → IsHistory history → (next : List ℕ) → IsRightMessage (last_product history) (with_message (state_kept history)) (step_of (last_product history) (state_kept history) next)
next-right history right is next = step-right (last_product history) (last-right history right) (length_kept history) (length (events_kept history)) (state_kept history) next (history-reached history right is)

-- where an amendment leads
pub amended-reached : (before : History) (product : ProductLists) → AreRightProducts before → IsHistory before → may_follow (last_product before) product ≡ Ok tt
    → IsReached product (length_kept before) (length (events_kept before)) (amended_state product (state_kept before))
amended-reached before product right is follow =
    reached-follows (last_product before) product (follows (last_product before) product follow) (length_kept before) (length (events_kept before)) (state_kept before) (history-reached before right is)

-- ---- each report

from-right : (product : ProductLists) → IsRightProduct product → (sent bound : ℕ) (state : State) (frames : List (List ℕ)) → IsReached product sent bound state → AllByRecursion KeepsRules (events_from product state frames)
from-right product right sent bound state [] h = tt
from-right product right sent bound state (frame ∷ frames) h =
    let step = step_of product state frame in
    all-append KeepsRules step.1 (events_from product step.0 frames) (step-right product right sent bound state frame h).told
    (from-right product right (sent + 1) (bound + length step.1) step.0 frames (step-reached product right sent bound state frame h))

pub reports-right : OfEachReport KeepsRules
reports-right (of_product product messages) right is = from-right product right 0 0 (empty_state product) messages (starts product right)
reports-right (amended before product messages) right is =
    let start = amended_state product (state_kept before) in
    all-append KeepsRules (events_kept before) (events_from product start messages) (reports-right before right.0 is.0)
    (from-right product right.1 (length_kept before) (length (events_kept before)) start messages (amended-reached before product right.0 is.0 is.1))
