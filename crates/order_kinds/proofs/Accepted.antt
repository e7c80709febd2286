-- A new order is accepted: what its coming in is given, and what all of it comes to.
use Rattle.std.proofs.Common.{◌≡◌, ℕ, ◌+◌, ◌*◌, ◌≤◌, true, [], ◌∷◌, None, Result, Ok, Err, length, refl, sym, ap, subst, ◌∙◌, arith}
use Rattle.std.specs.Prelude.{◌^◌}
use Rattle.gx_base.specs.declared.limits.TheConstants.{MOST_LOTS}
use Rattle.gx_base.specs.declared.order.Kind.TheVariants.{StopLimit}
use Rattle.gx_base.specs.declared.order.Order.{Order}
use Rattle.gx_base.specs.declared.order.Desk.{Desk}
use Rattle.gx_base.specs.declared.order.Taker.{Taker}
use Rattle.gx_base.specs.declared.event.Head.{Head}
use Rattle.gx_base.specs.declared.event.NewFault.{NewFault}
use Rattle.gx_base.specs.declared.event.Event.TheVariants.{Accepted}
use Rattle.gx_base.specs.Emits.{EmitMeanings, Emits}
use Rattle.product_file.specs.declared.limits.TheConstants.{MOST_ORDERS}
use Rattle.product_file.specs.Products.{ProductLists}
use Rattle.fix_request.specs.declared.request.NewOrder.{NewOrder}
use Rattle.plain_book.specs.Book.{Book}
use Rattle.plain_book.specs.Match.{next_head, report_counted}
use Rattle.plain_book.specs.Matches.{CanTrade}
use Rattle.plain_book.proofs.TradedShares.{match_with}
use Rattle.plain_book.proofs.LineCounts.{line-counted}
use Rattle.order_kinds.specs.State.{State}
use Rattle.order_kinds.specs.NewOrders.{may_rest, Terms, terms_of, order_on}
use Rattle.order_kinds.specs.Accepting.{refusal, refused, new_start, accepted, accepted_or_refused, new_step}
use Rattle.order_kinds.specs.Stops.{by_number}
use Rattle.order_kinds.specs.Inner.Terms.{IsAccepted}
use Rattle.order_kinds.specs.Inner.Apart.{NewApart}
use Rattle.order_kinds.specs.Inner.Taking.{Takes, CountsRose, IsCounted, CanRest}
use Rattle.order_kinds.specs.Inner.Triggering.{CanWait, HasRoomToComeIn}
use Rattle.order_kinds.specs.Inner.ComingIn.{CanComeIn, brought_in, BroughtApart, most_reports}
use Rattle.order_kinds.proofs.Lives.{resting-life}
use Rattle.order_kinds.proofs.TakenSteps.{takes-known}
use Rattle.order_kinds.proofs.ReportedFirst.{IsNoFill, takes-reported}

-- ---- counters

abbrev pub HasFewStops : Book → Type 0
HasFewStops b = length b.waiting ≤ MOST_ORDERS

-- after one report there is room for all that a message can report
pub has-room : (b : Book) (desk : Desk) (firm orders : ℕ) → IsCounted desk → orders ≤ desk.orders + 1 → HasFewStops b
    → HasRoomToComeIn b (report_counted (record desk { orders = orders }) firm)
has-room b desk firm orders counted next few = record {
  messages = counted.messages;
  orders = omega (arith, counted.orders, counted.messages, next);
  counts = record {
    trades = omega (arith, counted.counts.trades);
    reports = omega (arith, counted.counts.reports);
    lines = λ place. omega (arith, counted.counts.lines place, line-counted desk.lines firm place);
  };
  few = omega (arith, few);
}

-- a report was counted, and then all that an order of so many lots and the stops reported
pub rose-reported : (old : Desk) (firm : ℕ) (after : Desk) (leaves waiting : ℕ) → leaves ≤ MOST_LOTS → waiting ≤ MOST_ORDERS
    → CountsRose (2 * leaves + 1 + 2000000 * waiting) (report_counted old firm) after → CountsRose (2 ^ 38) old after
rose-reported old firm after leaves waiting small few rose = record {
  messages = rose.messages;
  orders = rose.orders;
  trades = omega (arith, rose.trades, small, few);
  reports = omega (arith, rose.reports, small, few);
  lines = λ place. omega (arith, rose.lines place, small, few, line-counted old.lines firm place);
}

abbrev pub numbered_next : Desk → Desk
numbered_next desk = record desk { orders = desk.orders + 1 }

abbrev pub taker_with : NewOrder → Order → Taker
taker_with new order = record { order = order; time = new.sender.time; range = None }

-- the order, the head of its report, and the counters after it
pub record IsReported (terms : Terms) (new : NewOrder) (old desk : Desk) (order : Order) (head : Head) : Type 0 where
  pub is_order : order ≡ order_on terms new (old.orders + 1)
  pub is_head : head ≡ next_head (numbered_next old) new.sender.firm new.sender.time
  pub is_desk : desk ≡ report_counted (numbered_next old) new.sender.firm

-- ---- it can come in

can-trade : (old : State) (terms : Terms) (new : NewOrder) → IsAccepted old terms new → IsCounted old.desk
    → CanTrade old.book (report_counted (numbered_next old.desk) new.sender.firm) (taker_with new (order_on terms new (old.desk.orders + 1)))
can-trade old terms new asked counted = record {
  listed = asked.listed;
  firm = asked.firm;
  unnamed = asked.unnamed;
  whole = omega arith;
  small = asked.small;
  messages = omega (arith, counted.messages, asked.small);
  orders = omega (arith, counted.messages, counted.orders, asked.small);
  trades = omega (arith, counted.counts.trades, asked.small);
  reports = omega (arith, counted.counts.reports, asked.small);
  lines = λ i. omega (arith, counted.counts.lines i, asked.small, line-counted old.desk.lines new.sender.firm i);
}

rest-on : (old : State) (terms : Terms) (new : NewOrder) (number : ℕ) → IsAccepted old terms new → (new.kind ≡ StopLimit → ⊥) → may_rest new.life ≡ true → CanRest old.book (order_on terms new number)
rest-on old terms new number asked no_stop may = record {
  room = asked.spare;
  unnamed = asked.unnamed;
  fit = record {
    listed = asked.listed;
    firm = asked.firm;
    kind = refl;
    life = resting-life new.life may;
    no_trigger = asked.no_stop no_stop;
    no_min = refl;
    whole = omega arith;
    some = asked.some;
    show = asked.show;
    small = asked.small;
  };
}

wait-on : (old : State) (terms : Terms) (new : NewOrder) (number : ℕ) → IsAccepted old terms new → new.kind ≡ StopLimit → CanWait old.book (order_on terms new number)
wait-on old terms new number asked stop = record {
  room = asked.spare;
  unnamed = asked.unnamed;
  fit = record {
    listed = asked.listed;
    firm = asked.firm;
    kind = stop;
    unfilled = refl;
    no_share = refl;
    whole = refl;
    some = asked.some;
    show = asked.show;
    small = asked.small;
  };
}

come-on : (old : State) (terms : Terms) (new : NewOrder) → IsAccepted old terms new → IsCounted old.desk → HasFewStops old.book
    → CanComeIn old.book (report_counted (numbered_next old.desk) new.sender.firm) (taker_with new (order_on terms new (old.desk.orders + 1)))
come-on old terms new asked counted few = record {
  waits = wait-on old terms new (old.desk.orders + 1) asked;
  can = can-trade old terms new asked counted;
  rests = rest-on old terms new (old.desk.orders + 1) asked;
  some = asked.some;
  no_range = refl;
  room = has-room old.book old.desk new.sender.firm (old.desk.orders + 1) counted (omega arith) few;
}

pub accepted-comes : (old : State) (terms : Terms) (new : NewOrder) (desk : Desk) (order : Order) (head : Head) → IsReported terms new old.desk desk order head → IsAccepted old terms new → IsCounted old.desk
    → HasFewStops old.book → CanComeIn old.book desk (taker_with new order)
accepted-comes old terms new desk order head is asked counted few =
    subst (λ (d : Desk). CanComeIn old.book d (taker_with new order)) (sym is.is_desk)
    (subst (λ (o : Order). CanComeIn old.book (report_counted (numbered_next old.desk) new.sender.firm) (taker_with new o)) (sym is.is_order) (come-on old terms new asked counted few))

-- ---- the counters after it

pub accepted-rose : (old : State) (terms : Terms) (new : NewOrder) (desk after : Desk) (order : Order) (head : Head) → IsReported terms new old.desk desk order head → IsAccepted old terms new
    → HasFewStops old.book → CountsRose (most_reports (taker_with new order) old.book) desk after → CountsRose (2 ^ 38) (numbered_next old.desk) after
accepted-rose old terms new desk after order head is asked few rose =
    let small : order.leaves ≤ MOST_LOTS = omega (arith, ap (λ (o : Order). o.leaves) is.is_order, asked.small) in
    rose-reported (numbered_next old.desk) new.sender.firm after order.leaves (length old.book.waiting) small few
    (subst (λ (d : Desk). CountsRose (most_reports (taker_with new order) old.book) d after) is.is_desk rose)

-- ---- it is refused

pub takes-refusal : {E : Type 0} (m : EmitMeanings E) (product : ProductLists) (new : NewOrder) {old seen : State} → old ≡ seen → (fault : NewFault) (desk : Desk) (a b : E) → terms_of product new seen ≡ Err fault
    → desk ≡ report_counted old.desk new.sender.firm → Emits m a b (refusal fault new old.desk ∷ [])
    → Takes m (λ state. NewApart (terms_of product new state) new state) (λ naming. new_step naming product new) seen (record old { desk = desk }) a b
takes-refusal m product new {old} {seen} at fault desk a b is counted emits =
    let here : terms_of product new old ≡ Err fault = subst (λ (s : State). terms_of product new s ≡ Err fault) (sym at) is in
    subst (λ (s : State). Takes m (λ state. NewApart (terms_of product new state) new state) (λ naming. new_step naming product new) s (record old { desk = desk }) a b) at
    (takes-known m (λ state. NewApart (terms_of product new state) new state) (λ naming. new_step naming product new) old a b by_number (refused fault new old) (record old { desk = desk })
    (subst (λ (r : Result Terms NewFault). NewApart r new old by_number) (sym here) tt)
    (ap (λ (r : Result Terms NewFault). accepted_or_refused by_number r new old) here)
    (ap (λ (d : Desk). record old { desk = d }) counted)
    emits)

-- ---- all of it

accepted-is-no-fill : (head : Head) (order : Order) → IsNoFill (Accepted head order)
accepted-is-no-fill head order = record { range = λ events. refl; last = λ events. refl }

module _ {E : Type 0} (m : EmitMeanings E) (old : State) (terms : Terms) (new : NewOrder) (desk : Desk) (order : Order) (head : Head) (is : IsReported terms new old.desk desk order head) where
  starts : match_with old.book desk (taker_with new order) (Accepted head order ∷ []) ≡ new_start terms new old
  starts =
      let number = old.desk.orders + 1 in
      let h = next_head (numbered_next old.desk) new.sender.firm new.sender.time in
      ap (λ (x : Head). match_with old.book desk (taker_with new order) (Accepted x order ∷ [])) is.is_head
      ∙ ap (λ (x : Order). match_with old.book desk (taker_with new x) (Accepted h x ∷ [])) is.is_order
      ∙ ap (λ (x : Desk). match_with old.book x (taker_with new (order_on terms new number)) (Accepted h (order_on terms new number) ∷ [])) is.is_desk

  pub takes-accepted : (after : State) (a b c : E) → Emits m a b (Accepted head order ∷ [])
      → Takes m (BroughtApart terms.instrument (taker_with new order)) (λ naming. brought_in naming terms.instrument (taker_with new order)) (record old { desk = desk }) after b c
      → Takes m (NewApart (Ok terms) new) (λ naming. accepted naming terms new) old after a c
  takes-accepted after a b c puts takes =
      let all = takes-reported m (Accepted head order) (accepted-is-no-fill head order) terms.instrument old (record old { desk = desk }) after (taker_with new order) (new_start terms new old) a b c starts refl refl puts takes in
      record { naming = all.naming; apart = all.apart; state = all.state; emits = all.emits }
