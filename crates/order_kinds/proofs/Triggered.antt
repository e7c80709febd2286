-- A waiting stop is triggered: it can be entered and can come to rest, and what all of it comes to.
use Rattle.std.proofs.Common.{◌≡◌, ℕ, ◌+◌, ◌*◌, ◌<◌, ◌≤◌, true, false, List, [], ◌∷◌, length, None, refl, sym, ap, subst, ◌∙◌, arith}
use Rattle.gx_base.specs.declared.limits.TheConstants.{MOST_FIRMS}
use Rattle.gx_base.specs.declared.order.Order.{Order}
use Rattle.gx_base.specs.declared.order.Desk.{Desk}
use Rattle.gx_base.specs.declared.order.Taker.{Taker}
use Rattle.gx_base.specs.declared.event.Head.{Head}
use Rattle.gx_base.specs.declared.event.Event.TheVariants.{Triggered}
use Rattle.gx_base.specs.Emits.{EmitMeanings, Emits}
use Rattle.gx_base.specs.EmitLaws.{emits_as}
use Rattle.step_config.specs.declared.step.Step.{Step}
use Rattle.plain_book.specs.declared.entry.Entry.{Entry}
use Rattle.plain_book.specs.Orders.{HasSlot, order_of, is_named, is_live, without}
use Rattle.plain_book.specs.Book.{Book, IsRight, IsWaiting, live_orders, book_without}
use Rattle.plain_book.specs.Match.{MatchState, match_start, next_head, report_counted}
use Rattle.plain_book.specs.Matches.{MatchAt, match_at, IsNow, CanTrade}
use Rattle.plain_book.proofs.Levels.{HasSlot-right, slots-apart, order_of-right}
use Rattle.plain_book.proofs.Live.{AllOrders, orders-at}
use Rattle.plain_book.proofs.Named.{Unnamed, unnamed-without}
use Rattle.plain_book.proofs.Pairs.{any-none}
use Rattle.plain_book.proofs.Right.{live-without, length-without}
use Rattle.plain_book.proofs.Matching.{goes-on}
use Rattle.plain_book.proofs.TradedShares.{IgnoresEvents}
use Rattle.order_kinds.specs.NewOrders.{may_rest}
use Rattle.order_kinds.specs.Entering.{entered}
use Rattle.order_kinds.specs.Stops.{as_triggered, stop_triggered}
use Rattle.order_kinds.specs.Inner.Taking.{TakesPart, CountsRose, CanRest}
use Rattle.order_kinds.specs.Inner.Triggering.{HasRoomToTrigger, slot_entered}
use Rattle.order_kinds.proofs.Counts.{rose-counted, rose-both, rose-within}
use Rattle.order_kinds.proofs.Entered.{entered-ignores}
use Rattle.order_kinds.proofs.Lives.{resting-life}

-- ---- the stop leaves

module _ (b : Book) (right : IsRight b) (slot : ℕ) (waits : HasSlot slot b.waiting) where
  abbrev stop : Order
  stop = order_of slot b.waiting

  pub slot-live : HasSlot slot (live_orders b)
  slot-live = HasSlot-right slot b.resting b.waiting waits

  pub live-order : order_of slot (live_orders b) ≡ stop
  live-order = order_of-right slot b.resting b.waiting (λ h. slots-apart slot b.resting b.waiting right.differ h waits)

  waits-well : IsWaiting b.instruments stop
  waits-well = orders-at (IsWaiting b.instruments) slot b.waiting right.wait waits

  -- no order that is left has its name
  name-free : is_live stop.firm stop.id (live_orders (book_without slot b)) ≡ false
  name-free =
      let none : AllOrders (Unnamed stop) (without slot (live_orders b)) =
      subst (λ (o : Order). AllOrders (Unnamed o) (without slot (live_orders b))) live-order (unnamed-without slot (live_orders b) right.named slot-live) in
      any-none (is_named stop.firm stop.id) (live_orders (book_without slot b)) (subst (AllOrders (Unnamed stop)) (sym (live-without slot b)) none)

  fewer-live : length (live_orders (book_without slot b)) < b.capacity
  fewer-live = omega (arith, ap (λ (es : List Entry). length es) (live-without slot b), length-without slot (live_orders b) right.differ slot-live, right.few)

  can-stop : (desk : Desk) (time : List ℕ) → HasRoomToTrigger desk
      → CanTrade (book_without slot b) (report_counted desk stop.firm) (record { order = as_triggered stop; time = time; range = None })
  can-stop desk time room =
      let fit = waits-well.fit in
      let counted = rose-counted desk stop.firm in
      record {
        listed = fit.listed;
        firm = fit.firm;
        unnamed = name-free;
        whole = omega (arith, fit.unfilled, fit.whole);
        small = fit.small;
        messages = omega (arith, room.messages, fit.small, fit.whole);
        orders = omega (arith, room.orders, fit.small, fit.whole);
        trades = omega (arith, room.counts.trades, fit.small, fit.whole);
        reports = omega (arith, room.counts.reports, fit.small, fit.whole);
        lines = λ i. omega (arith, room.counts.lines i, counted.lines i, fit.small, fit.whole);
      }

  rests-stop : may_rest stop.life ≡ true → CanRest (book_without slot b) (as_triggered stop)
  rests-stop may =
      let fit = waits-well.fit in
      record {
        room = fewer-live;
        unnamed = name-free;
        fit = record {
          listed = fit.listed;
          firm = fit.firm;
          kind = refl;
          life = resting-life stop.life may;
          no_trigger = refl;
          no_min = refl;
          whole = omega (arith, fit.unfilled, fit.whole);
          some = omega (arith, fit.whole, fit.some);
          show = fit.show;
          small = fit.small;
        };
      }

  -- the same of the order, the book and the counters that are these
  module _ (o : Order) (left : Book) (is : o ≡ as_triggered (order_of slot (live_orders b))) (gone : left ≡ book_without slot b) where
    pub is-stop : o ≡ as_triggered stop
    is-stop = is ∙ ap as_triggered live-order

    pub triggered-firm : o.firm < MOST_FIRMS
    triggered-firm = subst (λ (x : Order). x.firm < MOST_FIRMS) (sym is-stop) waits-well.fit.firm

    pub triggered-open : 1 ≤ o.leaves
    triggered-open = omega (arith, ap (λ (x : Order). x.leaves) is-stop, waits-well.fit.whole, waits-well.fit.some)

    pub triggered-can : (desk counted : Desk) (time : List ℕ) → HasRoomToTrigger desk → counted ≡ report_counted desk o.firm → CanTrade left counted (record { order = o; time = time; range = None })
    triggered-can desk counted time room is-counted =
        let taker : Order → Taker = λ x. record { order = x; time = time; range = None } in
        subst (λ (x : Book). CanTrade x counted (taker o)) (sym gone)
        (subst (λ (d : Desk). CanTrade (book_without slot b) d (taker o)) (sym is-counted)
        (subst (λ (x : Order). CanTrade (book_without slot b) (report_counted desk x.firm) (taker x)) (sym is-stop) (can-stop desk time room)))

    pub triggered-rests : may_rest o.life ≡ true → CanRest left o
    triggered-rests =
        subst (λ (x : Book). may_rest o.life ≡ true → CanRest x o) (sym gone)
        (subst (λ (x : Order). may_rest x.life ≡ true → CanRest (book_without slot b) x) (sym is-stop) rests-stop)

    -- a stop has few enough lots
    pub triggered-rose : (desk counted after : Desk) → counted ≡ report_counted desk o.firm → CountsRose (2 * o.leaves + 1) counted after → CountsRose 2000000 desk after
    triggered-rose desk counted after is-counted rose =
        let once : CountsRose 1 desk counted = subst (CountsRose 1 desk) (sym is-counted) (rose-counted desk o.firm) in
        let few : 1 + (2 * o.leaves + 1) ≤ 2000000 = omega (arith, ap (λ (x : Order). x.leaves) is-stop, waits-well.fit.whole, waits-well.fit.small) in
        rose-within (1 + (2 * o.leaves + 1)) 2000000 desk after few (rose-both 1 (2 * o.leaves + 1) desk counted after once rose)

-- ---- a match that goes on

-- The book, the counters and the incoming order are those of a state, whose events were put.
pub record Stands {E : Type 0} (m : EmitMeanings E) (out : E) (x : MatchState) (at : MatchAt E) : Type 0 where
  pub now : IsNow x at.book at.desk at.taker
  pub emits : Emits m out at.out x.events

module _ {E : Type 0} (m : EmitMeanings E) where
  pub stands-then : (out : E) (x : MatchState) (b c : MatchAt E) (part : ℕ → MatchState → MatchState) → ((name : ℕ) → IgnoresEvents (part name))
      → Stands m out x b → (done : TakesPart m part b c) → Stands m out (part done.name x) c
  stands-then out x b c part ignores stands done =
      let on = goes-on m out x b c (part done.name) (ignores done.name) stands.now stands.emits done.now done.emits in
      record { now = on.0; emits = on.1 }

  -- all of it
  pub takes-stop : (b : Book) (right : IsRight b) (slot : ℕ) (waits : HasSlot slot b.waiting) (o : Order) (left : Book) → o ≡ as_triggered (order_of slot (live_orders b)) → left ≡ book_without slot b
      → (desk counted : Desk) (taker : Taker) (a put : E) (head : Head) (steps : List Step) (c : MatchAt E) → head ≡ next_head desk o.firm taker.time → counted ≡ report_counted desk o.firm
      → Emits m a put (Triggered head o ∷ [])
      → TakesPart m (λ name. entered name steps) (match_at left counted (record { order = o; time = taker.time; range = None }) put) c
      → TakesPart m (λ name. slot_entered slot name steps) (match_at b desk taker a) c
  takes-stop b right slot waits o left is gone desk counted taker a put head steps c is-head is-counted puts done =
      let mid : MatchAt E = match_at left counted (record { order = o; time = taker.time; range = None }) put in
      let stop = order_of slot b.waiting in
      let same = is-stop b right slot waits o left is gone in
      let e : Entry = record { slot = slot; order = stop; is_top = false } in
      let x = stop_triggered e (match_start b desk taker) in
      let events : Triggered head o ∷ [] ≡ x.events =
      ap (λ (h : Head). Triggered h o ∷ []) is-head ∙ ap (λ (q : Order). Triggered (next_head desk q.firm taker.time) q ∷ []) same in
      let stands : Stands m a x mid = record {
        now = record {
          book = gone;
          desk = is-counted ∙ ap (λ (q : Order). report_counted desk q.firm) same;
          taker = let with_order : Order → Taker = λ q. record { order = q; time = taker.time; range = None } in ap with_order same;
        };
        emits = emits_as m a put (Triggered head o ∷ []) x.events events puts;
      } in
      let end = stands-then a x mid c (λ name. entered name steps) (λ name. entered-ignores name steps) stands done in
      record { name = done.name; now = end.now; emits = end.emits }
