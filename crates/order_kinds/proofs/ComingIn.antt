-- What holds of each live order, and of each that comes in, holds of all when it has come in with the stops that it triggers; the
-- size of the book and the last number that was given stay.
use Rattle.std.proofs.Common.{◌≡◌, ℕ, ◌+◌, Bool, true, false, cond, List, length, Option, Some, None, refl, sym, ap, subst, ◌∙◌}
use Prim.Native.Nat.{zero, suc}
use Rattle.std.specs.Prelude.{◌==◌, nat_lt}
use Rattle.gx_base.specs.declared.price.Price.{Price}
use Rattle.gx_base.specs.declared.order.Kind.{Kind}
use Rattle.gx_base.specs.declared.order.Kind.TheVariants.{Limit, Market, StopLimit}
use Rattle.gx_base.specs.declared.order.Order.{Order}
use Rattle.gx_base.specs.declared.event.Cause.{Cause}
use Rattle.gx_base.specs.declared.event.Cause.TheVariants as cause
use Rattle.step_config.specs.declared.step.Step.{Step}
use Rattle.plain_book.specs.declared.entry.Entry.{Entry}
use Rattle.plain_book.specs.Book.{Book, live_orders}
use Rattle.plain_book.specs.Match.{MatchState}
use Rattle.plain_book.proofs.Pairs.{all-back}
use Rattle.plain_book.proofs.Live.{AllOrders}
use Rattle.level_sweep.specs.Sweep.{sweep}
use Rattle.level_sweep.proofs.EachTrade.{Relation, IsKept, each-sweep}
use Rattle.level_sweep.proofs.Swept.{sweep-order}
use Rattle.order_kinds.specs.NewOrders.{may_rest}
use Rattle.order_kinds.specs.Entering.{as_limit, top_min_of, taker_cancelled, taker_rested, open_for, entered}
use Rattle.order_kinds.specs.Stops.{fill_range, next_stop, as_triggered, stop_triggered, Naming, stop_entered, stop_rounds, entered_with_stops, taker_waiting, come_in_as, come_in}
use Rattle.level_sweep.proofs.Resting.{rest-sweep}
use Rattle.order_kinds.proofs.FirstReached.{reached-holds}
use Rattle.order_kinds.proofs.Kept.{IgnoresTrades, all-swept, all-book_placed, all-book_waited, all-left}

-- a fact on an order that stays true when it trades, comes to rest, or is triggered
pub record StaysTrue (P : Order → Type 0) : Type 0 where
  pub trades : IgnoresTrades P
  pub rests : (o : Order) → P o → P (as_limit o)
  pub triggers : (o : Order) → P o → P (as_triggered o)

-- a sweep gives no order a number
abbrev NumberStays : Relation
NumberStays a b = b.desk.orders ≡ a.desk.orders

number_stays : IsKept NumberStays
number_stays = record {
  same = λ m. refl;
  both = λ a b c h k. k ∙ h;
  trades = λ step s n m. refl;
  marks = λ s n m. refl;
}

-- a match over a book of this size, in which this number was given last, and P holds of each live order and of the incoming one
pub record IsHeld (P : Order → Type 0) (size : Book) (number : ℕ) (m : MatchState) : Type 0 where
  pub capacity : m.book.capacity ≡ size.capacity
  pub instruments : m.book.instruments ≡ size.instruments
  pub given : m.desk.orders ≡ number
  pub all : AllOrders P (live_orders m.book)
  pub own : P m.taker.order

module _ (P : Order → Type 0) (stays : StaysTrue P) (size : Book) (number : ℕ) where
  abbrev Holds : MatchState → Type 0
  Holds m = IsHeld P size number m

  held-swept : (steps : List Step) (limit : Price) (m : MatchState) → Holds m → Holds (sweep steps limit m)
  held-swept steps limit m h =
      let end = sweep steps limit m in
      let rest = rest-sweep steps limit m in
      let before = m.taker.order in
      let left = end.taker.order in
      record {
        capacity = ap (λ (b : Book). b.capacity) rest ∙ h.capacity;
        instruments = ap (λ (b : Book). b.instruments) rest ∙ h.instruments;
        given = each-sweep NumberStays number_stays steps limit m ∙ h.given;
        all = all-swept P stays.trades steps limit m h.all;
        own = subst P (sym (sweep-order steps limit m)) (stays.trades.other before left.filled left.leaves before.shown before.prorated h.own);
      }

  held-cancelled : (why : Cause) (m : MatchState) → Holds m → Holds (taker_cancelled why m)
  held-cancelled why m h = record { capacity = h.capacity; instruments = h.instruments; given = h.given; all = h.all; own = h.own }

  held-rested : (name : ℕ) (steps : List Step) (m : MatchState) → Holds m → Holds (taker_rested name steps m)
  held-rested name steps m h = record {
    capacity = h.capacity;
    instruments = h.instruments;
    given = h.given;
    all = all-book_placed P stays.trades name (as_limit m.taker.order) (top_min_of steps) m.book (stays.rests m.taker.order h.own) h.all;
    own = h.own;
  }

  held-entered : (name : ℕ) (steps : List Step) (m : MatchState) → Holds m → Holds (entered name steps m)
  held-entered name steps m h =
      let end = sweep steps m.taker.order.price m in
      let swept = held-swept steps m.taker.order.price m h in
      let go : (few none rests : Bool) → Holds (cond few (taker_cancelled cause.MinQty m) (cond none end (cond rests (taker_rested name steps end) (taker_cancelled cause.Fak end)))) = elim [
        | true ↦ λ none rests. held-cancelled cause.MinQty m h
        | false ↦ elim [
          | true ↦ λ rests. swept
          | false ↦ elim [ true ↦ held-rested name steps end swept | false ↦ held-cancelled cause.Fak end swept ]
        ]
      ] in go (nat_lt (open_for m) m.taker.order.min) (end.taker.order.leaves == 0) (may_rest end.taker.order.life)

  held-waiting : (name : ℕ) (m : MatchState) → Holds m → Holds (taker_waiting name m)
  held-waiting name m h = record {
    capacity = h.capacity;
    instruments = h.instruments;
    given = h.given;
    all = all-book_waited P stays.trades name m.taker.order m.book h.own h.all;
    own = h.own;
  }

  held-triggered : (e : Entry) (m : MatchState) → P e.order → Holds m → Holds (stop_triggered e m)
  held-triggered e m p h = record {
    capacity = h.capacity;
    instruments = h.instruments;
    given = h.given;
    all = all-left P e.slot m.book h.all;
    own = stays.triggers e.order p;
  }

  held-stop : (next : Option Entry) (name : ℕ → ℕ) (steps : List Step) (m : MatchState) → next_stop m ≡ next → Holds m → Holds (stop_entered next name steps m)
  held-stop None name steps m is h = h
  held-stop (Some e) name steps m is h =
      let waits = all-back (λ (x : Entry). P x.order) m.book.resting m.book.waiting h.all in
      let p : P e.order = reached-holds (λ (x : Entry). P x.order) m.taker.order.instrument (fill_range m.events) m.book.waiting e waits is in
      held-entered (name e.order.number) steps (stop_triggered e m) (held-triggered e m p h)

  held-rounds : (n : ℕ) (naming : Naming) (steps : List Step) (m : MatchState) → Holds m → Holds (stop_rounds n naming steps m)
  held-rounds zero naming steps m h = h
  held-rounds (suc n) naming steps m h =
      let before = stop_rounds n naming steps m in held-stop (next_stop before) (naming n) steps before refl (held-rounds n naming steps m h)

  held-with_stops : (naming : Naming) (steps : List Step) (m : MatchState) → Holds m → Holds (entered_with_stops naming steps m)
  held-with_stops naming steps m h =
      let name = naming 0 m.taker.order.number in
      let first = entered name steps m in
      held-rounds (length first.book.waiting) (λ before. naming (before + 1)) steps first (held-entered name steps m h)

  held-as : (kind : Kind) (naming : Naming) (steps : List Step) (m : MatchState) → Holds m → Holds (come_in_as kind naming steps m)
  held-as StopLimit naming steps m h = held-waiting (naming 0 m.taker.order.number) m h
  held-as Limit naming steps m h = held-with_stops naming steps m h
  held-as Market naming steps m h = held-with_stops naming steps m h

  pub held-come_in : (naming : Naming) (steps : List Step) (m : MatchState) → Holds m → Holds (come_in naming steps m)
  held-come_in naming steps m h = held-as m.taker.order.kind naming steps m h
