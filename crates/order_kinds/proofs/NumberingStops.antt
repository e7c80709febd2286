-- The stop that is triggered next is the same where each order is named by its number, and so is all that an order does that
-- comes in.
use Rattle.std.proofs.Common.{◌≡◌, ℕ, ◌+◌, ◌≤◌, List, [], ◌∷◌, filter, length, Option, Some, None, option_map, refl, sym, ap, subst, ◌∙◌}
use Prim.Native.Nat.{zero, suc}
use Rattle.gx_base.specs.declared.price.Price.{Price}
use Rattle.gx_base.specs.declared.order.Kind.{Kind}
use Rattle.gx_base.specs.declared.order.Kind.TheVariants.{Limit, Market, StopLimit}
use Rattle.gx_base.specs.declared.order.Order.{Order}
use Rattle.gx_base.specs.declared.event.Event.{Event}
use Rattle.gx_base.specs.declared.event.Event.TheVariants.{Triggered}
use Rattle.step_config.specs.declared.step.Step.{Step}
use Rattle.plain_book.specs.declared.entry.Entry.{Entry}
use Rattle.plain_book.specs.Orders.{HasSlot, is_of, stops_of}
use Rattle.plain_book.specs.Book.{Book, AllDiffer, live_orders, book_without}
use Rattle.plain_book.specs.Match.{MatchState, report}
use Rattle.plain_book.specs.Numbers.{numbered, book_numbered, match_numbered}
use Rattle.plain_book.specs.Numbers.{entry_numbered}
use Rattle.plain_book.proofs.Live.{AllOrders}
use Rattle.plain_book.proofs.Levels.{HasSlot-right, order_of-right, slots-apart, AllDiffer-back}
use Rattle.level_sweep.proofs.Numbered.{filter-order}
use Rattle.order_kinds.specs.State.{State, state_numbered}
use Rattle.order_kinds.specs.Entering.{entered}
use Rattle.order_kinds.specs.Stops.{fill_range, is_reached_by, first_entry, first_reached, next_stop, as_triggered, stop_triggered, Naming, by_number, stop_entered, stop_rounds, stops_entered, entered_with_stops, come_in_as, come_in}
use Rattle.order_kinds.specs.Accepting.{after_match}
use Rattle.order_kinds.specs.Cores.{AreNumbered}
use Rattle.order_kinds.specs.Inner.Apart.{EnterApart, ComeApartAs, ComeApart}
use Rattle.order_kinds.proofs.Slots.{left-differ}
use Rattle.order_kinds.proofs.FirstReached.{StandsIn, reached-stands}
use Rattle.order_kinds.proofs.ComingIn.{StaysTrue, held-come_in}
use Rattle.order_kinds.proofs.Numbering.{length-numbered}
use Rattle.order_kinds.proofs.NumberingChanges.{left-same, left-numbers, left-lacks}
use Rattle.order_kinds.proofs.NumberingEntered.{IsIncoming, IsAlike, entered-alike, waiting-alike}

-- ---- the next stop

first-numbered : (es : List Entry) → first_entry (numbered es) ≡ option_map entry_numbered (first_entry es)
first-numbered [] = refl
first-numbered (e ∷ es) = refl

first_reached-numbered : (instrument : ℕ) (range : Option (Price × Price)) (waiting : List Entry)
    → first_reached instrument range (numbered waiting) ≡ option_map entry_numbered (first_reached instrument range waiting)
first_reached-numbered instrument None waiting = refl
first_reached-numbered instrument (Some range) waiting =
    ap (λ (es : List Entry). first_entry (filter (is_reached_by range) es)) (filter-order (is_of instrument) (λ e. refl) waiting)
    ∙ ap first_entry (filter-order (is_reached_by range) (λ e. refl) (stops_of instrument waiting))
    ∙ first-numbered (filter (is_reached_by range) (stops_of instrument waiting))

next_stop-numbered : (m : MatchState) → next_stop (match_numbered m) ≡ option_map entry_numbered (next_stop m)
next_stop-numbered m = first_reached-numbered m.taker.order.instrument (fill_range m.events) m.book.waiting

next-stands : (m : MatchState) (e : Entry) → AllDiffer (live_orders m.book) → next_stop m ≡ Some e → StandsIn e (live_orders m.book)
next-stands m e d is =
    let rests = m.book.resting in
    let waits = m.book.waiting in
    let stands = reached-stands m.taker.order.instrument (fill_range m.events) waits e (AllDiffer-back rests waits d) is in
    (HasSlot-right e.slot rests waits stands.0, order_of-right e.slot rests waits (λ h. slots-apart e.slot rests waits d h stands.0) ∙ stands.1)

-- ---- it is triggered, and entered

module _ (e : Entry) (m : MatchState) (slots : AllDiffer (live_orders m.book)) (numbers : AllDiffer (live_orders (book_numbered m.book))) (stands : StandsIn e (live_orders m.book)) where
  triggered-same : stop_triggered (entry_numbered e) (match_numbered m) ≡ match_numbered (stop_triggered e m)
  triggered-same =
      let o = as_triggered e.order in
      let left : book_without e.order.number (book_numbered m.book) ≡ book_numbered (book_without e.slot m.book) =
      subst (λ (x : Order). book_without x.number (book_numbered m.book) ≡ book_numbered (book_without e.slot m.book)) stands.1 (left-same e.slot m.book slots numbers stands.0) in
      ap (λ (b : Book). report Triggered o (record m { book = b; taker = record { order = o; time = m.taker.time; range = None } })) left

  triggered-incoming : IsIncoming (stop_triggered e m)
  triggered-incoming = record {
    slots = left-differ e.slot m.book slots;
    numbers = left-numbers e.slot m.book slots numbers stands.0;
    fresh = subst (λ (o : Order). HasSlot o.number (live_orders (book_numbered (book_without e.slot m.book))) → ⊥) stands.1 (left-lacks e.slot m.book slots numbers stands.0);
  }

module _ (name : ℕ → ℕ) (steps : List Step) (m : MatchState) (slots : AllDiffer (live_orders m.book)) (numbers : AllDiffer (live_orders (book_numbered m.book))) where
  stop-alike : (next : Option Entry) → next_stop m ≡ next → IsAlike (stop_entered (option_map entry_numbered next) (λ number. number) steps (match_numbered m)) (stop_entered next name steps m)
  stop-alike None is = record { same = refl; numbers = numbers }
  stop-alike (Some e) is =
      let k = e.order.number in
      let stands = next-stands m e slots is in
      let alike = entered-alike (name k) steps (stop_triggered e m) (triggered-incoming e m slots numbers stands) in
      record { same = ap (entered k steps) (triggered-same e m slots numbers stands) ∙ alike.same; numbers = alike.numbers }

-- ---- one stop after the other

-- slots differ after each turn
abbrev RoundsApart : Naming → List Step → MatchState → Type 0
RoundsApart naming steps m = (turns : ℕ) → AllDiffer (live_orders (stop_rounds turns naming steps m).book)

rounds-alike : (n : ℕ) (naming : Naming) (steps : List Step) (m : MatchState) → RoundsApart naming steps m → AllDiffer (live_orders (book_numbered m.book))
    → IsAlike (stop_rounds n by_number steps (match_numbered m)) (stop_rounds n naming steps m)
rounds-alike zero naming steps m apart numbers = record { same = refl; numbers = numbers }
rounds-alike (suc n) naming steps m apart numbers =
    let before = stop_rounds n naming steps m in
    let so_far = rounds-alike n naming steps m apart numbers in
    let alike = stop-alike (naming n) steps before (apart n) so_far.numbers (next_stop before) refl in
    record {
      same = ap (λ (x : MatchState). stop_entered (next_stop x) (λ number. number) steps x) so_far.same
          ∙ ap (λ (next : Option Entry). stop_entered next (λ number. number) steps (match_numbered before)) (next_stop-numbered before)
          ∙ alike.same;
      numbers = alike.numbers;
    }

stops-alike : (naming : Naming) (steps : List Step) (m : MatchState) → RoundsApart naming steps m → AllDiffer (live_orders (book_numbered m.book))
    → IsAlike (stops_entered by_number steps (match_numbered m)) (stops_entered naming steps m)
stops-alike naming steps m apart numbers =
    let alike = rounds-alike (length m.book.waiting) naming steps m apart numbers in
    record { same = ap (λ (n : ℕ). stop_rounds n by_number steps (match_numbered m)) (length-numbered m.book.waiting) ∙ alike.same; numbers = alike.numbers }

-- ---- an order comes in

with_stops-alike : (naming : Naming) (steps : List Step) (m : MatchState) → IsIncoming m → EnterApart naming steps m
    → IsAlike (entered_with_stops by_number steps (match_numbered m)) (entered_with_stops naming steps m)
with_stops-alike naming steps m incoming apart =
    let k = m.taker.order.number in
    let first = entered-alike (naming 0 k) steps m incoming in
    let alike = stops-alike (λ before. naming (before + 1)) steps (entered (naming 0 k) steps m) apart first.numbers in
    record { same = ap (stops_entered by_number steps) first.same ∙ alike.same; numbers = alike.numbers }

come_in_as-alike : (kind : Kind) (naming : Naming) (steps : List Step) (m : MatchState) → IsIncoming m → ComeApartAs kind naming steps m
    → IsAlike (come_in_as kind by_number steps (match_numbered m)) (come_in_as kind naming steps m)
come_in_as-alike StopLimit naming steps m incoming apart = waiting-alike (naming 0 m.taker.order.number) m incoming
come_in_as-alike Limit naming steps m incoming apart = with_stops-alike naming steps m incoming apart
come_in_as-alike Market naming steps m incoming apart = with_stops-alike naming steps m incoming apart

-- an order comes in by number as by slot
pub come_in-alike : (naming : Naming) (steps : List Step) (m : MatchState) → IsIncoming m → ComeApart naming steps m → IsAlike (come_in by_number steps (match_numbered m)) (come_in naming steps m)
come_in-alike naming steps m incoming apart = come_in_as-alike m.taker.order.kind naming steps m incoming apart

-- ---- what is left of a match

-- the state after a step, each order named by its number, and its events
abbrev pub outcome_numbered : State × List Event → State × List Event
outcome_numbered after = (state_numbered after.0, after.1)

-- no order has a number above this one
abbrev pub AreGiven : ℕ → List Entry → Type 0
AreGiven n es = AllOrders (λ (o : Order). o.number ≤ n) es

up_to : (n : ℕ) → StaysTrue (λ (o : Order). o.number ≤ n)
up_to n = record { trades = record { other = λ o filled leaves shown prorated h. h }; rests = λ o h. h; triggers = λ o h. h }

module _ (instrument : ℕ) (state : State) (naming : Naming) (steps : List Step) (m : MatchState) (incoming : IsIncoming m) (apart : ComeApart naming steps m) where
  pub match-same : after_match instrument (state_numbered state) (come_in by_number steps (match_numbered m)) ≡ outcome_numbered (after_match instrument state (come_in naming steps m))
  match-same = ap (after_match instrument (state_numbered state)) (come_in-alike naming steps m incoming apart).same

  pub match-numbered : AreGiven m.desk.orders (live_orders m.book) → m.taker.order.number ≤ m.desk.orders → AreNumbered (after_match instrument state (come_in naming steps m)).0
  match-numbered given own =
      let end = come_in naming steps m in
      let n = m.desk.orders in
      let held = held-come_in (λ (o : Order). o.number ≤ n) (up_to n) m.book n naming steps m (record { capacity = refl; instruments = refl; given = refl; all = given; own = own }) in
      record {
        differ = (come_in-alike naming steps m incoming apart).numbers;
        given = subst (λ (x : ℕ). AreGiven x (live_orders end.book)) (sym held.given) held.all;
      }
