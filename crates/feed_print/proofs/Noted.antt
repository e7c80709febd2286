-- A level that is not noted shows as much after a message as before it, of as many orders.
use Rattle.std.proofs.Common.{◌≡◌, ℕ, Bool, true, false, List, [], ◌∷◌, Option, Some, refl, sym, ap, ap₂, ◌∙◌}
use Rattle.std.proofs.lemmas.Bool.{true≢false, false_from_ne_true}
use Rattle.std.specs.Prelude.{◌||◌, option_map}
use Rattle.gx_base.specs.declared.event.Event.{Event}
use Rattle.gx_base.specs.declared.event.Event.TheVariants.{Accepted, Triggered, Fill, Cancelled, Expired, Replaced, RefusedNew, RefusedChange, RefusedSession}
use Rattle.gx_base.specs.declared.order.Slot.{Slot}
use Rattle.book_order.specs.Levels.{Level}
use Rattle.product_file.specs.Products.{ProductLists}
use Rattle.fix_request.specs.declared.request.Request.{Request}
use Rattle.plain_book.specs.declared.entry.Entry.{Entry}
use Rattle.plain_book.specs.Orders.{HasSlot, is_named, slot_named}
use Rattle.plain_book.specs.Book.{EachPair, AreInBookOrder, AllDiffer, live_orders, slot_number}
use Rattle.plain_book.proofs.Live.{first-has}
use Rattle.plain_book.proofs.Levels.{HasSlot-filter}
use Rattle.order_kinds.specs.State.{State, state_numbered}
use Rattle.order_kinds.specs.Cores.{AreNumbered}
use Rattle.order_kinds.specs.Step.{with_message, request_step}
use Rattle.engine_laws.specs.LevelsTold.{tells_of, is_told, asks_at, IsSameLevel}
use Rattle.engine_laws.proofs.Cores.{levels-stay-in-cores}
use Rattle.level_feed.specs.Rows.{levels_of}
use Rattle.level_feed.specs.Noted.{Noted, is_noted, noted_events, is_event_at, has_event_at, AreNoted}
use Rattle.level_feed.proofs.Noting.{events-kept, events-note}
use Rattle.level_feed.proofs.RowsAt.{noted-by-sums}

-- ---- the order that a replace asks for

-- an order that is found is live
pub found-has : (firm : ℕ) (id : List ℕ) (es : List Entry) (found : Option Slot) (s : Slot) → option_map slot_number found ≡ slot_named firm id es → found ≡ Some s → HasSlot s.0 es
found-has firm id es found s named is =
    HasSlot-filter (is_named firm id) s.0 es (first-has s.0 _ (sym named ∙ ap (option_map slot_number) is))

-- ---- events

-- the levels that an event tells of are those that the emitter notes
event-told : (k : Level) (e : Event) → tells_of k e ≡ is_event_at k e
event-told k (Accepted head o) = refl
event-told k (Triggered head o) = refl
event-told k (Fill head o lots price step trade) = refl
event-told k (Cancelled head o gone by cause) = refl
event-told k (Expired head o gone) = refl
event-told k (Replaced head o old before) = refl
event-told k (RefusedNew head new fault) = refl
event-told k (RefusedChange head id old number filled replace fault) = refl
event-told k (RefusedSession head seq tag reason rule) = refl

events-told : (k : Level) (events : List Event) → is_told k events ≡ has_event_at k events
events-told k [] = refl
events-told k (e ∷ events) = ap₂ (λ (a b : Bool). a || b) (event-told k e) (events-told k events)

-- ---- a core that took the step of the engine

module _ (product : ProductLists) (request : Request) (old new : State) (slots : AllDiffer (live_orders old.book)) (are : AreNumbered old) (took : state_numbered new ≡ (request_step product request (with_message (state_numbered old))).0) where
  abbrev events : List Event
  events = (request_step product request (with_message (state_numbered old))).1

  module _ (before after : Noted) (emitted : after ≡ noted_events events before) (asked : (k : Level) → asks_at k request old ≡ true → is_noted k before ≡ true) where
    unnoted-same : (k : Level) → is_noted k after ≡ false → IsSameLevel k old.book.resting new.book.resting
    unnoted-same k h =
        let off : is_noted k (noted_events events before) ≡ false = ap (is_noted k) (sym emitted) ∙ h in
        levels-stay-in-cores product request old new k slots are took
        (false_from_ne_true (asks_at k request old) (λ t. true≢false (sym (events-kept k events before (asked k t)) ∙ off)))
        (false_from_ne_true (is_told k events) (λ t. true≢false (sym (events-note k events before (sym (events-told k events) ∙ t)) ∙ off)))

    pub are-noted : EachPair AreInBookOrder old.book.resting → EachPair AreInBookOrder new.book.resting → AreNoted after (levels_of old.book.resting) (levels_of new.book.resting)
    are-noted ordered then =
        noted-by-sums after old.book.resting new.book.resting ordered then (λ k h. let same = unnoted-same k h in (same.shown, same.orders))
