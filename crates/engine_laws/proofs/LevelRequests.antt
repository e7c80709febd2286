-- What a request does: a level stays where no event tells of it, and a replace does not move an order away from it.
use Rattle.std.proofs.Common.{◌≡◌, ℕ, ◌+◌, Bool, true, false, cond, not, List, [], Option, Some, None, Result, Ok, Err, refl, sym}
use Rattle.std.specs.Prelude.{◌==◌}
use Rattle.gx_base.specs.declared.order.Order.{Order}
use Rattle.gx_base.specs.declared.order.Taker.{Taker}
use Rattle.gx_base.specs.declared.event.Event.{Event}
use Rattle.gx_base.specs.declared.event.Event.TheVariants.{Accepted}
use Rattle.gx_base.specs.declared.event.NewFault.{NewFault}
use Rattle.gx_base.specs.declared.event.ChangeFault.{ChangeFault}
use Rattle.product_file.specs.Products.{ProductLists}
use Rattle.fix_request.specs.declared.request.NewOrder.{NewOrder}
use Rattle.fix_request.specs.declared.request.CancelOrder.{CancelOrder}
use Rattle.fix_request.specs.declared.request.ReplaceOrder.{ReplaceOrder}
use Rattle.plain_book.specs.declared.entry.Entry.{Entry}
use Rattle.plain_book.specs.Orders.{Level, HasSlot, order_of, slot_named}
use Rattle.plain_book.specs.Book.{live_orders, book_without, changed_to}
use Rattle.plain_book.specs.Match.{match_start, next_head}
use Rattle.plain_book.proofs.Pairs.{all-filter, all-front, all-back}
use Rattle.order_kinds.specs.State.{State}
use Rattle.order_kinds.specs.Instruments.{ListedInstrument}
use Rattle.order_kinds.specs.NewOrders.{Terms, terms_of}
use Rattle.order_kinds.specs.Accepting.{taker_on, new_start, accepted, accepted_or_refused, new_step}
use Rattle.order_kinds.specs.Cancels.{order_cancelled, cancelled, cancel_by, cancel_step}
use Rattle.order_kinds.specs.Replaces.{replace_terms, least_after, keeps_place, replaced_order, replace_event, replaced_in_place, replaced_start, replaced_anew, replaced, replaced_or_refused, replace_at, replace_step}
use Rattle.order_kinds.specs.Stops.{by_number}
use Rattle.engine_laws.specs.LevelsTold.{is_told, is_slot_at}
use Rattle.engine_laws.proofs.Singles.{differ-single}
use Rattle.engine_laws.proofs.LevelSums.{IsElsewhere, AreElsewhere, elsewhere-at, WeighsLevel, weights, weights-without, weights-changed}
use Rattle.engine_laws.proofs.Matching.{told-last, report-last, IsByNumber, IsMatching}
use Rattle.engine_laws.proofs.Stops.{left-single, come-in-kept}
use Rattle.engine_laws.proofs.States.{AreByNumber, number-at, named-has, next-single}

module _ (k : Level) (weight : Order → ℕ) (of : WeighsLevel k weight) where
  -- a step keeps the level, where no event tells of it
  abbrev pub Stays : List Entry → State × List Event → Type 0
  Stays old step = is_told k step.1 ≡ false → weights weight step.0.book.resting ≡ weights weight old

  module _ (state : State) (are : AreByNumber state.desk.orders state.book) where
    abbrev rests : List Entry
    rests = state.book.resting

    abbrev waits : List Entry
    waits = state.book.waiting

    abbrev live : List Entry
    live = live_orders state.book

    -- the resting orders of a slot are of another level, where its order is
    away-at : (slot : ℕ) → IsElsewhere k (order_of slot live) → AreElsewhere k slot rests
    away-at slot there = all-front (λ (e : Entry). e.slot ≡ slot → IsElsewhere k e.order) rests waits (elsewhere-at k slot live are.differ there)

    -- ---- new orders

    new-matching : (terms : Terms) (new : NewOrder) → IsMatching k weight (weights weight rests) (new_start terms new state)
    new-matching terms new =
        let number = state.desk.orders + 1 in
        let taker = taker_on terms new number in
        let empty = match_start state.book (record state.desk { orders = number }) taker in
        record {
          single = next-single state.desk.orders state.book are;
          waits = all-back IsByNumber rests waits are.named;
          untold = λ none. record { own = report-last k Accepted taker.order empty none; same = refl };
        }

    accepted-stays : (terms : Terms) (new : NewOrder) → Stays rests (accepted by_number terms new state)
    accepted-stays terms new = come-in-kept k weight of (weights weight rests) terms.instrument.rule.steps by_number (new_start terms new state) (λ before number. refl) (new-matching terms new)

    pub new-stays : (product : ProductLists) (new : NewOrder) → Stays rests (new_step by_number product new state)
    new-stays product new =
        let go : (r : Result Terms NewFault) → Stays rests (accepted_or_refused by_number r new state) = elim [
          | Ok terms ↦ accepted-stays terms new
          | Err f ↦ λ none. refl
        ] in go (terms_of product new state)

    -- ---- cancels

    cancelled-stays : (request : CancelOrder) (slot : ℕ) → Stays rests (cancelled request slot state)
    cancelled-stays request slot none =
        weights-without k weight of slot rests (away-at slot (told-last k [] (order_cancelled request (order_of slot live) state.desk) none))

    pub cancel-stays : (request : CancelOrder) → Stays rests (cancel_step request state)
    cancel-stays request =
        let go : (slot : Option ℕ) → Stays rests (cancel_by slot request state) = elim [
          | None ↦ λ none. refl
          | Some slot ↦ cancelled-stays request slot
        ] in go (slot_named request.sender.firm request.old live)

    -- ---- replaces

    module _ (request : ReplaceOrder) (slot : ℕ) where
      abbrev was : Order
      was = order_of slot live

      -- the order keeps its place and its level
      in-place-stays : Stays rests (replaced_in_place request slot state)
      in-place-stays none =
          let now = changed_to request.id request.quantity (least_after request was) was in
          let event = replace_event was (next_head state.desk was.firm request.sender.time) now in
          let there : IsElsewhere k was = told-last k [] event none in
          weights-changed k weight of slot now rests there (away-at slot there)

      -- it leaves a level that is not this one, and comes in again
      anew-matching : HasSlot slot live → IsElsewhere k was → IsMatching k weight (weights weight rests) (replaced_start request slot state)
      anew-matching has there =
          let b = state.book in
          let after = replaced_order request was in
          let taker : Taker = record { order = after; time = request.sender.time; range = None } in
          let left = match_start (book_without slot b) state.desk taker in
          record {
            single = left-single slot was.number b (sym (number-at slot live are.named has)) (differ-single live are.differ);
            waits = all-filter IsByNumber (λ e. not (e.slot == slot)) waits (all-back IsByNumber rests waits are.named);
            untold = λ none. record { own = report-last k (replace_event was) after left none; same = weights-without k weight of slot rests (away-at slot there) };
          }

      anew-stays : (instrument : ListedInstrument) → HasSlot slot live → IsElsewhere k was → Stays rests (replaced_anew by_number instrument request slot state)
      anew-stays instrument has there =
          come-in-kept k weight of (weights weight rests) instrument.rule.steps by_number (replaced_start request slot state) (λ before number. refl) (anew-matching has there)

      replaced-stays : (instrument : ListedInstrument) → HasSlot slot live → IsElsewhere k was → Stays rests (replaced by_number instrument request slot state)
      replaced-stays instrument has there =
          let go : (c : Bool) → Stays rests (cond c (replaced_in_place request slot state) (replaced_anew by_number instrument request slot state)) = elim [
            | true ↦ in-place-stays
            | false ↦ anew-stays instrument has there
          ] in go (keeps_place request was)

    pub replace-stays : (product : ProductLists) (request : ReplaceOrder) → is_slot_at k (slot_named request.sender.firm request.old live) live ≡ false → Stays rests (replace_step by_number product request state)
    replace-stays product request asks =
        let by : (slot : ℕ) → HasSlot slot live → IsElsewhere k (order_of slot live) → (r : Result ListedInstrument ChangeFault) → Stays rests (replaced_or_refused r by_number request slot state) = λ slot has there. elim [
          | Ok instrument ↦ replaced-stays request slot instrument has there
          | Err f ↦ λ none. refl
        ] in
        let named = slot_named request.sender.firm request.old live in
        let go : (slot : Option ℕ) → named ≡ slot → is_slot_at k slot live ≡ false → Stays rests (replace_at slot by_number product request state) = elim [
          | None ↦ λ is there none. refl
          | Some slot ↦ λ is there. by slot (named-has request.sender.firm request.old slot live is) there (replace_terms product request (order_of slot live) state)
        ] in go named refl asks
