-- A core still fits its product after a request.
use Rattle.std.proofs.Common.{◌≡◌, ℕ, Bool, true, false, cond, List, length, Option, Some, None, Result, Ok, Err, refl, ◌∙◌, lit≤}
use Rattle.std.proofs.lemmas.List.{length-set}
use Rattle.gx_base.specs.declared.price.Price.{Price}
use Rattle.gx_base.specs.declared.order.Desk.{Desk}
use Rattle.gx_base.specs.declared.order.Order.{Order}
use Rattle.gx_base.specs.declared.event.ChangeFault.{ChangeFault}
use Rattle.gx_base.specs.declared.event.NewFault.{NewFault}
use Rattle.gx_base.specs.declared.event.Event.{Event}
use Rattle.gx_base.specs.declared.trading.Trading.{Trading}
use Rattle.gx_base.specs.declared.trading.Trading.TheVariants.{Open, Closed}
use Rattle.step_config.specs.declared.step.Step.{Step}
use Rattle.product_file.specs.Products.{ProductLists}
use Rattle.fix_request.specs.declared.request.NewOrder.{NewOrder}
use Rattle.fix_request.specs.declared.request.CancelOrder.{CancelOrder}
use Rattle.fix_request.specs.declared.request.ReplaceOrder.{ReplaceOrder}
use Rattle.fix_request.specs.declared.request.Request.{Request}
use Rattle.fix_request.specs.declared.request.Request.TheVariants.{New, Cancel, Replace, Session, Passed, Refused}
use Rattle.fix_request.specs.ValidRequests.{IsValidNew, IsValidReplace, IsValidRequest}
use Rattle.plain_book.specs.declared.entry.Entry.{Entry}
use Rattle.plain_book.specs.Orders.{HasSlot, order_of, slot_named}
use Rattle.plain_book.specs.Book.{live_orders}
use Rattle.plain_book.specs.Match.{MatchState}
use Rattle.plain_book.proofs.Live.{AllOrders, orders-at}
use Rattle.order_kinds.specs.Instruments.{ListedInstrument}
use Rattle.order_kinds.specs.State.{State}
use Rattle.order_kinds.specs.Stops.{Naming, come_in}
use Rattle.order_kinds.specs.NewOrders.{Terms, terms_of}
use Rattle.order_kinds.specs.Entering.{last_fill, last_after}
use Rattle.order_kinds.specs.Accepting.{new_start, after_match, accepted, accepted_or_refused}
use Rattle.order_kinds.specs.Cancels.{cancel_by}
use Rattle.order_kinds.specs.Replaces.{replace_terms, keeps_place, least_after, replaced_in_place, replaced_start, replaced_anew, replaced, replaced_or_refused, replace_at}
use Rattle.order_kinds.specs.TradingSessions.{session_changed}
use Rattle.order_kinds.specs.Step.{open_step_as, closed_step_as, request_step_as}
use Rattle.order_kinds.specs.Cores.{IsListedOrder, FitsProduct}
use Rattle.order_kinds.proofs.SessionSteps.{by-session}
use Rattle.order_kinds.proofs.Closings.{closed-among}
use Rattle.order_kinds.proofs.Kept.{all-left, all-changed}
use Rattle.order_kinds.proofs.ComingIn.{StaysTrue, held-come_in}
use Rattle.order_kinds.proofs.Numbering.{named-has}
use Rattle.order_kinds.proofs.Ranges.{AreListedTerms, terms-listed, price-range}

last-long : (instrument : ℕ) (price : Option Price) (last : List (Option Price)) → length (last_after instrument price last) ≡ length last
last-long instrument None last = refl
last-long instrument (Some price) last = length-set last instrument (Some price)

module _ (naming : Naming) (product : ProductLists) (state : State) (fits : FitsProduct product state) where
  abbrev IsListed : Order → Type 0
  IsListed o = IsListedOrder product o

  listed : StaysTrue IsListed
  listed = record {
    trades = record { other = λ o filled leaves shown prorated h. record { instrument = h.instrument; firm = h.firm; price = h.price; trigger = h.trigger } };
    rests = λ o h. record { instrument = h.instrument; firm = h.firm; price = h.price; trigger = h.trigger };
    triggers = λ o h. record { instrument = h.instrument; firm = h.firm; price = h.price; trigger = lit≤ tt };
  }

  -- only the counters changed
  unchanged-fits : (desk : Desk) → FitsProduct product (record state { desk = desk })
  unchanged-fits desk = record { capacity = fits.capacity; instruments = fits.instruments; prices = fits.prices; orders = fits.orders }

  -- a listed order came in
  match-fits : (instrument : ℕ) (steps : List Step) (m : MatchState) → m.book.capacity ≡ state.book.capacity → m.book.instruments ≡ state.book.instruments → AllOrders IsListed (live_orders m.book) → IsListed m.taker.order
      → FitsProduct product (after_match instrument state (come_in naming steps m)).0
  match-fits instrument steps m capacity instruments all own =
      let end = come_in naming steps m in
      let held = held-come_in IsListed listed state.book m.desk.orders naming steps m (record { capacity = capacity; instruments = instruments; given = refl; all = all; own = own }) in
      record {
        capacity = held.capacity ∙ fits.capacity;
        instruments = held.instruments ∙ fits.instruments;
        prices = last-long instrument (last_fill end.events) state.last ∙ fits.prices;
        orders = held.all;
      }

  -- ---- a new order

  module _ (new : NewOrder) (valid : IsValidNew product.names new) where
    accepted-fits : (terms : Terms) → AreListedTerms product terms → FitsProduct product (accepted naming terms new state).0
    accepted-fits terms are =
        let own : IsListed (new_start terms new state).taker.order = record {
          instrument = are.instrument;
          firm = valid.sender.firm;
          price = are.limit;
          trigger = price-range new.trigger _ valid.trigger (lit≤ tt);
        } in match-fits terms.instrument.number terms.instrument.rule.steps (new_start terms new state) refl refl fits.orders own

    new-fits : (found : Result Terms NewFault) → terms_of product new state ≡ found → FitsProduct product (accepted_or_refused naming found new state).0
    new-fits (Ok terms) is = accepted-fits terms (terms-listed product new state terms valid is)
    new-fits (Err f) is = unchanged-fits _

  -- ---- a replace

  module _ (request : ReplaceOrder) (valid : IsValidReplace product.names request) where
    module _ (slot : ℕ) (has : HasSlot slot (live_orders state.book)) where
      before : IsListed (order_of slot (live_orders state.book))
      before = orders-at IsListed slot (live_orders state.book) fits.orders has

      in_place-fits : FitsProduct product (replaced_in_place request slot state).0
      in_place-fits = record {
        capacity = fits.capacity;
        instruments = fits.instruments;
        prices = fits.prices;
        orders = all-changed IsListed slot request.id request.quantity (least_after request (order_of slot (live_orders state.book))) state.book
            (record { instrument = before.instrument; firm = before.firm; price = before.price; trigger = before.trigger }) fits.orders;
      }

      anew-fits : (instrument : ListedInstrument) → FitsProduct product (replaced_anew naming instrument request slot state).0
      anew-fits instrument =
          let own : IsListed (replaced_start request slot state).taker.order = record {
            instrument = before.instrument;
            firm = before.firm;
            price = price-range request.price _ valid.price before.price;
            trigger = price-range request.trigger _ valid.trigger before.trigger;
          } in match-fits instrument.number instrument.rule.steps (replaced_start request slot state) refl refl (all-left IsListed slot state.book fits.orders) own

      replaced-fits : (instrument : ListedInstrument) → FitsProduct product (replaced naming instrument request slot state).0
      replaced-fits instrument =
          let go : (keeps : Bool) → FitsProduct product (cond keeps (replaced_in_place request slot state) (replaced_anew naming instrument request slot state)).0 = elim [
            | true ↦ in_place-fits
            | false ↦ anew-fits instrument
          ] in go (keeps_place request (order_of slot (live_orders state.book)))

      by-fits : (terms : Result ListedInstrument ChangeFault) → FitsProduct product (replaced_or_refused terms naming request slot state).0
      by-fits (Ok instrument) = replaced-fits instrument
      by-fits (Err f) = unchanged-fits _

    replace-fits : (found : Option ℕ) → slot_named request.sender.firm request.old (live_orders state.book) ≡ found → FitsProduct product (replace_at found naming product request state).0
    replace-fits None is = unchanged-fits _
    replace-fits (Some slot) is =
        by-fits slot (named-has request.sender.firm request.old slot (live_orders state.book) is) (replace_terms product request (order_of slot (live_orders state.book)) state)

  -- ---- a cancel

  cancel-fits : (request : CancelOrder) (found : Option ℕ) → FitsProduct product (cancel_by found request state).0
  cancel-fits request None = unchanged-fits _
  cancel-fits request (Some slot) = record { capacity = fits.capacity; instruments = fits.instruments; prices = fits.prices; orders = all-left IsListed slot state.book fits.orders }

  -- ---- a change of the session

  changed-fits : (to from : Trading) (time : List ℕ) → FitsProduct product (session_changed to from time state).0
  changed-fits Closed Open time = record {
    capacity = fits.capacity;
    instruments = fits.instruments;
    prices = fits.prices;
    orders = closed-among (λ (e : Entry). IsListed e.order) state.book fits.orders;
  }
  changed-fits Open Closed time = record { capacity = fits.capacity; instruments = fits.instruments; prices = fits.prices; orders = fits.orders }
  changed-fits Open Open time = fits
  changed-fits Closed Closed time = fits

  -- ---- any request

  open-fits : (request : Request) → IsValidRequest product request → FitsProduct product (open_step_as naming product request state).0
  open-fits (New order) valid = new-fits order valid (terms_of product order state) refl
  open-fits (Cancel order) valid = cancel-fits order (slot_named order.sender.firm order.old (live_orders state.book))
  open-fits (Replace order) valid = replace-fits order valid (slot_named order.sender.firm order.old (live_orders state.book)) refl
  open-fits (Session change) valid = changed-fits change.to state.trading change.time
  open-fits (Passed sender) valid = fits
  open-fits (Refused refusal) valid = unchanged-fits _

  closed-fits : (request : Request) → IsValidRequest product request → FitsProduct product (closed_step_as naming product request state).0
  closed-fits (New order) valid = unchanged-fits _
  closed-fits (Cancel order) valid = open-fits (Cancel order) valid
  closed-fits (Replace order) valid = unchanged-fits _
  closed-fits (Session change) valid = open-fits (Session change) valid
  closed-fits (Passed sender) valid = fits
  closed-fits (Refused refusal) valid = unchanged-fits _

  -- the core still fits the product
  pub step-fits : (request : Request) → IsValidRequest product request → FitsProduct product (request_step_as naming product request state).0
  step-fits request valid =
      by-session (λ (r : State × List Event). FitsProduct product r.0) naming product request state (λ is. open-fits request valid) (λ is. closed-fits request valid)
