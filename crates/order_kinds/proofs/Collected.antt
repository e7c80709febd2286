-- Collecting is the same where each order is named by its number, and a core still fits its product then.
use Rattle.std.proofs.Common.{◌≡◌, ℕ, ◌+◌, ◌≤◌, Bool, true, false, cond, Option, Some, None, option_map, Result, Ok, Err, refl, sym, ap, subst, ◌∙◌, arith, lit≤}
use Rattle.gx_base.specs.declared.order.Order.{Order}
use Rattle.gx_base.specs.declared.event.NewFault.{NewFault}
use Rattle.product_file.specs.Products.{ProductLists}
use Rattle.fix_request.specs.declared.request.NewOrder.{NewOrder}
use Rattle.fix_request.specs.declared.request.CancelOrder.{CancelOrder}
use Rattle.fix_request.specs.declared.request.Request.{Request}
use Rattle.fix_request.specs.declared.request.Request.TheVariants.{New, Cancel, Replace, Session, Passed, Refused}
use Rattle.fix_request.specs.ValidRequests.{IsValidNew, IsValidRequest}
use Rattle.plain_book.specs.declared.entry.Entry.{Entry}
use Rattle.plain_book.specs.Orders.{HasSlot, order_of, slot_named}
use Rattle.plain_book.specs.Book.{Book, AllDiffer, live_orders}
use Rattle.plain_book.specs.Numbers.{book_numbered}
use Rattle.plain_book.proofs.Pairs.{all-with}
use Rattle.level_sweep.proofs.Renamed.{live-numbered, placed-same}
use Rattle.order_kinds.specs.State.{State, state_numbered}
use Rattle.order_kinds.specs.NewOrders.{Terms, terms_of, order_on}
use Rattle.order_kinds.specs.Step.{with_message}
use Rattle.order_kinds.specs.Collecting.{is_collected, collected_by, taken_out, collect_step_as, collect_step}
use Rattle.order_kinds.specs.Cores.{AreNumbered, FitsProduct, IsListedOrder}
use Rattle.order_kinds.specs.Inner.Collecting.{Collects}
use Rattle.order_kinds.proofs.Kept.{IgnoresTrades, all-left, all-book_placed}
use Rattle.order_kinds.proofs.Slots.{placed-differ}
use Rattle.order_kinds.proofs.Numbering.{terms-same, named-numbered, named-has}
use Rattle.order_kinds.proofs.NumberingChanges.{left-same, left-numbers}
use Rattle.order_kinds.proofs.NumberingSteps.{next-lacks}
use Rattle.order_kinds.proofs.Ranges.{terms-listed, price-range}

abbrev itself : ℕ → ℕ
itself number = number

module _ (state : State) (slots : AllDiffer (live_orders state.book)) (are : AreNumbered state) (name : ℕ) where
  abbrev named : ℕ → ℕ
  named number = name

  -- ---- a new order

  by-same : (new : NewOrder) (terms : Result Terms NewFault) → collected_by itself terms new (state_numbered state) ≡ state_numbered (collected_by named terms new state)
  by-same new (Ok terms) =
      let number = state.desk.orders + 1 in
      ap (λ (b : Book). record state { book = b; desk = record state.desk { orders = number } }) (placed-same name (order_on terms new number) None state.book)
  by-same new (Err f) = refl

  new-same : (product : ProductLists) (new : NewOrder) → collect_step_as itself product (New new) (state_numbered state) ≡ state_numbered (collect_step_as named product (New new) state)
  new-same product new =
      ap (λ (terms : Result Terms NewFault). cond (is_collected new) (collected_by itself terms new (state_numbered state)) (state_numbered state)) (terms-same product new state)
      ∙ ap (λ (s : State). cond (is_collected new) s (state_numbered state)) (by-same new (terms_of product new state))
      ∙ both (is_collected new)
    where
      both : (c : Bool) → cond c (state_numbered (collected_by named (terms_of product new state) new state)) (state_numbered state) ≡ state_numbered (cond c (collected_by named (terms_of product new state) new state) state)
      both true = refl
      both false = refl

  by-numbered : (new : NewOrder) (terms : Result Terms NewFault) → AreNumbered (collected_by named terms new state)
  by-numbered new (Ok terms) =
      let n = state.desk.orders in
      let o = order_on terms new (n + 1) in
      let fresh : HasSlot (n + 1) (live_orders (book_numbered state.book)) → ⊥ = λ has. next-lacks n (live_orders state.book) are.given (subst (HasSlot (n + 1)) (live-numbered state.book) has) in
      let below = λ (o : Order). o.number ≤ n + 1 in
      let ignores : IgnoresTrades below = record { other = λ o filled leaves shown prorated h. h } in
      record {
        differ = subst (λ (b : Book). AllDiffer (live_orders b)) (placed-same name o None state.book) (placed-differ (n + 1) o None (book_numbered state.book) are.differ fresh);
        given = all-book_placed below ignores name o None state.book (omega arith) (all-with (λ (e : Entry). e.order.number ≤ n) (λ (e : Entry). e.order.number ≤ n + 1) (λ e h. omega (arith, h)) (live_orders state.book) are.given);
      }
  by-numbered new (Err f) = are

  new-numbered : (product : ProductLists) (new : NewOrder) → AreNumbered (collect_step_as named product (New new) state)
  new-numbered product new = both (is_collected new)
    where
      both : (c : Bool) → AreNumbered (cond c (collected_by named (terms_of product new state) new state) state)
      both true = by-numbered new (terms_of product new state)
      both false = are

  -- ---- a cancel

  module _ (request : CancelOrder) where
    abbrev asked : Option ℕ
    asked = slot_named request.sender.firm request.old (live_orders state.book)

    out-same : (found : Option ℕ) → asked ≡ found → taken_out (option_map (λ s. (order_of s (live_orders state.book)).number) found) (state_numbered state) ≡ state_numbered (taken_out found state)
    out-same None is = refl
    out-same (Some s) is = ap (λ (b : Book). record state { book = b }) (left-same s state.book slots are.differ (named-has request.sender.firm request.old s (live_orders state.book) is))

    cancel-same : taken_out (slot_named request.sender.firm request.old (live_orders (state_numbered state).book)) (state_numbered state) ≡ state_numbered (taken_out asked state)
    cancel-same = ap (λ (found : Option ℕ). taken_out found (state_numbered state)) (named-numbered request.sender.firm request.old state.book slots) ∙ out-same asked refl

    out-numbered : (found : Option ℕ) → asked ≡ found → AreNumbered (taken_out found state)
    out-numbered None is = are
    out-numbered (Some s) is = record {
      differ = left-numbers s state.book slots are.differ (named-has request.sender.firm request.old s (live_orders state.book) is);
      given = all-left (λ (o : Order). o.number ≤ state.desk.orders) s state.book are.given;
    }

  -- ---- any request

  step-same : (product : ProductLists) (request : Request) → collect_step_as itself product request (state_numbered state) ≡ state_numbered (collect_step_as named product request state)
  step-same product (New new) = new-same product new
  step-same product (Cancel request) = cancel-same request
  step-same product (Replace request) = refl
  step-same product (Session change) = refl
  step-same product (Passed sender) = refl
  step-same product (Refused refusal) = refl

  step-numbered : (product : ProductLists) (request : Request) → AreNumbered (collect_step_as named product request state)
  step-numbered product (New new) = new-numbered product new
  step-numbered product (Cancel request) = out-numbered request (asked request) refl
  step-numbered product (Replace request) = are
  step-numbered product (Session change) = are
  step-numbered product (Passed sender) = are
  step-numbered product (Refused refusal) = are

-- ---- a core still fits its product

module _ (product : ProductLists) (state : State) (fits : FitsProduct product state) (name : ℕ → ℕ) where
  abbrev Is : Order → Type 0
  Is o = IsListedOrder product o

  by-fits : (new : NewOrder) → IsValidNew product.names new → (terms : Result Terms NewFault) → terms_of product new state ≡ terms → FitsProduct product (collected_by name terms new state)
  by-fits new valid (Err f) h = fits
  by-fits new valid (Ok terms) h =
      let number = state.desk.orders + 1 in
      let are = terms-listed product new state terms valid h in
      let own : Is (order_on terms new number) = record {
        instrument = are.instrument;
        firm = valid.sender.firm;
        price = are.limit;
        trigger = price-range new.trigger _ valid.trigger (lit≤ tt);
      } in
      let ignores : IgnoresTrades Is = record { other = λ o filled leaves shown prorated h. record { instrument = h.instrument; firm = h.firm; price = h.price; trigger = h.trigger } } in
      record {
        capacity = fits.capacity;
        instruments = fits.instruments;
        prices = fits.prices;
        orders = all-book_placed Is ignores (name number) (order_on terms new number) None state.book own fits.orders;
      }

  step-fits : (request : Request) → IsValidRequest product request → FitsProduct product (collect_step_as name product request state)
  step-fits (New new) valid = both (is_collected new)
    where
      both : (c : Bool) → FitsProduct product (cond c (collected_by name (terms_of product new state) new state) state)
      both true = by-fits new valid (terms_of product new state) refl
      both false = fits
  step-fits (Cancel request) valid = out (slot_named request.sender.firm request.old (live_orders state.book))
    where
      out : (found : Option ℕ) → FitsProduct product (taken_out found state)
      out None = fits
      out (Some s) = record { capacity = fits.capacity; instruments = fits.instruments; prices = fits.prices; orders = all-left Is s state.book fits.orders }
  step-fits (Replace request) valid = fits
  step-fits (Session change) valid = fits
  step-fits (Passed sender) valid = fits
  step-fits (Refused refusal) valid = fits

-- ---- what a core's private functions do

module _ (product : ProductLists) (request : Request) (old now new : State) (collects : Collects (λ name. collect_step_as name product request) (with_message now) new) (same : now ≡ old) where
  taken : new ≡ collect_step_as (λ number. collects.name) product request (with_message old)
  taken = collects.state ∙ ap (λ (s : State). collect_step_as (λ number. collects.name) product request (with_message s)) same

  pub collects-step : AllDiffer (live_orders now.book) → AreNumbered old → state_numbered new ≡ collect_step product request (state_numbered old)
  collects-step differ are =
      let slots : AllDiffer (live_orders old.book) = subst (λ (s : State). AllDiffer (live_orders s.book)) same differ in
      let numbers : AreNumbered (with_message old) = record { differ = are.differ; given = are.given } in
      ap state_numbered taken ∙ sym (step-same (with_message old) slots numbers collects.name product request)

  pub collects-numbered : AllDiffer (live_orders now.book) → AreNumbered old → AreNumbered new
  collects-numbered differ are =
      let slots : AllDiffer (live_orders old.book) = subst (λ (s : State). AllDiffer (live_orders s.book)) same differ in
      let numbers : AreNumbered (with_message old) = record { differ = are.differ; given = are.given } in
      subst AreNumbered (sym taken) (step-numbered (with_message old) slots numbers collects.name product request)

  pub collects-fits : FitsProduct product old → IsValidRequest product request → FitsProduct product new
  collects-fits fits valid =
      let counted : FitsProduct product (with_message old) = record { capacity = fits.capacity; instruments = fits.instruments; prices = fits.prices; orders = fits.orders } in
      subst (FitsProduct product) (sym taken) (step-fits product (with_message old) counted (λ number. collects.name) request valid)
