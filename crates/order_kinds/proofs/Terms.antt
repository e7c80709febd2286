-- What is asked of a book for a new order, and what is true of one that no rule refuses.
use Rattle.std.proofs.Common.{◌≡◌, ◌≢◌, ℕ, ◌<◌, ◌≤◌, true, false, cond, not, ◌&&◌, ◌||◌, List, [], ◌∷◌, filter, length, Option, Some, None, Ok, option_map, is_some, slice_get, refl, sym, ap, subst, ◌∙◌, arith, inl, inr}
use Rattle.std.specs.Prelude.{◌==◌, nat_lt, nat_le}
use Rattle.std.proofs.lemmas.Bool.Decides.{eqb_tells, nat_tests}
use Rattle.gx_base.specs.declared.limits.TheConstants.{MOST_LOTS}
use Rattle.gx_base.specs.declared.price.Price.{Price}
use Rattle.gx_base.specs.declared.order.Side.{Side}
use Rattle.gx_base.specs.declared.order.Kind.{Kind}
use Rattle.gx_base.specs.declared.order.Kind.TheVariants.{Limit, Market, StopLimit}
use Rattle.gx_base.specs.declared.order.Slot.{Slot}
use Rattle.product_file.specs.Products.{ProductLists, IsRightProduct}
use Rattle.product_file.specs.declared.product.InstrumentRule.{InstrumentRule}
use Rattle.fix_request.specs.declared.request.NewOrder.{NewOrder}
use Rattle.fix_request.specs.declared.request.Px.{Px}
use Rattle.fix_request.specs.declared.request.Px.TheVariants.{Absent}
use Rattle.fix_request.specs.declared.request.Named.{Named}
use Rattle.fix_request.specs.declared.request.Named.TheVariants.{Known, Unknown}
use Rattle.fix_request.specs.ValidRequests.{IsListed, IsValidNew, HasPricesOf}
use Rattle.plain_book.specs.declared.entry.Entry.{Entry}
use Rattle.plain_book.specs.Orders.{slot_of, slot_named, is_named, is_live, is_on, side_of, price_of, best_of}
use Rattle.plain_book.specs.Book.{IsRight, live_orders, slot_number}
use Rattle.plain_book.proofs.Pairs.{all-filter}
use Rattle.order_kinds.specs.State.{State}
use Rattle.order_kinds.specs.Instruments.{ListedInstrument, instrument_of}
use Rattle.order_kinds.specs.OrderRules.{stop_price}
use Rattle.order_kinds.specs.NewOrders.{Terms, terms_of}
use Rattle.order_kinds.specs.Cores.{IsInRange, FitsProduct}
use Rattle.order_kinds.specs.Inner.Terms.{ArePricesInRange, IsAccepted}
use Rattle.order_kinds.proofs.Refusals.{new-passes}

-- ---- an order by its firm and id

live-named : (firm : ℕ) (id : List ℕ) (es : List Entry) → is_some (slot_named firm id es) ≡ is_live firm id es
live-named firm id [] = refl
live-named firm id (e ∷ es) =
    let p = is_named firm id in
    elim (p e) as (λ b. is_some (slot_of (cond b (e ∷ filter p es) (filter p es))) ≡ (b || is_live firm id es)) [ true ↦ refl | false ↦ live-named firm id es ]

some-mapped : (found : Option Slot) → is_some (option_map slot_number found) ≡ is_some found
some-mapped None = refl
some-mapped (Some s) = refl

-- whether an order is found
pub found-live : (firm : ℕ) (id : List ℕ) (es : List Entry) (found : Option Slot) → option_map slot_number found ≡ slot_named firm id es → is_some found ≡ is_live firm id es
found-live firm id es found is = sym (some-mapped found) ∙ ap is_some is ∙ live-named firm id es

-- ---- prices

first-in-range : (es : List Entry) (p : Price) → ArePricesInRange es → price_of es ≡ Some p → IsInRange p
first-in-range [] p h is = absurd (let k : None ≡ Some p = is in cc)
first-in-range (e ∷ es) p h is = let k : Some e.order.price ≡ Some p = is in let same : e.order.price ≡ p = cc in subst IsInRange same h.0

-- the best price is that of a resting order
pub best-in-range : (instrument : ℕ) (side : Side) (es : List Entry) (p : Price) → ArePricesInRange es → best_of instrument side es ≡ Some p → IsInRange p
best-in-range instrument side es p h is = first-in-range (side_of instrument side es) p (all-filter (λ (e : Entry). IsInRange e.order.price) (is_on instrument side) es h) is

-- ---- no rule refuses

eq-false : (a b : ℕ) → (a == b) ≡ false → a ≢ b
eq-false a b h = elim (eqb_tells a b) [ inl t ↦ absurd (let k : true ≡ false = sym t.0 ∙ h in cc) | inr t ↦ t.1 ]

pub quantity-small : (most n : ℕ) → not (nat_le 1 n && nat_le n most) ≡ false → (1 ≤ n) × (n ≤ most)
quantity-small most n h = (grind (arith, nat_tests), grind (arith, nat_tests))

pub shown-within : (show n : ℕ) → nat_lt n show ≡ false → show ≤ n
shown-within show n h = grind (arith, nat_tests)

-- an order that is no stop limit order has no stop price
pub no-trigger : (kind : Kind) (price trigger : Px) → HasPricesOf kind price trigger → (kind ≡ StopLimit → ⊥) → trigger ≡ Absent
no-trigger Limit price trigger has other = has.1
no-trigger Market price trigger has other = has.1
no-trigger StopLimit price trigger has other = absurd (other refl)

-- the instrument that is found is the one that is named
pub named-number : (product : ProductLists) (named : Named) (found : ListedInstrument) → IsListed product.names named → instrument_of product named ≡ Some found → found.number < length product.names.instruments
named-number product Unknown found listed h = absurd (let k : None ≡ Some found = h in cc)
named-number product (Known number) found listed h =
    let go : (rule : Option InstrumentRule) → option_map (λ r. record { number = number; rule = r }) rule ≡ Some found → found.number ≡ number = elim [
      | None ↦ λ k. absurd (let e : None ≡ Some found = k in cc)
      | Some r ↦ λ k. let here : ListedInstrument = record { number = number; rule = r } in
          let e : Some here ≡ Some found = k in let same : here ≡ found = cc in sym (ap (λ (i : ListedInstrument). i.number) same)
    ] in subst (λ (n : ℕ). n < length product.names.instruments) (sym (go (slice_get product.rules number) h)) listed

-- a valid new order that is accepted on some terms
pub terms-accepted : (product : ProductLists) (new : NewOrder) (state : State) (terms : Terms) → IsRightProduct product → IsValidNew product.names new → FitsProduct product state → IsRight state.book
    → terms_of product new state ≡ Ok terms → IsAccepted state terms new
terms-accepted product new state terms right valid fits book h =
    let passes = new-passes product new state terms h in
    let listed = named-number product new.named terms.instrument valid.named passes.named in
    let small = quantity-small MOST_LOTS new.quantity passes.quantity in
    record {
      listed = omega (arith, listed, fits.instruments);
      priced = omega (arith, listed, fits.prices);
      firm = omega (arith, valid.sender.firm, right.few_firms);
      unnamed = passes.unnamed;
      spare = let some : length (live_orders state.book) ≢ product.max_orders = eq-false _ _ passes.room in omega (arith, some, book.few, fits.capacity);
      some = small.0;
      small = small.1;
      show = shown-within new.show new.quantity passes.show;
      no_stop = λ other. ap stop_price (no-trigger new.kind new.price new.trigger valid.prices other);
    }
