-- Prices that are within the price range, and what an accepted order has.
use Rattle.std.proofs.Common.{◌≡◌, ℕ, zero, suc, ◌<◌, ◌≤◌, ◌*◌, ◌/◌, ℤ, pos, negsuc, Bool, true, false, cond, length, Option, Some, None, option_map, Ok, refl, sym, subst, ◌∙◌, arith, inl, inr}
use Rattle.std.specs.Prelude.{int_lt, neg_ℤ, unsigned_abs, unwrap_or}
use Rattle.std.proofs.Math.Nat.{div-mul-le_self}
use Rattle.std.proofs.lemmas.Bool.Decides.{leb_tells}
use Rattle.gx_base.specs.declared.limits.TheConstants.{MOST_PRICE_UNITS}
use Rattle.gx_base.specs.declared.price.Price.{Price}
use Rattle.gx_base.specs.declared.order.Side.{Side}
use Rattle.gx_base.specs.declared.order.Kind.{Kind}
use Rattle.gx_base.specs.declared.order.Kind.TheVariants.{Limit, Market, StopLimit}
use Rattle.product_file.specs.Products.{ProductLists}
use Rattle.product_file.specs.declared.product.InstrumentRule.{InstrumentRule}
use Rattle.fix_request.specs.declared.request.Px.{Px}
use Rattle.fix_request.specs.declared.request.Px.TheVariants.{Absent, At, Between}
use Rattle.fix_request.specs.declared.request.NewOrder.{NewOrder}
use Rattle.fix_request.specs.ValidRequests.{IsWithinLimit, IsValidNew}
use Rattle.plain_book.specs.Orders.{best_of, opposite}
use Rattle.plain_book.specs.Book.{Book}
use Rattle.order_kinds.specs.Instruments.{ListedInstrument, tick_of, price_at, greatest_price, within_range, beyond, protected_limit}
use Rattle.order_kinds.specs.NewOrders.{Terms, terms_of, own_price, limit_of}
use Rattle.order_kinds.specs.State.{State}
use Rattle.order_kinds.specs.Cores.{IsInRange}
use Rattle.order_kinds.proofs.Refusals.{new-passes}
use Rattle.order_kinds.proofs.Terms.{named-number}

-- ---- the protected limit

abs-neg : (n : ℕ) → unsigned_abs (neg_ℤ (pos n)) ≡ n
abs-neg zero = refl
abs-neg (suc n) = refl

-- a price that is neither above the range nor below it
between : (most : ℕ) (price : ℤ) → int_lt (pos most) price ≡ false → int_lt price (neg_ℤ (pos most)) ≡ false → unsigned_abs price ≤ most
between most (pos n) above below = elim (leb_tells (suc most) n) [
  | inl t ↦ absurd (let k : true ≡ false = sym t.0 ∙ above in cc)
  | inr t ↦ omega (arith, t.1)
]
between zero (negsuc n) above below = absurd (let k : true ≡ false = below in cc)
between (suc most) (negsuc n) above below = elim (leb_tells (suc most) n) [
  | inl t ↦ absurd (let k : true ≡ false = sym t.0 ∙ below in cc)
  | inr t ↦ omega (arith, t.1)
]

in-range : (tick : ℕ) (price : ℤ) → unsigned_abs (within_range tick price) ≤ MOST_PRICE_UNITS
in-range tick price =
    let greatest = MOST_PRICE_UNITS / tick * tick in
    let go : (above below : Bool) → int_lt (pos MOST_PRICE_UNITS) price ≡ above → int_lt price (neg_ℤ (pos MOST_PRICE_UNITS)) ≡ below
    → unsigned_abs (cond above (greatest_price tick) (cond below (neg_ℤ (greatest_price tick)) price)) ≤ MOST_PRICE_UNITS = elim [
      | true ↦ λ below a b. div-mul-le_self MOST_PRICE_UNITS tick
      | false ↦ elim [
        | true ↦ λ a b. subst (λ (n : ℕ). n ≤ MOST_PRICE_UNITS) (sym (abs-neg greatest)) (div-mul-le_self MOST_PRICE_UNITS tick)
        | false ↦ λ a b. between MOST_PRICE_UNITS price a b
      ]
    ] in go (int_lt (pos MOST_PRICE_UNITS) price) (int_lt price (neg_ℤ (pos MOST_PRICE_UNITS))) refl refl

-- the limit of a market order is within the price range
pub protected-range : (rule : InstrumentRule) (side : Side) (best : Price) → IsInRange (protected_limit rule side best)
protected-range rule side best = let tick = tick_of rule in in-range tick (beyond side best.0 (rule.protection * tick))

-- ---- what an accepted order has

-- the price of a message, or another one in its place
pub price-range : (px : Px) (other : Price) → IsWithinLimit px → IsInRange other → IsInRange (unwrap_or (price_at px) other)
price-range (At price) other within range = within
price-range Absent other within range = range
price-range Between other within range = range

own-range : (px : Px) (limit : Price) → IsWithinLimit px → Some (own_price px) ≡ Some limit → IsInRange limit
own-range px limit within is =
    let k : Some (own_price px) ≡ Some limit = is in
    let same : own_price px ≡ limit = cc in
    subst IsInRange same (price-range px (record { 0 = pos 0 }) within (omega arith))

market-range : (rule : InstrumentRule) (side : Side) (best : Option Price) (limit : Price) → option_map (protected_limit rule side) best ≡ Some limit → IsInRange limit
market-range rule side None limit is = absurd (let k : None ≡ Some limit = is in cc)
market-range rule side (Some best) limit is =
    let k : Some (protected_limit rule side best) ≡ Some limit = is in
    let same : protected_limit rule side best ≡ limit = cc in
    subst IsInRange same (protected-range rule side best)

limit-range : (kind : Kind) (instrument : ListedInstrument) (new : NewOrder) (book : Book) (limit : Price) → IsWithinLimit new.price → limit_of kind instrument new book ≡ Some limit → IsInRange limit
limit-range Market instrument new book limit within is = market-range instrument.rule new.side (best_of instrument.number (opposite new.side) book.resting) limit is
limit-range Limit instrument new book limit within is = own-range new.price limit within is
limit-range StopLimit instrument new book limit within is = own-range new.price limit within is

-- the instrument of an accepted order is listed, and its limit is within the price range
pub record AreListedTerms (product : ProductLists) (terms : Terms) : Type 0 where
  pub instrument : terms.instrument.number < length product.names.instruments
  pub limit : IsInRange terms.limit

pub terms-listed : (product : ProductLists) (new : NewOrder) (state : State) (terms : Terms) → IsValidNew product.names new → terms_of product new state ≡ Ok terms → AreListedTerms product terms
terms-listed product new state terms valid is =
    let passes = new-passes product new state terms is in
    record {
      instrument = named-number product new.named terms.instrument valid.named passes.named;
      limit = limit-range new.kind terms.instrument new state.book terms.limit valid.price passes.limit;
    }
