-- The range of the prices of a message, and its last price: of the fills of some events and of further ones, and after an
-- order was entered.
use Rattle.std.proofs.Common.{◌≡◌, ℕ, ◌+◌, Bool, true, false, cond, List, [], ◌∷◌, ◌++◌, Option, Some, None, refl, sym, ap, ◌∙◌, arith}
use Rattle.std.specs.Prelude.{◌==◌, nat_lt, ℤ, int_lt}
use Rattle.std.proofs.lemmas.Int.{ints}
use Rattle.gx_base.specs.declared.price.Price.{Price}
use Rattle.gx_base.specs.declared.order.Order.{Order}
use Rattle.gx_base.specs.declared.event.Event.{Event}
use Rattle.gx_base.specs.declared.event.Event.TheVariants.{Fill, Triggered}
use Rattle.gx_base.specs.declared.event.Head.{Head}
use Rattle.gx_base.specs.declared.event.Cause.{Cause}
use Rattle.gx_base.specs.declared.event.Cause.TheVariants as cause
use Rattle.gx_base.specs.declared.event.StepName.{StepName}
use Rattle.step_config.specs.declared.step.Step.{Step}
use Rattle.plain_book.specs.Orders.{order_of, filled_by}
use Rattle.plain_book.specs.Match.{MatchState, next_head, report, fill, taken_by, trade, lower, higher, lengthened}
use Rattle.level_sweep.specs.Sweep.{sweep}
use Rattle.level_sweep.proofs.EachTrade.{Relation, IsKept, each-sweep}
use Rattle.order_kinds.specs.NewOrders.{may_rest}
use Rattle.order_kinds.specs.Entering.{cancel_event, taker_cancelled, taker_rested, finished, open_for, entered, last_fill_from, last_fill}
use Rattle.order_kinds.specs.Stops.{fill_range_from, fill_range}
use Rattle.order_kinds.specs.Inner.Triggering.{joined, later_price}
use Rattle.order_kinds.proofs.PriceRanges.{traded_at, price-same, either-same}

-- ---- prices

cond-price : (c : Bool) (a b : Price) → (cond c a b).0 ≡ cond c a.0 b.0
cond-price true a b = refl
cond-price false a b = refl

least-as : (a b : ℤ) → cond (int_lt a b) a b ≡ cond (int_lt b a) b a
least-as a b = grind (arith, ints)

least-both : (a b c : ℤ) → cond (int_lt c (cond (int_lt a b) a b)) c (cond (int_lt a b) a b) ≡ cond (int_lt (cond (int_lt c b) c b) a) (cond (int_lt c b) c b) a
least-both a b c = grind (arith, ints)

most-both : (a b c : ℤ) → cond (int_lt (cond (int_lt a b) b a) c) c (cond (int_lt a b) b a) ≡ cond (int_lt a (cond (int_lt b c) c b)) (cond (int_lt b c) c b) a
most-both a b c = grind (arith, ints)

-- a range, and one price more
joined-one : (price : Price) (range : Option (Price × Price)) → joined range (Some (price, price)) ≡ lengthened price range
joined-one price None = refl
joined-one price (Some range) =
    let first : cond (int_lt price.0 range.0.0) price range.0 ≡ lower range.0 price =
    price-same _ _ (cond-price (int_lt price.0 range.0.0) price range.0 ∙ least-as price.0 range.0.0 ∙ sym (cond-price (int_lt range.0.0 price.0) range.0 price)) in
    ap (λ (p : Price). Some (p, higher range.1 price)) first

-- the lower of three prices, and the higher, either way
least-prices : (a b c : Price) → let ab = lower a b in
    let cb : Price = cond (int_lt c.0 b.0) c b in
    cond (int_lt c.0 ab.0) c ab ≡ cond (int_lt cb.0 a.0) cb a
least-prices a b c =
    let ab = lower a b in
    let cb : Price = cond (int_lt c.0 b.0) c b in
    price-same _ _
    (cond-price (int_lt c.0 ab.0) c ab
    ∙ ap (λ (z : ℤ). cond (int_lt c.0 z) c.0 z) (cond-price (int_lt a.0 b.0) a b)
    ∙ least-both a.0 b.0 c.0
    ∙ ap (λ (z : ℤ). cond (int_lt z a.0) z a.0) (sym (cond-price (int_lt c.0 b.0) c b))
    ∙ sym (cond-price (int_lt cb.0 a.0) cb a))

most-prices : (a b c : Price) → let ab = higher a b in
    let bc : Price = cond (int_lt b.0 c.0) c b in
    cond (int_lt ab.0 c.0) c ab ≡ cond (int_lt a.0 bc.0) bc a
most-prices a b c =
    let ab = higher a b in
    let bc : Price = cond (int_lt b.0 c.0) c b in
    price-same _ _
    (cond-price (int_lt ab.0 c.0) c ab
    ∙ ap (λ (z : ℤ). cond (int_lt z c.0) c.0 z) (cond-price (int_lt a.0 b.0) b a)
    ∙ most-both a.0 b.0 c.0
    ∙ ap (λ (z : ℤ). cond (int_lt a.0 z) z a.0) (sym (cond-price (int_lt b.0 c.0) c b))
    ∙ sym (cond-price (int_lt a.0 bc.0) bc a))

-- one price more, before the further ones
lengthened-joined : (price : Price) (range more : Option (Price × Price)) → joined (lengthened price range) more ≡ joined range (joined (Some (price, price)) more)
lengthened-joined price range None = sym (joined-one price range)
lengthened-joined price None (Some more) = refl
lengthened-joined price (Some range) (Some more) =
    let mk : Price → Price → Option (Price × Price) = λ low high. Some (low, high) in
    ap (λ (p : Price). mk p (cond (int_lt (higher range.1 price).0 more.1.0) more.1 (higher range.1 price))) (least-prices range.0 price more.0)
    ∙ ap (mk _) (most-prices range.1 price more.1)

-- the same price again
lower-again : (a b : Price) → lower (lower a b) b ≡ lower a b
lower-again a b =
    let go : (c : Bool) → int_lt a.0 b.0 ≡ c → cond (int_lt (cond c a b).0 b.0) (cond c a b) b ≡ cond c a b = elim [
      | true ↦ λ h. ap (λ (c : Bool). cond c a b) h
      | false ↦ λ h. either-same (int_lt b.0 b.0) b
    ] in go (int_lt a.0 b.0) refl

higher-again : (a b : Price) → higher (higher a b) b ≡ higher a b
higher-again a b =
    let go : (c : Bool) → int_lt a.0 b.0 ≡ c → cond (int_lt (cond c b a).0 b.0) b (cond c b a) ≡ cond c b a = elim [
      | true ↦ λ h. either-same (int_lt b.0 b.0) b
      | false ↦ λ h. ap (λ (c : Bool). cond c b a) h
    ] in go (int_lt a.0 b.0) refl

lengthened-again : (price : Price) (range : Option (Price × Price)) → lengthened price (lengthened price range) ≡ lengthened price range
lengthened-again price None =
    ap (λ (p : Price). Some (p, higher price price)) (either-same (int_lt price.0 price.0) price) ∙ ap (λ (p : Price). Some (price, p)) (either-same (int_lt price.0 price.0) price)
lengthened-again price (Some range) =
    let low = lower range.0 price in
    let high = higher range.1 price in
    ap (λ (p : Price). Some (p, higher high price)) (lower-again range.0 price) ∙ ap (λ (p : Price). Some (low, p)) (higher-again range.1 price)

-- ---- the fills of some events, and of further ones

from-joined : (range : Option (Price × Price)) (es : List Event) → fill_range_from range es ≡ joined range (fill_range es)
from-joined range [] = refl
from-joined range (Fill h o lots price step number ∷ es) =
    from-joined (lengthened price range) es
    ∙ lengthened-joined price range (fill_range es)
    ∙ ap (joined range) (sym (from-joined (Some (price, price)) es))
from-joined range (_ ∷ es) = from-joined range es

range-append : (range : Option (Price × Price)) (xs ys : List Event) → fill_range_from range (xs ++ ys) ≡ fill_range_from (fill_range_from range xs) ys
range-append range [] ys = refl
range-append range (Fill h o lots price step number ∷ xs) ys = range-append (lengthened price range) xs ys
range-append range (_ ∷ xs) ys = range-append range xs ys

pub range-joined : (xs ys : List Event) → fill_range (xs ++ ys) ≡ joined (fill_range xs) (fill_range ys)
range-joined xs ys = range-append None xs ys ∙ from-joined (fill_range xs) ys

later-again : (last : Option Price) (price : Price) (more : Option Price) → later_price (Some price) more ≡ later_price last (later_price (Some price) more)
later-again last price None = refl
later-again last price (Some q) = refl

last-from : (last : Option Price) (es : List Event) → last_fill_from last es ≡ later_price last (last_fill es)
last-from last [] = refl
last-from last (Fill h o lots price step number ∷ es) = last-from (Some price) es ∙ later-again last price (last_fill es) ∙ ap (later_price last) (sym (last-from (Some price) es))
last-from last (_ ∷ es) = last-from last es

last-append : (last : Option Price) (xs ys : List Event) → last_fill_from last (xs ++ ys) ≡ last_fill_from (last_fill_from last xs) ys
last-append last [] ys = refl
last-append last (Fill h o lots price step number ∷ xs) ys = last-append (Some price) xs ys
last-append last (_ ∷ xs) ys = last-append last xs ys

pub last-joined : (xs ys : List Event) → last_fill (xs ++ ys) ≡ later_price (last_fill xs) (last_fill ys)
last-joined xs ys = last-append None xs ys ∙ last-from (last_fill xs) ys

-- ---- the range of an order that was entered

range-of-fill : (range : Option (Price × Price)) (es : List Event) (h : Head) (o : Order) (lots : ℕ) (price : Price) (step : StepName) (number : ℕ) → fill_range_from range (es ++ Fill h o lots price step number ∷ []) ≡ lengthened price (fill_range_from range es)
range-of-fill range es h o lots price step number = range-append range es (Fill h o lots price step number ∷ [])

range-cancelled : (es : List Event) (why : Cause) (h : Head) (o : Order) → fill_range (es ++ cancel_event why h o ∷ []) ≡ fill_range es
range-cancelled es why h o = range-append None es (cancel_event why h o ∷ [])

pub range-triggered : (es : List Event) (h : Head) (o : Order) → fill_range (es ++ Triggered h o ∷ []) ≡ fill_range es
range-triggered es h o = range-append None es (Triggered h o ∷ [])

pub last-triggered : (es : List Event) (h : Head) (o : Order) → last_fill (es ++ Triggered h o ∷ []) ≡ last_fill es
last-triggered es h o = last-append None es (Triggered h o ∷ [])

-- the range of the incoming order is that of its fills
abbrev HasRange : MatchState → Type 0
HasRange m = fill_range m.events ≡ m.taker.range

abbrev KeepsRange : Relation
KeepsRange a b = HasRange a → HasRange b

range-traded : (step : StepName) (s n : ℕ) (m : MatchState) → HasRange m → HasRange (trade step s n m)
range-traded step s n m h =
    let resting = order_of s m.book.resting in
    let price = resting.price in
    let number = m.desk.trades + 1 in
    let given : Order = filled_by n resting in
    let taken : Order = taken_by n m.taker.order in
    let traded = traded_at s n m in
    let first = report (fill n price step number) given traded in
    range-of-fill None first.events (next_head first.desk taken.firm first.taker.time) taken n price step number
    ∙ ap (lengthened price) (range-of-fill None m.events (next_head traded.desk given.firm traded.taker.time) given n price step number)
    ∙ lengthened-again price (fill_range m.events)
    ∙ ap (lengthened price) h

range-kept : IsKept KeepsRange
range-kept = record { same = λ m h. h; both = λ a b c f g h. g (f h); trades = range-traded; marks = λ s n m h. h }

range-finished : (name : ℕ) (steps : List Step) (m : MatchState) → HasRange m → HasRange (finished name steps m)
range-finished name steps m h =
    let cancelled : HasRange (taker_cancelled cause.Fak m) = range-cancelled m.events cause.Fak (next_head m.desk m.taker.order.firm m.taker.time) m.taker.order ∙ h in
    let go : (a b : Bool) → HasRange (cond a m (cond b (taker_rested name steps m) (taker_cancelled cause.Fak m))) = elim [
      | true ↦ λ b. h
      | false ↦ elim [ true ↦ h | false ↦ cancelled ]
    ] in go (m.taker.order.leaves == 0) (may_rest m.taker.order.life)

pub range-entered : (name : ℕ) (steps : List Step) (m : MatchState) → m.events ≡ [] → m.taker.range ≡ None
    → fill_range (entered name steps m).events ≡ (entered name steps m).taker.range
range-entered name steps m no-events no-range =
    let price = m.taker.order.price in
    let swept = sweep steps price m in
    let start : HasRange m = ap fill_range no-events ∙ sym no-range in
    let go : (c : Bool) → HasRange (cond c (taker_cancelled cause.MinQty m) (finished name steps swept)) = elim [
      | true ↦ range-cancelled m.events cause.MinQty (next_head m.desk m.taker.order.firm m.taker.time) m.taker.order ∙ start
      | false ↦ range-finished name steps swept (each-sweep KeepsRange range-kept steps price m start)
    ] in go (nat_lt (open_for m) m.taker.order.min)
