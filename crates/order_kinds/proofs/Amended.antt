-- A state whose product is amended: its orders are all there, they keep their numbers, and it fits the product that follows.
use Rattle.std.proofs.Common.{◌≡◌, ℕ, ◌≤◌, Bool, true, false, not, List, [], ◌∷◌, ◌++◌, length, map, Option, Some, None, Ok, Result, suc, bytes_eq, refl, sym, ap, subst, ◌∙◌, arith, inl, inr}
use Rattle.std.specs.Option.{option_or}
use Rattle.std.specs.List.{AllByRecursion}
use Rattle.std.proofs.lemmas.Bool.Decides.{Decides-eqb}
use Rattle.gx_base.specs.FirstFault.{fault_if, unless_fault}
use Rattle.gx_base.specs.declared.order.Order.{Order}
use Rattle.product_file.specs.Products.{ProductLists}
use Rattle.product_file.specs.Amendments.{begins_with, are_same, is_same_listed, has_same_tick, amend_fault, may_follow}
use Rattle.product_file.specs.declared.amendments.AmendFault.{AmendFault}
use Rattle.plain_book.specs.declared.entry.Entry.{Entry}
use Rattle.plain_book.specs.Orders.{HasSlot}
use Rattle.plain_book.specs.Book.{Book, AllDiffer, live_orders}
use Rattle.plain_book.specs.Numbers.{numbered}
use Rattle.plain_book.proofs.Levels.{and-left, and-right}
use Rattle.plain_book.proofs.Pairs.{all-with}
use Rattle.order_kinds.specs.State.{State, state_numbered}
use Rattle.order_kinds.specs.Amendments.{untopped, amended_state}
use Rattle.order_kinds.specs.Cores.{IsListedOrder, FitsProduct, AreNumbered}
use Rattle.order_kinds.specs.Inner.Amending.{tops_ended_by}

-- ---- what both products have

-- what a product that may follow another one has in common with it
pub record Follows (old new : ProductLists) : Type 0 where
  pub firms : length old.names.firms ≤ length new.names.firms
  pub orders : old.max_orders ≡ new.max_orders
  pub instruments : length old.names.instruments ≡ length new.names.instruments
  pub ticks : are_same has_same_tick old.rules new.rules ≡ true

no_fault : (f : Option AmendFault) → ◌≡◌ {A = Result (Unit {0}) AmendFault} (unless_fault f (tt {0})) (Ok tt) → f ≡ None
no_fault None h = refl
no_fault (Some f) h = cc

passes : (b : Bool) (f : AmendFault) (rest : Option AmendFault) → option_or (fault_if (not b) f) rest ≡ None → (b ≡ true) × (rest ≡ None)
passes true f rest h = (refl, h)
passes false f rest h = cc

front-shorter : {A : Type 0} (same : A → A → Bool) (xs ys : List A) → begins_with same xs ys ≡ true → length xs ≤ length ys
front-shorter same [] ys h = omega arith
front-shorter same (x ∷ xs) [] h = cc
front-shorter same (x ∷ xs) (y ∷ ys) h = omega (arith, front-shorter same xs ys (and-right (same x y) (begins_with same xs ys) h))

same-length : {A : Type 0} (same : A → A → Bool) (xs ys : List A) → are_same same xs ys ≡ true → length xs ≡ length ys
same-length same [] [] h = refl
same-length same [] (y ∷ ys) h = cc
same-length same (x ∷ xs) [] h = cc
same-length same (x ∷ xs) (y ∷ ys) h = ap suc (same-length same xs ys (and-right (same x y) (are_same same xs ys) h))

not_less : (b : Bool) (f : AmendFault) (rest : Option AmendFault) → option_or (fault_if b f) rest ≡ None → rest ≡ None
not_less true f rest h = cc
not_less false f rest h = h

pub follows : (old new : ProductLists) → may_follow old new ≡ Ok tt → Follows old new
follows old new h =
    let exchange = passes _ _ _ (no_fault (amend_fault old new) h) in
    let firms = passes _ _ _ exchange.1 in
    let orders = passes _ _ _ firms.1 in
    let instruments = passes _ _ _ (not_less _ _ _ orders.1) in
    record {
      firms = front-shorter bytes_eq old.names.firms new.names.firms firms.0;
      orders = (Decides-eqb old.max_orders new.max_orders).0 orders.0;
      instruments = same-length is_same_listed old.names.instruments new.names.instruments (and-left _ (are_same has_same_tick old.rules new.rules) instruments.0);
      ticks = and-right (are_same is_same_listed old.names.instruments new.names.instruments) _ instruments.0;
    }

-- a core that fits a product fits one that may follow it
pub fits-follows : (old new : ProductLists) (state : State) → FitsProduct old state → may_follow old new ≡ Ok tt → FitsProduct new state
fits-follows old new state fits h =
    let f = follows old new h in
    record {
      capacity = fits.capacity ∙ f.orders;
      instruments = fits.instruments ∙ f.instruments;
      prices = fits.prices ∙ f.instruments;
      orders = all-with (λ (e : Entry). IsListedOrder old e.order) (λ (e : Entry). IsListedOrder new e.order)
          (λ e k. record { instrument = omega (arith, k.instrument, f.instruments); firm = omega (arith, k.firm, f.firms); price = k.price; trigger = k.trigger })
          (live_orders state.book) fits.orders;
    }

-- ---- the orders

module _ (product : ProductLists) where
  -- what holds of each order holds of it without its mark
  untopped-all : (P : Order → Type 0) (es ws : List Entry) → AllByRecursion (λ (e : Entry). P e.order) (es ++ ws) → AllByRecursion (λ (e : Entry). P e.order) (map (untopped product) es ++ ws)
  untopped-all P [] ws h = h
  untopped-all P (e ∷ es) ws h = (h.0, untopped-all P es ws h.1)

  untopped-slot : (s : ℕ) (es ws : List Entry) → HasSlot s (map (untopped product) es ++ ws) → HasSlot s (es ++ ws)
  untopped-slot s [] ws h = h
  untopped-slot s (e ∷ es) ws h = elim h [ inl a ↦ inl a | inr a ↦ inr (untopped-slot s es ws a) ]

  untopped-differ : (es ws : List Entry) → AllDiffer (es ++ ws) → AllDiffer (map (untopped product) es ++ ws)
  untopped-differ [] ws h = h
  untopped-differ (e ∷ es) ws h = ((λ k. h.0 (untopped-slot e.slot es ws k)), untopped-differ es ws h.1)

  untopped-numbered : (es : List Entry) → numbered (map (untopped product) es) ≡ map (untopped product) (numbered es)
  untopped-numbered [] = refl
  untopped-numbered (e ∷ es) = ap (λ (xs : List Entry). untopped product (record e { slot = e.order.number }) ∷ xs) (untopped-numbered es)

  -- ---- the state

  -- it is amended by number as by slot
  pub amended-numbered : (state : State) → state_numbered (amended_state product state) ≡ amended_state product (state_numbered state)
  amended-numbered state =
      ap (λ (es : List Entry). record state { book = record state.book { resting = es; waiting = numbered state.book.waiting } }) (untopped-numbered state.book.resting)

  pub amended-fits : (other : ProductLists) (state : State) → FitsProduct other state → FitsProduct other (amended_state product state)
  amended-fits other state fits = record {
    capacity = fits.capacity;
    instruments = fits.instruments;
    prices = fits.prices;
    orders = untopped-all (IsListedOrder other) state.book.resting state.book.waiting fits.orders;
  }

  pub amended-given : (state : State) → AreNumbered state → AreNumbered (amended_state product state)
  amended-given state are = record {
    differ = subst (λ (s : State). AllDiffer (live_orders s.book)) (sym (amended-numbered state)) (untopped-differ (numbered state.book.resting) (numbered state.book.waiting) are.differ);
    given = untopped-all (λ (o : Order). o.number ≤ state.desk.orders) state.book.resting state.book.waiting are.given;
  }

  -- ---- a core whose book has lost its TOP orders

  module _ (old now : State) (book : Book) (same : now ≡ old) (ended : book ≡ tops_ended_by product now.book) where
    amended-as : ◌≡◌ {A = State} (record now { book = book }) (amended_state product old)
    amended-as = ap (λ (b : Book). record now { book = b }) ended ∙ ap (amended_state product) same

    pub core-fits : FitsProduct product old → FitsProduct product (record now { book = book })
    core-fits fits = subst (FitsProduct product) (sym amended-as) (amended-fits product old fits)

    pub core-numbered : AreNumbered old → AreNumbered (record now { book = book })
    core-numbered are = subst AreNumbered (sym amended-as) (amended-given old are)
