-- What is asked of a book, and the rules that refuse an order, are the same where each order is named by its number.
use Rattle.std.proofs.Common.{◌≡◌, ℕ, Bool, cond, ◌||◌, List, [], ◌∷◌, filter, length, suc, Option, Some, None, option_map, fold, Result, Ok, refl, sym, ap, subst, ◌∙◌, inl}
use Rattle.std.specs.Prelude.{◌==◌, not, nat_le, nat_lt, ℤ, sum_by, ◌+◌, ok_or}
use Rattle.gx_base.specs.declared.event.NewFault.{NewFault}
use Rattle.gx_base.specs.declared.event.NewFault.TheVariants as fault
use Rattle.gx_base.specs.declared.event.ChangeFault.{ChangeFault}
use Rattle.gx_base.specs.declared.event.ChangeFault.TheVariants as change
use Rattle.gx_base.specs.declared.order.Order.{Order}
use Rattle.gx_base.specs.declared.order.Side.{Side}
use Rattle.gx_base.specs.declared.order.Kind.{Kind}
use Rattle.gx_base.specs.declared.order.Kind.TheVariants.{Limit, Market, StopLimit}
use Rattle.gx_base.specs.declared.price.Price.{Price}
use Rattle.plain_book.specs.declared.entry.Entry.{Entry}
use Rattle.plain_book.specs.Orders.{HasSlot, order_of, slot_of, slot_named, is_named, is_live, is_within, side_of, open_within, opposite}
use Rattle.plain_book.specs.Book.{Book, AllDiffer, live_orders}
use Rattle.plain_book.specs.Numbers.{numbered, book_numbered}
use Rattle.plain_book.proofs.Levels.{same, order_of-filter, HasSlot-filter}
use Rattle.plain_book.proofs.Live.{first-has}
use Rattle.level_sweep.proofs.Numbered.{filter-order, side-numbered, best-numbered}
use Rattle.level_sweep.proofs.Renamed.{live-numbered}
use Rattle.product_file.specs.Products.{ProductLists}
use Rattle.fix_request.specs.declared.request.NewOrder.{NewOrder}
use Rattle.fix_request.specs.declared.request.ReplaceOrder.{ReplaceOrder}
use Rattle.order_kinds.specs.Instruments.{ListedInstrument, instrument_of, protected_limit}
use Rattle.order_kinds.specs.State.{State, state_numbered}
use Rattle.order_kinds.specs.OrderRules.{refused_where, is_quantity, has_off_tick, has_bad_stop, is_stop_reached, last_of, ◌>>=◌}
use Rattle.order_kinds.specs.NewOrders.{Terms, terms_of, limit_of, has_bad_min}
use Rattle.order_kinds.specs.Replaces.{is_same_order, replace_terms}

any-numbered : (firm : ℕ) (id : List ℕ) (es : List Entry) → is_live firm id (numbered es) ≡ is_live firm id es
any-numbered firm id [] = refl
any-numbered firm id (e ∷ es) = ap (λ (b : Bool). is_named firm id e || b) (any-numbered firm id es)

pub length-numbered : (es : List Entry) → length (numbered es) ≡ length es
length-numbered [] = refl
length-numbered (e ∷ es) = ap suc (length-numbered es)

live-same : (firm : ℕ) (id : List ℕ) (b : Book) → is_live firm id (live_orders (book_numbered b)) ≡ is_live firm id (live_orders b)
live-same firm id b = ap (is_live firm id) (live-numbered b) ∙ any-numbered firm id (live_orders b)

length-same : (b : Book) → length (live_orders (book_numbered b)) ≡ length (live_orders b)
length-same b = ap (λ (es : List Entry). length es) (live-numbered b) ∙ length-numbered (live_orders b)

-- ---- what is open

leaves-from : (n : ℕ) (es : List Entry) → fold (λ (a : ℕ) (e : Entry). a + e.order.leaves) n (numbered es) ≡ fold (λ (a : ℕ) (e : Entry). a + e.order.leaves) n es
leaves-from n [] = refl
leaves-from n (e ∷ es) = leaves-from (n + e.order.leaves) es

-- as much is open within a limit
pub open-same : (i : ℕ) (d : Side) (limit : ℤ) (es : List Entry) → open_within i d limit (numbered es) ≡ open_within i d limit es
open-same i d limit es =
    let p : Entry → Bool = λ e. is_within d limit e.order.price.0 in
    ap (λ (l : List Entry). sum_by (λ (e : Entry). e.order.leaves) (filter p l)) (side-numbered i d es)
    ∙ ap (λ (l : List Entry). sum_by (λ (e : Entry). e.order.leaves) l) (filter-order p (λ e. refl) (side_of i d es))
    ∙ leaves-from 0 (filter p (side_of i d es))

-- ---- the terms of a new order

limit-same : (kind : Kind) (instrument : ListedInstrument) (new : NewOrder) (b : Book) → limit_of kind instrument new (book_numbered b) ≡ limit_of kind instrument new b
limit-same Market instrument new b = ap (λ (best : Option Price). option_map (protected_limit instrument.rule new.side) best) (best-numbered instrument.number (opposite new.side) b.resting)
limit-same Limit instrument new b = refl
limit-same StopLimit instrument new b = refl

-- the terms of a new order for this instrument, by what is asked of the book
abbrev terms_by : ProductLists → NewOrder → List (Option Price) → ListedInstrument → Bool → ℕ → Option Price → Result Terms NewFault
terms_by product new last instrument live long found = do
  _ ← refused_where live fault.Duplicate
  _ ← refused_where (not (is_quantity new.quantity)) fault.Quantity
  _ ← refused_where (has_off_tick instrument new.price new.trigger) fault.Tick
  _ ← refused_where (has_bad_stop new.kind new.side new.price new.trigger) fault.StopLimit
  _ ← refused_where (is_stop_reached new.kind new.side new.trigger (last_of instrument.number last)) fault.StopReached
  _ ← refused_where (has_bad_min new) fault.MinQty
  _ ← refused_where (nat_lt new.quantity new.show) fault.Show
  _ ← refused_where (long == product.max_orders) fault.BookFull
  limit ← ok_or found fault.NoMarket
  Ok (record { instrument = instrument; limit = limit })

abbrev terms_in : ProductLists → NewOrder → List (Option Price) → Book → ListedInstrument → Result Terms NewFault
terms_in product new last b i = terms_by product new last i (is_live new.sender.firm new.id (live_orders b)) (length (live_orders b)) (limit_of new.kind i new b)

terms-for : (product : ProductLists) (new : NewOrder) (state : State) (found : Option ListedInstrument)
    → (ok_or found fault.Symbol >>= terms_in product new state.last (book_numbered state.book)) ≡ (ok_or found fault.Symbol >>= terms_in product new state.last state.book)
terms-for product new state None = refl
terms-for product new state (Some i) =
    let b = state.book in
    let live = is_live new.sender.firm new.id (live_orders b) in
    let by = terms_by product new state.last i in
    ap (λ (x : Bool). by x (length (live_orders (book_numbered b))) (limit_of new.kind i new (book_numbered b))) (live-same new.sender.firm new.id b)
    ∙ ap (λ (n : ℕ). by live n (limit_of new.kind i new (book_numbered b))) (length-same b)
    ∙ ap (by live (length (live_orders b))) (limit-same new.kind i new b)

-- a new order has the same terms, or is refused alike
pub terms-same : (product : ProductLists) (new : NewOrder) (state : State) → terms_of product new (state_numbered state) ≡ terms_of product new state
terms-same product new state = terms-for product new state (instrument_of product new.named)

-- ---- the terms of a replace

-- the instrument of a replace, by whether its id is live
abbrev replace_terms_by : ProductLists → ReplaceOrder → Order → List (Option Price) → Bool → Result ListedInstrument ChangeFault
replace_terms_by product request o last live = do
  instrument ← ok_or (instrument_of product request.named) change.Mismatch
  _ ← refused_where (not (is_same_order instrument request o)) change.Mismatch
  _ ← refused_where live change.Duplicate
  _ ← refused_where (not (is_quantity request.quantity)) change.Quantity
  _ ← refused_where (nat_le request.quantity o.filled) change.Filled
  _ ← refused_where (has_off_tick instrument request.price request.trigger) change.Tick
  _ ← refused_where (has_bad_stop request.kind request.side request.price request.trigger) change.StopLimit
  _ ← refused_where (is_stop_reached request.kind request.side request.trigger (last_of instrument.number last)) change.StopReached
  _ ← refused_where (nat_lt request.quantity o.show) change.Show
  Ok instrument

-- a replace of this order is refused alike
pub replace-terms-same : (product : ProductLists) (request : ReplaceOrder) (o : Order) (state : State) → replace_terms product request o (state_numbered state) ≡ replace_terms product request o state
replace-terms-same product request o state = ap (replace_terms_by product request o state.last) (live-same request.sender.firm request.id state.book)

-- ---- an order by its firm and id

first-number : (p : Entry → Bool) (es xs : List Entry) → AllDiffer es → filter p es ≡ xs → slot_of (numbered xs) ≡ option_map (λ s. (order_of s es).number) (slot_of xs)
first-number p es [] d is = refl
first-number p es (x ∷ xs) d is =
    let has : HasSlot x.slot (filter p es) = subst (HasSlot x.slot) (sym is) (inl refl) in
    let head : order_of x.slot (x ∷ xs) ≡ x.order = ap (λ (b : Bool). cond b x.order (order_of x.slot xs)) (same x.slot) in
    let order : order_of x.slot es ≡ x.order = sym (order_of-filter p x.slot es d has) ∙ ap (order_of x.slot) is ∙ head in
    ap (λ o. Some o.number) (sym order)

-- its number, in place of its slot
pub named-numbered : (firm : ℕ) (id : List ℕ) (b : Book) → AllDiffer (live_orders b)
    → slot_named firm id (live_orders (book_numbered b)) ≡ option_map (λ s. (order_of s (live_orders b)).number) (slot_named firm id (live_orders b))
named-numbered firm id b d =
    ap (slot_named firm id) (live-numbered b)
    ∙ ap slot_of (filter-order (is_named firm id) (λ e. refl) (live_orders b))
    ∙ first-number (is_named firm id) (live_orders b) (filter (is_named firm id) (live_orders b)) d refl

-- an order that is named is live
pub named-has : (firm : ℕ) (id : List ℕ) (s : ℕ) (es : List Entry) → slot_named firm id es ≡ Some s → HasSlot s es
named-has firm id s es h = HasSlot-filter (is_named firm id) s es (first-has s (filter (is_named firm id) es) h)
