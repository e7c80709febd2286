-- The orders that the readers of a book find: where they stand, and what may be called with them.
use Rattle.std.proofs.Common.{◌≡◌, ℕ, ◌<◌, ◌≤◌, Bool, true, false, cond, not, ◌&&◌, List, [], ◌∷◌, filter, Option, Some, None, IfSome, refl, sym, ap, ◌∙◌, arith, inl, inr}
use Rattle.std.specs.Prelude.{◌==◌, option_map, is_some}
use Rattle.std.specs.List.{AllByRecursion}
use Rattle.gx_base.specs.declared.price.Price.{Price}
use Rattle.gx_base.specs.declared.order.Side.{Side}
use Rattle.gx_base.specs.declared.order.Kind.TheVariants.{Limit}
use Rattle.gx_base.specs.declared.order.Order.{Order}
use Rattle.gx_base.specs.declared.order.Slot.{Slot}
use Rattle.plain_book.specs.declared.entry.Entry.{Entry}
use Rattle.plain_book.specs.Orders.{Level, level, level_of, is_level, is_side, is_at, is_on, is_named, is_of, orders_at, stops_of, side_of, best_of, HasSlot, order_of, slot_of, slot_after, slot_named, is_live, top_of, is_new_best, with_top, placed, lined_up, is_at_earlier_level, is_of_earlier_instrument}
use Rattle.plain_book.specs.Waiting.{is_reached_by, reached_stops}
use Rattle.plain_book.specs.Book.{Book, IsRight, IsResting, IsWaiting, CanBeTop, AllDiffer, live_orders, slot_number, first_shown, makes_top, book_placed, book_waited}
use Rattle.plain_book.proofs.Pairs.{all-append, all-with}
use Rattle.plain_book.proofs.Live.{first-has, after-has, orders-at, fit_of, unnamed-none}
use Rattle.plain_book.proofs.Levels.{HasSlot-filter, HasSlot-left, HasSlot-right, HasSlot-middle, order_of-filter, order_of-left, same, is_side-refl, is_level-same}

-- ---- where they stand

-- the order that a reader finds, if it finds one, stands in a list
abbrev pub StandsIn : List Entry → Option Slot → Type 0
StandsIn es at = IfSome at (λ (slot : Slot). HasSlot slot.0 es)

pub stands-with : (es fs : List Entry) → ((s : ℕ) → HasSlot s es → HasSlot s fs) → (at : Option Slot) → StandsIn es at → StandsIn fs at
stands-with es fs f None h = tt
stands-with es fs f (Some slot) h = f slot.0 h

pub stands-first : (es : List Entry) (at : Option Slot) → option_map slot_number at ≡ slot_of es → StandsIn es at
stands-first es None h = tt
stands-first es (Some slot) h = first-has slot.0 es (sym h)

pub stands-after : (s : ℕ) (es : List Entry) (at : Option Slot) → option_map slot_number at ≡ slot_after s es → StandsIn es at
stands-after s es None h = tt
stands-after s es (Some slot) h = after-has s slot.0 es (sym h)

-- it stands in the whole of which it stands in a part
pub stands-part : (p : Entry → Bool) (es : List Entry) (at : Option Slot) → StandsIn (filter p es) at → StandsIn es at
stands-part p es at h = stands-with (filter p es) es (λ s. HasSlot-filter p s es) at h

pub stands-resting : (b : Book) (at : Option Slot) → StandsIn b.resting at → StandsIn (live_orders b) at
stands-resting b at h = stands-with b.resting (live_orders b) (λ s. HasSlot-left s b.resting b.waiting) at h

pub stands-waiting : (b : Book) (at : Option Slot) → StandsIn b.waiting at → StandsIn (live_orders b) at
stands-waiting b at h = stands-with b.waiting (live_orders b) (λ s. HasSlot-right s b.resting b.waiting) at h

pub stands-named : (firm : ℕ) (id : List ℕ) (es : List Entry) (at : Option Slot) → option_map slot_number at ≡ slot_named firm id es → StandsIn es at
stands-named firm id es at h = stands-part (is_named firm id) es at (stands-first (filter (is_named firm id) es) at h)

pub stands-top : (i : ℕ) (d : Side) (es : List Entry) (at : Option Slot) → option_map slot_number at ≡ top_of i d es → StandsIn es at
stands-top i d es at h =
    let side = side_of i d es in
    stands-part (is_on i d) es at (stands-part (λ (e : Entry). e.is_top) side at (stands-first (filter (λ (e : Entry). e.is_top) side) at h))

pub stands-reached : (i : ℕ) (range : Price × Price) (es : List Entry) (at : Option Slot) → option_map slot_number at ≡ slot_of (reached_stops i range es) → StandsIn es at
stands-reached i range es at h =
    let stops = stops_of i es in
    stands-part (is_of i) es at (stands-part (is_reached_by range) stops at (stands-first (reached_stops i range es) at h))

-- ---- the orders of a level

held-passes : (p : Entry → Bool) (es : List Entry) → AllByRecursion (λ (e : Entry). p e ≡ true) (filter p es)
held-passes p [] = tt
held-passes p (e ∷ es) =
    let go : (c : Bool) → p e ≡ c → AllByRecursion (λ (x : Entry). p x ≡ true) (cond c (e ∷ filter p es) (filter p es)) = elim [
      | true ↦ λ is. (is, held-passes p es)
      | false ↦ λ is. held-passes p es
    ] in go (p e) refl

-- an order of a level has the level
pub held-level : (k : Level) (s : ℕ) (es : List Entry) → AllDiffer es → HasSlot s (orders_at k es) → level_of (order_of s es) ≡ k
held-level k s es d has =
    let o = order_of s (orders_at k es) in
    let at : is_level (level_of o) k ≡ true = orders-at (λ (x : Order). is_level (level_of x) k ≡ true) s (orders_at k es) (held-passes (is_at k) es) has in
    ap level_of (sym (order_of-filter (is_at k) s es d has)) ∙ is_level-same (level_of o) k at

-- it stands in what another test leaves, if that lets each one through that the first does
has-more : (p q : Entry → Bool) → ((e : Entry) → p e ≡ true → q e ≡ true) → (s : ℕ) (es : List Entry) → HasSlot s (filter p es) → HasSlot s (filter q es)
has-more p q f s [] h = h
has-more p q f s (e ∷ es) h =
    let go : (c d : Bool) → p e ≡ c → q e ≡ d → HasSlot s (cond c (e ∷ filter p es) (filter p es)) → HasSlot s (cond d (e ∷ filter q es) (filter q es)) = elim [
      | true ↦ elim [
        | true ↦ λ _ _ k. elim k [ inl a ↦ inl a | inr a ↦ inr (has-more p q f s es a) ]
        | false ↦ λ is not k. absurd (let no : true ≡ false = sym (f e is) ∙ not in cc)
      ]
      | false ↦ elim [
        | true ↦ λ _ _ k. inr (has-more p q f s es k)
        | false ↦ λ _ _ k. has-more p q f s es k
      ]
    ] in go (p e) (q e) refl refl h

-- an order of a level is of the level's side
at-on : (i : ℕ) (d : Side) (p : Price) (e : Entry) → is_at (level i d p) e ≡ true → is_on i d e ≡ true
at-on i d p e h =
    let is : level_of e.order ≡ level i d p = is_level-same (level_of e.order) (level i d p) h in
    ap (λ (k : Level). (k.instrument == i) && is_side k.side d) is ∙ ap (λ (c : Bool). c && is_side d d) (same i) ∙ is_side-refl d

-- an order at the best price may be TOP
pub early-tops : (i : ℕ) (d : Side) (found : Option Price) (p : Price) (es : List Entry) → AllDiffer es → found ≡ best_of i d es → found ≡ Some p
    → (at : Option Slot) → StandsIn (orders_at (level i d p) es) at → CanBeTop i d (option_map slot_number at) es
early-tops i d found p es differ best is None h = tt
early-tops i d found p es differ best is (Some slot) h = (
  has-more (is_at (level i d p)) (is_on i d) (at-on i d p) slot.0 es h,
  sym best ∙ is ∙ ap (λ (k : Level). Some (let price : Price = record { 0 = k.price } in price)) (sym (held-level (level i d p) slot.0 es differ h)),
)

-- ---- what may be called with them

-- a resting order is a limit order
pub rests-limit : (b : Book) (s : ℕ) → IsRight b → HasSlot s b.resting → (order_of s (live_orders b)).kind ≡ Limit
rests-limit b s right has = ap (λ (o : Order). o.kind) (order_of-left s b.resting b.waiting has) ∙ (fit_of b.instruments s b.resting right.rest has).fit.kind

-- an order is not filled, and shows no more than all
abbrev IsOpen : Order → Type 0
IsOpen o = (o.filled < o.quantity) × (o.show ≤ o.quantity)

live-open : (b : Book) (s : ℕ) → IsRight b → HasSlot s (live_orders b) → IsOpen (order_of s (live_orders b))
live-open b s right has =
    let Open = λ (e : Entry). IsOpen e.order in
    let n = b.instruments in
    orders-at IsOpen s (live_orders b)
    (all-append Open b.resting b.waiting
    (all-with (λ (e : Entry). IsResting n e.order) Open (λ e r. (omega (arith, r.fit.whole, r.fit.some), r.fit.show)) b.resting right.rest)
    (all-with (λ (e : Entry). IsWaiting n e.order) Open (λ e w. (omega (arith, w.fit.unfilled, w.fit.some), w.fit.show)) b.waiting right.wait)) has

pub live-unfilled : (b : Book) (s : ℕ) → IsRight b → HasSlot s (live_orders b) → (order_of s (live_orders b)).filled < (order_of s (live_orders b)).quantity
live-unfilled b s right has = (live-open b s right has).0

pub live-shows : (b : Book) (s : ℕ) → IsRight b → HasSlot s (live_orders b) → (order_of s (live_orders b)).show ≤ (order_of s (live_orders b)).quantity
live-shows b s right has = (live-open b s right has).1

-- ---- an order that came is live

pub placed-live : (s : ℕ) (o : Order) (top_min : Option ℕ) (b : Book) → HasSlot s (live_orders (book_placed s o top_min b))
placed-live s o top_min b =
    let best = is_new_best o b.resting in
    let n : Entry = record { slot = s; order = record o { shown = first_shown o }; is_top = best && makes_top top_min o.leaves } in
    let es : List Entry = cond best (with_top o.instrument o.side None b.resting) b.resting in
    HasSlot-left s (placed n es) b.waiting (HasSlot-middle (filter (λ e. not (is_at_earlier_level n e)) es) (filter (is_at_earlier_level n) es) n)

pub waited-live : (s : ℕ) (o : Order) (b : Book) → HasSlot s (live_orders (book_waited s o b))
waited-live s o b =
    let n : Entry = record { slot = s; order = record o { shown = 0 }; is_top = false } in
    HasSlot-right s b.resting (lined_up n b.waiting) (HasSlot-middle (filter (λ e. not (is_of_earlier_instrument n e)) b.waiting) (filter (is_of_earlier_instrument n) b.waiting) n)

-- ---- names

-- where a reader finds no order of a name, none has it
pub none-named : (firm : ℕ) (id : List ℕ) (es : List Entry) (at : Option Slot) (none : Bool) → option_map slot_number at ≡ slot_named firm id es → is_some at ≡ not none → none ≡ true → is_live firm id es ≡ false
none-named firm id es None none found some is = unnamed-none firm id es (sym found)
none-named firm id es (Some slot) none found some is = absurd (let no : true ≡ false = some ∙ ap not is in cc)
