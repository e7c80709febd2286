-- The content of a book, what its calls make of it, and what is true of it at every moment.
use Rattle.std.specs.Prelude.{◌≡◌, ℕ, ◌+◌, ◌-◌, ◌^◌, ◌<◌, ◌≤◌, min, Bool, true, false, ◌&&◌, ◌==◌, nat_le, if◌then◌else◌, List, [], ◌∷◌, ◌++◌, length, Option, Some, None, ◌⊎◌, pos}
use Rattle.std.specs.List.{AllByRecursion}
use Rattle.gx_base.specs.declared.limits.TheConstants.{MOST_FIRMS, MOST_LOTS}
use Rattle.gx_base.specs.declared.order.Side.{Side}
use Rattle.gx_base.specs.declared.order.Kind.TheVariants.{Limit, StopLimit}
use Rattle.gx_base.specs.declared.order.Life.TheVariants.{Day, Gtc}
use Rattle.gx_base.specs.declared.order.Order.{Order}
use Rattle.gx_base.specs.declared.order.Slot.{Slot}
use Rattle.plain_book.specs.declared.entry.Entry.{Entry}
use Rattle.plain_book.specs.Orders.{HasSlot, order_of, side_of, best_of, is_named, is_at_earlier_level, is_of_earlier_instrument, is_on, placed, lined_up, traded, with_order, without, is_new_best, with_top}

-- what a book has
pub record Book : Type 0 where
  -- the greatest number of live orders
  pub capacity : ℕ
  pub instruments : ℕ
  -- all resting orders in book order: by instrument, then buy before sell, then better price first, then by priority
  pub resting : List Entry
  -- the waiting stops, by instrument, then by priority
  pub waiting : List Entry

-- an order is live while it rests or waits
abbrev pub live_orders : Book → List Entry
live_orders b = b.resting ++ b.waiting

abbrev pub empty_book : ℕ → ℕ → Book
empty_book capacity instruments = record { capacity = capacity; instruments = instruments; resting = []; waiting = [] }

abbrev pub slot_number : Slot → ℕ
slot_number s = s.0

-- ---- what the calls make of it

-- how much of what is open is shown first
abbrev pub first_shown : Order → ℕ
first_shown o = if o.show == 0 then o.leaves else min o.show o.leaves

-- TOP takes so many open lots; where none is named, no order becomes TOP
abbrev pub makes_top : Option ℕ → ℕ → Bool
makes_top None leaves = false
makes_top (Some least) leaves = nat_le least leaves

-- The order comes to rest. Where it is better than every order of its side, it ends the old TOP, and is TOP itself if
-- enough of it is open.
abbrev pub resting_placed : ℕ → Order → Option ℕ → List Entry → List Entry
resting_placed slot o top_min es =
    let best = is_new_best o es in
    placed (record { slot = slot; order = record o { shown = first_shown o }; is_top = best && makes_top top_min o.leaves })
    (if best then with_top o.instrument o.side None es else es)

abbrev pub book_placed : ℕ → Order → Option ℕ → Book → Book
book_placed slot o top_min b = record b { resting = resting_placed slot o top_min b.resting }

-- an order rests as a limit order, a market order at its protected limit, and has no minimum any more
abbrev pub as_limit : Order → Order
as_limit o = record o { kind = Limit; min = 0 }

-- the stop waits, and nothing of it is shown
abbrev pub book_waited : ℕ → Order → Book → Book
book_waited slot o b = record b { waiting = lined_up (record { slot = slot; order = record o { shown = 0 }; is_top = false }) b.waiting }

-- some lots of a resting order are traded
abbrev pub book_traded : ℕ → ℕ → Book → Book
book_traded slot lots b = record b { resting = traded slot lots b.resting }

-- a resting order is now o, in its place
abbrev pub book_with_order : ℕ → Order → Book → Book
book_with_order slot o b = record b { resting = with_order slot o b.resting }

-- a live order leaves
abbrev pub book_without : ℕ → Book → Book
book_without slot b = record b { resting = without slot b.resting; waiting = without slot b.waiting }

-- an order of which no more is wanted than before, under another id: what is shown of it is at most what is open
abbrev pub changed_to : List ℕ → ℕ → ℕ → Order → Order
changed_to id quantity least o =
    let leaves = quantity - o.filled in record o { id = id; quantity = quantity; leaves = leaves; shown = min o.shown leaves; min = least }

-- a live order is changed, and keeps its place and its mark
abbrev pub book_changed : ℕ → List ℕ → ℕ → ℕ → Book → Book
book_changed slot id quantity least b =
    let o = changed_to id quantity least (order_of slot (live_orders b)) in
    record b { resting = with_order slot o b.resting; waiting = with_order slot o b.waiting }

abbrev pub book_with_top : ℕ → Side → Option ℕ → Book → Book
book_with_top instrument side top b = record b { resting = with_top instrument side top b.resting }

-- no order, and so no TOP
abbrev pub book_cleared : Book → Book
book_cleared b = empty_book b.capacity b.instruments

-- ---- orders that are fit for it

-- an order that can come to rest
pub record IsFitToRest (instruments : ℕ) (o : Order) : Type 0 where
  pub listed : o.instrument < instruments
  pub firm : o.firm < MOST_FIRMS
  pub kind : o.kind ≡ Limit
  pub life : (o.life ≡ Day) ⊎ (o.life ≡ Gtc)
  pub no_trigger : o.trigger ≡ record { 0 = pos 0 }
  pub no_min : o.min ≡ 0
  pub whole : o.filled + o.leaves ≡ o.quantity
  pub some : 1 ≤ o.leaves
  pub show : o.show ≤ o.quantity
  pub small : o.quantity ≤ MOST_LOTS

-- an order that rests: some of what is open is shown, at most what it shows at a time, and all of it where that is 0
pub record IsResting (instruments : ℕ) (o : Order) : Type 0 where
  pub fit : IsFitToRest instruments o
  pub showing : 1 ≤ o.shown
  pub within : o.shown ≤ o.leaves
  pub display : 1 ≤ o.show → o.shown ≤ o.show
  pub unhidden : o.show ≡ 0 → o.shown ≡ o.leaves

-- a stop that can wait
pub record IsFitToWait (instruments : ℕ) (o : Order) : Type 0 where
  pub listed : o.instrument < instruments
  pub firm : o.firm < MOST_FIRMS
  pub kind : o.kind ≡ StopLimit
  pub unfilled : o.filled ≡ 0
  pub no_share : o.prorated ≡ 0
  pub whole : o.leaves ≡ o.quantity
  pub some : 1 ≤ o.quantity
  pub show : o.show ≤ o.quantity
  pub small : o.quantity ≤ MOST_LOTS

-- a stop that waits: nothing of it is shown
pub record IsWaiting (instruments : ℕ) (o : Order) : Type 0 where
  pub fit : IsFitToWait instruments o
  pub hidden : o.shown ≡ 0

-- what may be TOP of a side: none, or an order at the side's best price
abbrev pub CanBeTop : ℕ → Side → Option ℕ → List Entry → Type 0
CanBeTop instrument side None es = Unit {0}
CanBeTop instrument side (Some slot) es =
    HasSlot slot (side_of instrument side es) × (best_of instrument side es ≡ Some (order_of slot es).price)

-- ---- what is true of every book at every moment

abbrev pub AllRest : ℕ → List Entry → Type 0
AllRest instruments es = AllByRecursion (λ (e : Entry). IsResting instruments e.order) es

abbrev pub AllWait : ℕ → List Entry → Type 0
AllWait instruments es = AllByRecursion (λ (e : Entry). IsWaiting instruments e.order) es

-- no slot stands twice
abbrev pub AllDiffer : List Entry → Type 0
AllDiffer [] = Unit {0}
AllDiffer (e ∷ es) = (HasSlot e.slot es → ⊥) × AllDiffer es

-- each order stands so to each one after it
abbrev pub EachPair : (Entry → Entry → Type 0) → List Entry → Type 0
EachPair R [] = Unit {0}
EachPair R (e ∷ es) = AllByRecursion (R e) es × EachPair R es

-- no firm and id stand twice
abbrev pub AreNamedApart : Entry → Entry → Type 0
AreNamedApart a b = is_named a.order.firm a.order.id b ≡ false

-- a stands before b, and nothing says that it should stand after it
abbrev pub AreInBookOrder : Entry → Entry → Type 0
AreInBookOrder a b = is_at_earlier_level b a ≡ false

abbrev pub AreInLine : Entry → Entry → Type 0
AreInLine a b = is_of_earlier_instrument b a ≡ false

-- b, which stands after a on the same side, is TOP only where a has the same price and is not TOP. So TOP is at the best
-- price of its side, and the only one there.
abbrev pub MayPrecedeTop : Entry → Entry → Type 0
MayPrecedeTop a b = b.is_top ≡ true → is_on b.order.instrument b.order.side a ≡ true → (a.is_top ≡ false) × (a.order.price ≡ b.order.price)

pub record IsRight (b : Book) : Type 0 where
  pub rest : AllRest b.instruments b.resting
  pub wait : AllWait b.instruments b.waiting
  pub differ : AllDiffer (live_orders b)
  pub named : EachPair AreNamedApart (live_orders b)
  pub ordered : EachPair AreInBookOrder b.resting
  pub lined : EachPair AreInLine b.waiting
  pub tops : EachPair MayPrecedeTop b.resting
  pub few : length (live_orders b) ≤ b.capacity
  pub small : b.capacity < 2 ^ 32
