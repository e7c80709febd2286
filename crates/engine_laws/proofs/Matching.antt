-- What holds while an order is matched: as long as no event tells of a level, the level stays.
use Rattle.std.proofs.Common.{◌≡◌, ℕ, ◌+◌, ◌≤◌, Bool, true, false, ◌||◌, List, [], ◌∷◌, ◌++◌, refl, sym, ◌∙◌, arith}
use Rattle.std.proofs.lemmas.List.Folds.{list_any-append}
use Rattle.std.specs.List.{AllByRecursion}
use Rattle.gx_base.specs.declared.price.Price.{Price}
use Rattle.gx_base.specs.declared.order.Order.{Order}
use Rattle.gx_base.specs.declared.event.StepName.{StepName}
use Rattle.gx_base.specs.declared.event.Head.{Head}
use Rattle.gx_base.specs.declared.event.Event.{Event}
use Rattle.step_config.specs.declared.step.Step.{Step}
use Rattle.plain_book.specs.declared.entry.Entry.{Entry}
use Rattle.plain_book.specs.Orders.{Level, order_of, with_order, traded, filled_by}
use Rattle.plain_book.specs.Book.{Book, live_orders, AllDiffer, book_traded}
use Rattle.plain_book.specs.Match.{MatchState, next_head, report, taken_by, lengthened, fill, trade, book_share_noted}
use Rattle.plain_book.proofs.Levels.{AllDiffer-front}
use Rattle.level_sweep.specs.Sweep.{sweep}
use Rattle.level_sweep.proofs.EachTrade.{Relation, IsKept, each-sweep}
use Rattle.engine_laws.specs.LevelsTold.{tells_of, is_told}
use Rattle.engine_laws.proofs.Singles.{once_of, times, times-append, AreSingle, single-differ, times-traded, times-marked}
use Rattle.engine_laws.proofs.LevelSums.{IsElsewhere, WeighsLevel, weights, weights-traded, weights-marked}

-- ---- what is told

pub or-first : (a b : Bool) → (a || b) ≡ false → a ≡ false
or-first true b h = absurd (let e : true ≡ false = h in cc)
or-first false b h = refl

pub or-second : (a b : Bool) → (a || b) ≡ false → b ≡ false
or-second true b h = absurd (let e : true ≡ false = h in cc)
or-second false b h = h

joined-told : (k : Level) (events : List Event) (x : Event) → (is_told k events || is_told k (x ∷ [])) ≡ is_told k (events ++ x ∷ [])
joined-told k events x = sym (list_any-append (tells_of k) events (x ∷ []))

-- what is not told with one more event was not told before it
pub told-before : (k : Level) (events : List Event) (x : Event) → is_told k (events ++ x ∷ []) ≡ false → is_told k events ≡ false
told-before k events x h = or-first (is_told k events) (is_told k (x ∷ [])) (joined-told k events x ∙ h)

-- and this event does not tell of it
pub told-last : (k : Level) (events : List Event) (x : Event) → is_told k (events ++ x ∷ []) ≡ false → tells_of k x ≡ false
told-last k events x h = or-first (tells_of k x) false (or-second (is_told k events) (is_told k (x ∷ [])) (joined-told k events x ∙ h))

-- the same of a report
module _ (k : Level) (event : Head → Order → Event) (o : Order) (m : MatchState) (none : is_told k (report event o m).events ≡ false) where
  abbrev reported : Event
  reported = event (next_head m.desk o.firm m.taker.time) o

  pub report-before : is_told k m.events ≡ false
  report-before = told-before k m.events reported none

  pub report-last : tells_of k (event (next_head m.desk o.firm m.taker.time) o) ≡ false
  report-last = told-last k m.events reported none

-- ---- numbers

-- an order that is named by its number
abbrev pub IsByNumber : Entry → Type 0
IsByNumber e = e.slot ≡ e.order.number

-- no number stands twice among the live orders and the incoming one
abbrev pub AreSingleWith : ℕ → Book → Type 0
AreSingleWith number b = (s : ℕ) → times s (live_orders b) + once_of number s ≤ 1

pub with-single : (number : ℕ) (b : Book) → AreSingleWith number b → AreSingle (live_orders b)
with-single number b h s = omega (arith, h s)

-- resting orders that have no slot more often than before, beside the same waiting ones
pub single-resting : (number : ℕ) (b : Book) (es : List Entry) → ((s : ℕ) → times s es ≤ times s b.resting) → AreSingleWith number b → AreSingleWith number (record b { resting = es })
single-resting number b es fewer h s = omega (arith, h s, times-append s b.resting b.waiting, times-append s es b.waiting, fewer s)

-- ---- a match

module _ (k : Level) (weight : Order → ℕ) (start : ℕ) where
  -- the level is as it was at the start, and the incoming order is of another one
  pub record IsUntold (m : MatchState) : Type 0 where
    pub own : IsElsewhere k m.taker.order
    pub same : weights weight m.book.resting ≡ start

  -- while an order is matched
  pub record IsMatching (m : MatchState) : Type 0 where
    pub single : AreSingleWith m.taker.order.number m.book
    pub waits : AllByRecursion IsByNumber m.book.waiting
    pub untold : is_told k m.events ≡ false → IsUntold m

  -- when no order comes in
  pub record IsAtRest (m : MatchState) : Type 0 where
    pub single : AreSingle (live_orders m.book)
    pub waits : AllByRecursion IsByNumber m.book.waiting
    pub same : is_told k m.events ≡ false → weights weight m.book.resting ≡ start

  -- the incoming order is no more
  pub matching-ends : (m : MatchState) → IsMatching m → IsAtRest m
  matching-ends m h = record { single = with-single m.taker.order.number m.book h.single; waits = h.waits; same = λ none. (h.untold none).same }

  module _ (of : WeighsLevel k weight) where
    resting-differ : (m : MatchState) → IsMatching m → AllDiffer m.book.resting
    resting-differ m h = AllDiffer-front m.book.resting m.book.waiting (single-differ (live_orders m.book) (with-single m.taker.order.number m.book h.single))

    -- each trade is told with the order that gives
    trade-kept : (step : StepName) (s n : ℕ) (m : MatchState) → IsMatching m → IsMatching (trade step s n m)
    trade-kept step s n m h =
        let es = m.book.resting in
        let resting = order_of s es in
        let number = m.desk.trades + 1 in
        let taken = taken_by n m.taker.order in
        let event = fill n resting.price step number in
        let traded_now : MatchState = record m {
          book = book_traded s n m.book;
          desk = record m.desk { trades = number };
          taker = record m.taker { order = taken; range = lengthened resting.price m.taker.range };
        } in
        let given = report event (filled_by n resting) traded_now in
        record {
          single = single-resting m.taker.order.number m.book (traded s n es) (λ t. times-traded t s n es) h.single;
          waits = h.waits;
          untold = λ none.
              let first = report-before k event taken given none in
              let was = h.untold (report-before k event (filled_by n resting) traded_now first) in
              let away = report-last k event (filled_by n resting) traded_now first in
              record { own = was.own; same = weights-traded k weight of s n es (resting-differ m h) away ∙ was.same };
        }

    -- a noted share is not told, and changes no level
    mark-kept : (s n : ℕ) (m : MatchState) → IsMatching m → IsMatching (record m { book = book_share_noted s n m.book })
    mark-kept s n m h =
        let es = m.book.resting in
        record {
          single = single-resting m.taker.order.number m.book (with_order s (record (order_of s es) { prorated = n }) es) (λ t. omega (arith, times-marked t s n es)) h.single;
          waits = h.waits;
          untold = λ none. let was = h.untold none in record { own = was.own; same = weights-marked k weight of s n es (resting-differ m h) ∙ was.same };
        }

    abbrev StaysMatching : Relation
    StaysMatching a b = IsMatching a → IsMatching b

    kept : IsKept StaysMatching
    kept = record {
      same = λ m h. h;
      both = λ a b c f g h. g (f h);
      trades = λ step s n m h. trade-kept step s n m h;
      marks = λ s n m h. mark-kept s n m h;
    }

    -- a whole sweep
    pub sweep-kept : (steps : List Step) (limit : Price) (m : MatchState) → IsMatching m → IsMatching (sweep steps limit m)
    sweep-kept steps limit m h = each-sweep StaysMatching kept steps limit m h
