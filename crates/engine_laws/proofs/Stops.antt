-- An order that comes in: it waits, or it is entered, and so is each stop that it triggers. A level stays as long as no event tells
-- of it.
use Rattle.std.proofs.Common.{◌≡◌, ℕ, ◌+◌, false, not, List, [], ◌∷◌, filter, length, Option, Some, None, refl, ap, subst, ◌∙◌, arith, inl, inr}
use Prim.Native.Nat.{zero, suc}
use Rattle.std.specs.Prelude.{◌==◌}
use Rattle.std.specs.List.{AllByRecursion}
use Rattle.gx_base.specs.declared.price.Price.{Price}
use Rattle.gx_base.specs.declared.order.Kind.{Kind}
use Rattle.gx_base.specs.declared.order.Kind.TheVariants.{Limit, Market, StopLimit}
use Rattle.gx_base.specs.declared.order.Order.{Order}
use Rattle.gx_base.specs.declared.event.Event.TheVariants.{Triggered}
use Rattle.step_config.specs.declared.step.Step.{Step}
use Rattle.plain_book.specs.declared.entry.Entry.{Entry}
use Rattle.plain_book.specs.Orders.{Level, HasSlot, is_of, stops_of, without}
use Rattle.plain_book.specs.Book.{Book, live_orders, book_without}
use Rattle.plain_book.specs.Match.{MatchState}
use Rattle.plain_book.proofs.Levels.{slots-apart, without-none}
use Rattle.plain_book.proofs.Pairs.{all-filter, all-with}
use Rattle.plain_book.proofs.Right.{live-without}
use Rattle.order_kinds.specs.Entering.{entered}
use Rattle.order_kinds.specs.Stops.{Naming, fill_range, is_reached_by, first_entry, first_reached, next_stop, as_triggered, stop_triggered, stop_entered, stop_rounds, entered_with_stops, come_in_as, come_in}
use Rattle.engine_laws.specs.LevelsTold.{is_told}
use Rattle.engine_laws.proofs.Singles.{once-same, once-or-same, times, times-fewer, times-gone, AreSingle, single-differ}
use Rattle.engine_laws.proofs.LevelSums.{WeighsLevel, weights}
use Rattle.engine_laws.proofs.Matching.{report-before, report-last, IsByNumber, AreSingleWith, IsMatching, IsAtRest}
use Rattle.engine_laws.proofs.Entering.{entered-kept}

-- ---- an order leaves

-- its number is free then
pub left-single : (slot number : ℕ) (b : Book) → slot ≡ number → AreSingle (live_orders b) → AreSingleWith number (book_without slot b)
left-single slot number b is h s =
    let es = live_orders b in
    let left : times s (live_orders (book_without slot b)) ≡ times s (without slot es) = ap (times s) (live-without slot b) in
    elim (once-or-same number s) [
      | inl same ↦
          let none : times s (without slot es) ≡ 0 = subst (λ (n : ℕ). times n (without slot es) ≡ 0) (is ∙ same) (times-gone slot es) in
          omega (arith, left, none, once-same number s same)
      | inr other ↦ omega (arith, left, other, times-fewer s (λ e. not (e.slot == slot)) es, h s)
    ]

-- ---- the stop that is next

all-have : (es : List Entry) → AllByRecursion (λ (x : Entry). HasSlot x.slot es) es
all-have [] = tt
all-have (e ∷ es) = (inl refl, all-with (λ (x : Entry). HasSlot x.slot es) (λ (x : Entry). HasSlot x.slot (e ∷ es)) (λ x h. inr h) es (all-have es))

module _ (P : Entry → Type 0) (e : Entry) where
  first-is : (es : List Entry) → AllByRecursion P es → first_entry es ≡ Some e → P e
  first-is [] a h = absurd (let n : None ≡ Some e = h in cc)
  first-is (x ∷ es) a h =
      let n : Some x ≡ Some e = h in
      let here : x ≡ e = cc in
      subst P here a.0

  reached-is : (instrument : ℕ) (range : Option (Price × Price)) (es : List Entry) → AllByRecursion P es → first_reached instrument range es ≡ Some e → P e
  reached-is instrument None es a h = absurd (let n : None ≡ Some e = h in cc)
  reached-is instrument (Some range) es a h =
      first-is (filter (is_reached_by range) (stops_of instrument es)) (all-filter P (is_reached_by range) (stops_of instrument es) (all-filter P (is_of instrument) es a)) h

  -- what holds of each waiting stop holds of the next one
  next-is : (m : MatchState) → AllByRecursion P m.book.waiting → next_stop m ≡ Some e → P e
  next-is m a h = reached-is m.taker.order.instrument (fill_range m.events) m.book.waiting a h

-- each order is named by its number
abbrev pub NamesByNumber : Naming → Type 0
NamesByNumber naming = (before number : ℕ) → naming before number ≡ number

module _ (k : Level) (weight : Order → ℕ) (of : WeighsLevel k weight) (start : ℕ) where
  abbrev Rests : MatchState → Type 0
  Rests m = IsAtRest k weight start m

  -- a stop is triggered: it did not rest
  triggered-kept : (e : Entry) (m : MatchState) → IsByNumber e → HasSlot e.slot m.book.waiting → Rests m → IsMatching k weight start (stop_triggered e m)
  triggered-kept e m named has h =
      let b = m.book in
      let o = as_triggered e.order in
      let free : MatchState = record m { book = book_without e.slot b; taker = record { order = o; time = m.taker.time; range = None } } in
      let apart : HasSlot e.slot b.resting → ⊥ = λ rests. slots-apart e.slot b.resting b.waiting (single-differ (live_orders b) h.single) rests has in
      record {
        single = left-single e.slot e.order.number b named h.single;
        waits = all-filter IsByNumber (λ x. not (x.slot == e.slot)) b.waiting h.waits;
        untold = λ none. record {
          own = report-last k Triggered o free none;
          same = ap (weights weight) (without-none e.slot b.resting apart) ∙ h.same (report-before k Triggered o free none);
        };
      }

  module _ (steps : List Step) where
    stop-kept : (name : ℕ → ℕ) (m : MatchState) → ((number : ℕ) → name number ≡ number) → (next : Option Entry) → next_stop m ≡ next → Rests m → Rests (stop_entered next name steps m)
    stop-kept name m named None is h = h
    stop-kept name m named (Some e) is h =
        let by = next-is IsByNumber e m h.waits is in
        let has = next-is (λ (x : Entry). HasSlot x.slot m.book.waiting) e m (all-have m.book.waiting) is in
        entered-kept k weight of start (name e.order.number) steps (stop_triggered e m) (named e.order.number) (triggered-kept e m by has h)

    rounds-kept : (n : ℕ) (naming : Naming) (m : MatchState) → NamesByNumber naming → Rests m → Rests (stop_rounds n naming steps m)
    rounds-kept zero naming m named h = h
    rounds-kept (suc n) naming m named h =
        let before = stop_rounds n naming steps m in stop-kept (naming n) before (λ number. named n number) (next_stop before) refl (rounds-kept n naming m named h)

    -- the level is as it was at the start, where no event tells of it
    abbrev Ends : MatchState → Type 0
    Ends m = is_told k m.events ≡ false → weights weight m.book.resting ≡ start

    with-stops-kept : (naming : Naming) (m : MatchState) → NamesByNumber naming → IsMatching k weight start m → Ends (entered_with_stops naming steps m)
    with-stops-kept naming m named h =
        let o = m.taker.order in
        let first = entered (naming 0 o.number) steps m in
        let rests : Rests first = entered-kept k weight of start (naming 0 o.number) steps m (named 0 o.number) h in
        (rounds-kept (length first.book.waiting) (λ n. naming (n + 1)) first (λ n number. named (n + 1) number) rests).same

    come-in-as-kept : (kind : Kind) (naming : Naming) (m : MatchState) → NamesByNumber naming → IsMatching k weight start m → Ends (come_in_as kind naming steps m)
    come-in-as-kept StopLimit naming m named h = λ none. (h.untold none).same
    come-in-as-kept Limit naming m named h = with-stops-kept naming m named h
    come-in-as-kept Market naming m named h = with-stops-kept naming m named h

    pub come-in-kept : (naming : Naming) (m : MatchState) → NamesByNumber naming → IsMatching k weight start m → is_told k (come_in naming steps m).events ≡ false → weights weight (come_in naming steps m).book.resting ≡ start
    come-in-kept naming m named h = come-in-as-kept m.taker.order.kind naming m named h
