-- The stops of a message: each is triggered in turn, until the prices of the message reach none that waits.
use Rattle.std.proofs.Common.{◌≡◌, ◌≢◌, ℕ, ◌+◌, ◌≤◌, Bool, true, false, cond, List, [], ◌∷◌, ◌++◌, Option, Some, None, refl, sym, ap, ◌∙◌, arith, inl, inr, append_assoc}
use Prim.Native.Nat.{zero, suc}
use Rattle.std.specs.Prelude.{◌==◌, nat_lt}
use Rattle.std.proofs.lemmas.Bool.Decides.{eqb_tells}
use Rattle.std.proofs.lemmas.List.{append-nil}
use Rattle.gx_base.specs.declared.price.Price.{Price}
use Rattle.gx_base.specs.declared.order.Order.{Order}
use Rattle.gx_base.specs.declared.order.Taker.{Taker}
use Rattle.gx_base.specs.declared.event.Cause.TheVariants as cause
use Rattle.gx_base.specs.declared.event.Event.{Event}
use Rattle.gx_base.specs.declared.event.Event.TheVariants.{Triggered}
use Rattle.step_config.specs.declared.step.Step.{Step}
use Rattle.step_config.specs.RightSteps.{AreRightSteps}
use Rattle.plain_book.specs.declared.entry.Entry.{Entry}
use Rattle.plain_book.specs.Orders.{order_of}
use Rattle.plain_book.specs.Book.{IsRight, book_placed, book_without}
use Rattle.plain_book.specs.Match.{MatchState, match_start, next_head, report_counted}
use Rattle.plain_book.proofs.TradedShares.{match_with, with_events, IgnoresEvents}
use Rattle.level_sweep.specs.Sweep.{sweep, with_resting}
use Rattle.level_sweep.proofs.Resting.{rest-sweep}
use Rattle.level_sweep.proofs.Swept.{sweep-order}
use Rattle.order_kinds.specs.NewOrders.{may_rest}
use Rattle.order_kinds.specs.Entering.{taker_cancelled, taker_rested, as_limit, top_min_of, finished, open_for, entered, last_fill}
use Rattle.order_kinds.specs.Stops.{Naming, fill_range, next_stop, as_triggered, stop_triggered, stop_entered, stop_rounds}
use Rattle.order_kinds.specs.Inner.Taking.{last_in_range}
use Rattle.order_kinds.specs.Inner.Triggering.{joined, later_price, slot_entered}
use Rattle.order_kinds.proofs.Entered.{entered-ignores}
use Rattle.order_kinds.proofs.FillRanges.{range-joined, last-joined, range-triggered, last-triggered, range-entered}
use Rattle.order_kinds.proofs.LastPrices.{last-entered}

-- ---- what an order that is entered leaves

-- of the book, the resting orders alone change
abbrev RestStays : MatchState → MatchState → Type 0
RestStays a b = b.book ≡ with_resting b.book.resting a.book

rest-finished : (name : ℕ) (steps : List Step) (a m : MatchState) → RestStays a m → RestStays a (finished name steps m)
rest-finished name steps a m h =
    let rested : RestStays a (taker_rested name steps m) = ap (with_resting (book_placed name (as_limit m.taker.order) (top_min_of steps) m.book).resting) h in
    let go : (c d : Bool) → RestStays a (cond c m (cond d (taker_rested name steps m) (taker_cancelled cause.Fak m))) = elim [
      | true ↦ λ d. h
      | false ↦ elim [ true ↦ rested | false ↦ h ]
    ] in go (m.taker.order.leaves == 0) (may_rest m.taker.order.life)

pub rest-entered : (name : ℕ) (steps : List Step) (m : MatchState) → RestStays m (entered name steps m)
rest-entered name steps m =
    let price = m.taker.order.price in
    let swept = sweep steps price m in
    let go : (c : Bool) → RestStays m (cond c (taker_cancelled cause.MinQty m) (finished name steps swept)) = elim [
      | true ↦ refl
      | false ↦ rest-finished name steps m swept (rest-sweep steps price m)
    ] in go (nat_lt (open_for m) m.taker.order.min)

-- the incoming order keeps its instrument
abbrev KeepsInstrument : MatchState → MatchState → Type 0
KeepsInstrument a b = b.taker.order.instrument ≡ a.taker.order.instrument

pub entered-instrument : (name : ℕ) (steps : List Step) (m : MatchState) → KeepsInstrument m (entered name steps m)
entered-instrument name steps m =
    let price = m.taker.order.price in
    let swept = sweep steps price m in
    let same : KeepsInstrument m swept = ap (λ (o : Order). o.instrument) (sweep-order steps price m) in
    let ended : (c d : Bool) → KeepsInstrument m (cond c swept (cond d (taker_rested name steps swept) (taker_cancelled cause.Fak swept))) = elim [
      | true ↦ λ d. same
      | false ↦ elim [ true ↦ same | false ↦ same ]
    ] in
    let go : (c : Bool) → KeepsInstrument m (cond c (taker_cancelled cause.MinQty m) (finished name steps swept)) = elim [
      | true ↦ refl
      | false ↦ ended (swept.taker.order.leaves == 0) (may_rest swept.taker.order.life)
    ] in go (nat_lt (open_for m) m.taker.order.min)

-- ---- one stop

-- the waiting stop of a slot
abbrev pub entry_in : ℕ → MatchState → Entry
entry_in slot x = record { slot = slot; order = order_of slot x.book.waiting; is_top = false }

triggered-ignores : (e : Entry) → IgnoresEvents (stop_triggered e)
triggered-ignores e es x =
    let o = as_triggered e.order in
    let taker : Taker = record { order = o; time = x.taker.time; range = None } in
    ap (match_with (book_without e.slot x.book) (report_counted x.desk o.firm) taker) (append_assoc es x.events (Triggered (next_head x.desk o.firm x.taker.time) o ∷ []))

pub slot-ignores : (slot name : ℕ) (steps : List Step) → IgnoresEvents (slot_entered slot name steps)
slot-ignores slot name steps es x = ap (entered name steps) (triggered-ignores (entry_in slot x) es x) ∙ entered-ignores name steps es (stop_triggered (entry_in slot x) x)

module _ (slot name : ℕ) (steps : List Step) (x : MatchState) where
  abbrev order : Order
  order = as_triggered (order_of slot x.book.waiting)

  -- the stop comes in, with no event before it
  abbrev alone : MatchState
  alone = match_start (book_without slot x.book) (report_counted x.desk order.firm) (record { order = order; time = x.taker.time; range = None })

  abbrev earlier : List Event
  earlier = x.events ++ Triggered (next_head x.desk order.firm x.taker.time) order ∷ []

  slot-alone : slot_entered slot name steps x ≡ with_events earlier (entered name steps alone)
  slot-alone = ap (λ (es : List Event). entered name steps (match_with alone.book alone.desk alone.taker es)) (sym (append-nil earlier)) ∙ entered-ignores name steps earlier alone

  -- the fills so far, and those of the stop
  pub slot-range : fill_range (slot_entered slot name steps x).events ≡ joined (fill_range x.events) (slot_entered slot name steps x).taker.range
  slot-range =
      let w = entered name steps alone in
      ap (λ (y : MatchState). fill_range y.events) slot-alone
      ∙ range-joined earlier w.events
      ∙ ap (λ (r : Option (Price × Price)). joined r (fill_range w.events)) (range-triggered x.events (next_head x.desk order.firm x.taker.time) order)
      ∙ ap (joined (fill_range x.events)) (range-entered name steps alone refl refl)
      ∙ ap (λ (y : MatchState). joined (fill_range x.events) y.taker.range) (sym slot-alone)

  pub slot-last : IsRight (book_without slot x.book) → AreRightSteps steps
      → last_fill (slot_entered slot name steps x).events ≡ later_price (last_fill x.events) (last_in_range (slot_entered slot name steps x).taker.order.side (slot_entered slot name steps x).taker.range)
  slot-last right steps-right =
      let w = entered name steps alone in
      ap (λ (y : MatchState). last_fill y.events) slot-alone
      ∙ last-joined earlier w.events
      ∙ ap (λ (p : Option Price). later_price p (last_fill w.events)) (last-triggered x.events (next_head x.desk order.firm x.taker.time) order)
      ∙ ap (later_price (last_fill x.events)) (last-entered name steps alone right steps-right refl refl)
      ∙ ap (λ (y : MatchState). later_price (last_fill x.events) (last_in_range y.taker.order.side y.taker.range)) (sym slot-alone)

-- ---- turns

-- an order is entered, and then so many stops
abbrev pub rounds : ℕ → Naming → List Step → MatchState → MatchState
rounds turns naming steps m = stop_rounds turns (λ before. naming (before + 1)) steps (entered (naming 0 m.taker.order.number) steps m)

same-stop : (next : Option Entry) (f g : ℕ → ℕ) (steps : List Step) (x : MatchState) → ((n : ℕ) → f n ≡ g n) → stop_entered next f steps x ≡ stop_entered next g steps x
same-stop None f g steps x h = refl
same-stop (Some e) f g steps x h = ap (λ (n : ℕ). entered n steps (stop_triggered e x)) (h e.order.number)

-- names of later orders do not matter
pub rounds-same : (turns : ℕ) (f g : Naming) (steps : List Step) (m : MatchState) → ((k : ℕ) → k ≤ turns → (n : ℕ) → f k n ≡ g k n) → rounds turns f steps m ≡ rounds turns g steps m
rounds-same zero f g steps m h = ap (λ (n : ℕ). entered n steps m) (h 0 (omega arith) m.taker.order.number)
rounds-same (suc turns) f g steps m h =
    let x = rounds turns f steps m in
    same-stop (next_stop x) (f (turns + 1)) (g (turns + 1)) steps x (h (turns + 1) (omega arith))
    ∙ ap (λ (y : MatchState). stop_entered (next_stop y) (g (turns + 1)) steps y) (rounds-same turns f g steps m (λ k le. h k (omega arith)))

-- if no stop is reached, further turns do nothing
pub rounds-done : (turns : ℕ) (naming : Naming) (steps : List Step) (m : MatchState) → next_stop (rounds turns naming steps m) ≡ None → (more : ℕ) → turns ≤ more → rounds more naming steps m ≡ rounds turns naming steps m
rounds-done turns naming steps m none zero le = let e : zero ≡ turns = omega arith in ap (λ (n : ℕ). rounds n naming steps m) e
rounds-done turns naming steps m none (suc more) le = elim (eqb_tells turns (suc more)) [
  | inl t ↦ ap (λ (n : ℕ). rounds n naming steps m) (sym t.1)
  | inr t ↦
      let other : turns ≢ suc more = t.1 in
      let before : turns ≤ more = omega arith in
      ap (λ (y : MatchState). stop_entered (next_stop y) (naming (more + 1)) steps y) (rounds-done turns naming steps m none more before)
      ∙ ap (λ (next : Option Entry). stop_entered next (naming (more + 1)) steps (rounds turns naming steps m)) none
]
