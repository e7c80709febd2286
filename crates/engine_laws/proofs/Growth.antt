-- What an order that comes in adds to the events of its message: nothing more is asked for, each fill is of one lot or more, and
-- of other events there are at most two, besides two for each stop that waits no more.
use Rattle.std.proofs.Common.{◌≡◌, ◌≢◌, ℕ, ◌+◌, ◌*◌, ◌≤◌, Bool, true, false, cond, not, List, [], ◌∷◌, ◌++◌, filter, length, Option, Some, None, refl, sym, subst, arith, inl, inr, length-append}
use Prim.Native.Nat.{zero, suc}
use Rattle.std.proofs.lemmas.List.Sums.{sum_by-cons, sum_by-append, sum_by_push}
use Rattle.std.proofs.lemmas.List.Filters.{length-filter_both}
use Rattle.std.proofs.lemmas.Bool.Decides.{eqb_tells}
use Rattle.std.specs.Prelude.{◌==◌, nat_lt}
use Rattle.gx_base.specs.declared.price.Price.{Price}
use Rattle.gx_base.specs.declared.order.Kind.{Kind}
use Rattle.gx_base.specs.declared.order.Kind.TheVariants.{Limit, Market, StopLimit}
use Rattle.gx_base.specs.declared.event.Cause.{Cause}
use Rattle.gx_base.specs.declared.event.Cause.TheVariants as cause
use Rattle.gx_base.specs.declared.event.StepName.{StepName}
use Rattle.gx_base.specs.declared.event.StepName.TheVariants as name
use Rattle.gx_base.specs.declared.event.Event.{Event}
use Rattle.gx_base.specs.declared.event.Event.TheVariants.{Accepted, Triggered, Fill, Cancelled, Expired, Replaced, RefusedNew, RefusedChange, RefusedSession}
use Rattle.step_config.specs.declared.step.Step.{Step}
use Rattle.plain_book.specs.declared.entry.Entry.{Entry}
use Rattle.plain_book.specs.Orders.{HasSlot, is_of, stops_of, without, lined_up, is_of_earlier_instrument}
use Rattle.plain_book.specs.Match.{MatchState, Share, next_head, trade, trade_if_any, is_prorata, book_share_noted, share_noted, trade_share, trade_shares}
use Rattle.plain_book.specs.Steps.{level_now, trade_head, fifo_rounds}
use Rattle.plain_book.proofs.Levels.{HasSlot-filter}
use Rattle.level_sweep.specs.Sweep.{wanted_step, level_match, next_price, match_next, sweep_rounds, sweep}
use Rattle.level_sweep.proofs.EachTrade.{wanted-cases}
use Rattle.order_kinds.specs.Balance.{entered_with, entered_from, filled_in, total_filled, cancelled_in, total_cancelled}
use Rattle.order_kinds.specs.NewOrders.{may_rest}
use Rattle.order_kinds.specs.Entering.{cancel_event, taker_cancelled, taker_rested, finished, open_for, entered}
use Rattle.order_kinds.specs.Stops.{Naming, fill_range, is_reached_by, first_entry, first_reached, next_stop, as_triggered, stop_triggered, stop_entered, stop_rounds, entered_with_stops, taker_waiting, come_in_as, come_in}
use Rattle.engine_laws.specs.Bounds.{asked_in, total_asked}
use Rattle.engine_laws.proofs.Events.{filled-push, cancelled-push, given_fill, taken_fill}

-- ---- what an event asks for

entered-more : (n : ℕ) (e : Event) → entered_with n e ≤ n + asked_in e
entered-more n (Accepted head o) = omega arith
entered-more n (Replaced head o old before) = omega arith
entered-more n (Triggered head o) = omega arith
entered-more n (Fill head o lots price step trade) = omega arith
entered-more n (Cancelled head o gone by cause) = omega arith
entered-more n (Expired head o gone) = omega arith
entered-more n (RefusedNew head new fault) = omega arith
entered-more n (RefusedChange head id old number filled replace fault) = omega arith
entered-more n (RefusedSession head seq tag reason rule) = omega arith

-- no more is entered than is asked for
pub entered-within : (n : ℕ) (es : List Event) → entered_from n es ≤ n + total_asked es
entered-within n [] = omega arith
entered-within n (e ∷ es) = omega (arith, sum_by-cons asked_in e es, entered-more n e, entered-within (entered_with n e) es)

-- ---- lists of orders

-- a filter leaves no more
filter-fewer : (p : Entry → Bool) (es : List Entry) → length (filter p es) ≤ length es
filter-fewer p es = omega (arith, length-filter_both p (λ e. not (p e)) (λ e. refl) es)

pub without-within : (s : ℕ) (es : List Entry) → length (without s es) ≤ length es
without-within s es = filter-fewer (λ e. not (e.slot == s)) es

-- an order that leaves
without-fewer : (s : ℕ) (es : List Entry) → HasSlot s es → length (without s es) + 1 ≤ length es
without-fewer s [] h = absurd h
without-fewer s (e ∷ es) h = elim (eqb_tells e.slot s) [
  | inl t ↦ subst (λ (b : Bool). length (cond (not b) (e ∷ without s es) (without s es)) + 1 ≤ length (e ∷ es)) (sym t.0) (omega (arith, without-within s es))
  | inr t ↦
      subst (λ (b : Bool). length (cond (not b) (e ∷ without s es) (without s es)) + 1 ≤ length (e ∷ es)) (sym t.0)
      (omega (arith, without-fewer s es (elim h [ inl is ↦ absurd (t.1 is) | inr m ↦ m ])))
]

-- an order that lines up
lined-more : (n : Entry) (es : List Entry) → length (lined_up n es) ≡ length es + 1
lined-more n es =
    let p = is_of_earlier_instrument n in
    omega (arith, length-append (filter (λ e. not (p e)) es) (n ∷ filter p es), length-filter_both p (λ e. not (p e)) (λ e. refl) es)

-- ---- how much is added

-- From these events on to those, with these stops waiting before and those after: at most so many lots are asked for, and there
-- are at most so many events more, besides one for each lot that is filled or cancelled and two for each stop that waits no more.
pub record Grows (asked more : ℕ) (es fs : List Event) (waiting after : List Entry) : Type 0 where
  pub lots : total_asked fs ≤ asked + total_asked es
  pub events : (length fs + 2 * length after) + (total_filled es + total_cancelled es) ≤ (more + (length es + 2 * length waiting)) + (total_filled fs + total_cancelled fs)

pub grows-none : (es : List Event) (waiting : List Entry) → Grows 0 0 es es waiting waiting
grows-none es waiting = record { lots = omega arith; events = omega arith }

pub grows-within : {asked more most many : ℕ} {es fs : List Event} {waiting after : List Entry} → asked ≤ most → more ≤ many → Grows asked more es fs waiting after → Grows most many es fs waiting after
grows-within lots events g = record { lots = omega (arith, g.lots, lots); events = omega (arith, g.events, events) }

pub grows-both : {a n b m : ℕ} {es fs gs : List Event} {waiting then after : List Entry} → Grows a n es fs waiting then → Grows b m fs gs then after → Grows (a + b) (n + m) es gs waiting after
grows-both g h = record { lots = omega (arith, g.lots, h.lots); events = omega (arith, g.events, h.events) }

-- one event
grows-push : (more : ℕ) (es : List Event) (e : Event) (waiting : List Entry) → asked_in e ≡ 0 → 1 ≤ more + filled_in e → Grows 0 more es (es ++ e ∷ []) waiting waiting
grows-push more es e waiting none counted = record {
  lots = omega (arith, sum_by_push asked_in es e, none);
  events = omega (arith, length-append es (e ∷ []), filled-push es e, cancelled-push es e, counted);
}

-- the first events of a message, and then those of others
pub grows-append : {a n b m : ℕ} {es fs : List Event} {waiting then after : List Entry} → Grows a n [] es waiting then → Grows b m [] fs then after → Grows (a + b) (n + m) [] (es ++ fs) waiting after
grows-append {es = es} {fs = fs} g h = record {
  lots = omega (arith, g.lots, h.lots, sum_by-append asked_in es fs);
  events = omega (arith, g.events, h.events, length-append es fs, sum_by-append filled_in es fs, sum_by-append cancelled_in es fs);
}

-- ---- a sweep

-- from one state of a match to another
abbrev Adds : ℕ → MatchState → MatchState → Type 0
Adds more a b = Grows 0 more a.events b.events a.book.waiting b.book.waiting

adds-none : (m : MatchState) → Adds 0 m m
adds-none m = grows-none m.events m.book.waiting

trade-adds : (step : StepName) (s n : ℕ) (m : MatchState) → n ≢ 0 → Adds 0 m (trade step s n m)
trade-adds step s n m some =
    let first = given_fill step s n m in
    let second = taken_fill step s n m in
    grows-both (grows-push 0 m.events first m.book.waiting refl (omega (arith, some))) (grows-push 0 (m.events ++ first ∷ []) second m.book.waiting refl (omega (arith, some)))

any-adds : (step : StepName) (s n : ℕ) (m : MatchState) → Adds 0 m (trade_if_any step s n m)
any-adds step s n m = elim (eqb_tells n 0) [
  | inl t ↦ subst (λ (b : Bool). Adds 0 m (cond b m (trade step s n m))) (sym t.0) (adds-none m)
  | inr t ↦ subst (λ (b : Bool). Adds 0 m (cond b m (trade step s n m))) (sym t.0) (trade-adds step s n m t.1)
]

marked-adds : (step : StepName) (s n : ℕ) (m : MatchState) → Adds 0 m (share_noted step s n m)
marked-adds step s n m =
    let go : (c : Bool) → Adds 0 m (record m { book = cond c (book_share_noted s n m.book) m.book }) = elim [ true ↦ adds-none m | false ↦ adds-none m ] in
    go (is_prorata step)

share-adds : (step : StepName) (s n : ℕ) (m : MatchState) → Adds 0 m (trade_share step s n m)
share-adds step s n m = grows-both (marked-adds step s n m) (any-adds step s n (share_noted step s n m))

shares-adds : (step : StepName) (xs : List Share) (m : MatchState) → Adds 0 m (trade_shares step xs m)
shares-adds step [] m = adds-none m
shares-adds step (x ∷ xs) m = grows-both (share-adds step x.0 x.1 m) (shares-adds step xs (trade_share step x.0 x.1 m))

head-adds : (es : List Entry) (m : MatchState) → Adds 0 m (trade_head es m)
head-adds [] m = adds-none m
head-adds (e ∷ es) m = share-adds name.Fifo e.slot _ m

fifo-adds : (price : Price) (n : ℕ) (m : MatchState) → Adds 0 m (fifo_rounds n price m)
fifo-adds price zero m = adds-none m
fifo-adds price (suc n) m = grows-both (head-adds (level_now price m) m) (fifo-adds price n (trade_head (level_now price m) m))

wanted-adds : (s : Step) (price : Price) (m : MatchState) → Adds 0 m (wanted_step s price m)
wanted-adds s price m = wanted-cases (λ _ n. Adds 0 m n) price [] m (λ step xs. shares-adds step xs m) (fifo-adds price m.taker.order.leaves m) (adds-none m) s

match-adds : (steps : List Step) (price : Price) (m : MatchState) → Adds 0 m (level_match steps price m)
match-adds [] price m = adds-none m
match-adds (s ∷ ss) price m = grows-both (wanted-adds s price m) (match-adds ss price (wanted_step s price m))

next-adds : (steps : List Step) (next : Option Price) (m : MatchState) → Adds 0 m (match_next steps next m)
next-adds steps None m = adds-none m
next-adds steps (Some price) m = match-adds steps price m

rounds-adds : (n : ℕ) (steps : List Step) (limit : Price) (m : MatchState) → Adds 0 m (sweep_rounds n steps limit m)
rounds-adds zero steps limit m = adds-none m
rounds-adds (suc n) steps limit m =
    let next = next_price limit m.book m.taker in grows-both (next-adds steps next m) (rounds-adds n steps limit (match_next steps next m))

-- ---- entering

cancelled-adds : (why : Cause) (m : MatchState) → Adds 1 m (taker_cancelled why m)
cancelled-adds why m =
    let o = m.taker.order in
    let event : Event = cancel_event why (next_head m.desk o.firm m.taker.time) o in
    grows-push 1 m.events event m.book.waiting refl (omega arith)

none-within : (m k : MatchState) → Adds 0 m k → Adds 1 m k
none-within m k g = grows-within (omega arith) (omega arith) g

finished-adds : (name : ℕ) (steps : List Step) (m : MatchState) → Adds 1 m (finished name steps m)
finished-adds name steps m =
    let none : Adds 1 m m = none-within m m (adds-none m) in
    let go : (a b : Bool) → Adds 1 m (cond a m (cond b (taker_rested name steps m) (taker_cancelled cause.Fak m))) = elim [
      | true ↦ λ b. none
      | false ↦ elim [ true ↦ none | false ↦ cancelled-adds cause.Fak m ]
    ] in go (m.taker.order.leaves == 0) (may_rest m.taker.order.life)

entered-adds : (name : ℕ) (steps : List Step) (m : MatchState) → Adds 1 m (entered name steps m)
entered-adds name steps m =
    let price = m.taker.order.price in
    let swept = sweep steps price m in
    let go : (c : Bool) → Adds 1 m (cond c (taker_cancelled cause.MinQty m) (finished name steps swept)) = elim [
      | true ↦ cancelled-adds cause.MinQty m
      | false ↦ grows-both (rounds-adds m.taker.order.leaves steps price m) (finished-adds name steps swept)
    ] in go (nat_lt (open_for m) m.taker.order.min)

-- ---- stops

first-has : (e : Entry) (es : List Entry) → first_entry es ≡ Some e → HasSlot e.slot es
first-has e [] h = absurd (let k : None ≡ Some e = h in cc)
first-has e (x ∷ es) h =
    let k : Some x ≡ Some e = h in
    let here : x ≡ e = cc in
    subst (λ (y : Entry). HasSlot y.slot (x ∷ es)) here (inl refl)

marked-has : (instrument : ℕ) (range : Option (Price × Price)) (es : List Entry) (e : Entry) → first_reached instrument range es ≡ Some e → HasSlot e.slot es
marked-has instrument None es e h = absurd (let k : None ≡ Some e = h in cc)
marked-has instrument (Some range) es e h =
    HasSlot-filter (is_of instrument) e.slot es (HasSlot-filter (is_reached_by range) e.slot (stops_of instrument es) (first-has e (filter (is_reached_by range) (stops_of instrument es)) h))

-- a stop that is triggered waits no more
stop-adds : (name : ℕ → ℕ) (steps : List Step) (m : MatchState) (next : Option Entry) → next_stop m ≡ next → Adds 0 m (stop_entered next name steps m)
stop-adds name steps m None is = adds-none m
stop-adds name steps m (Some e) is =
    let k = stop_triggered e m in
    let g = entered-adds (name e.order.number) steps k in
    let fewer = without-fewer e.slot m.book.waiting (marked-has m.taker.order.instrument (fill_range m.events) m.book.waiting e is) in
    let o = as_triggered e.order in
    let event : Event = Triggered (next_head m.desk o.firm m.taker.time) o in
    record {
      lots = omega (arith, g.lots, sum_by_push asked_in m.events event);
      events = omega (arith, g.events, fewer, length-append m.events (event ∷ []), filled-push m.events event, cancelled-push m.events event);
    }

stops-adds : (n : ℕ) (naming : Naming) (steps : List Step) (m : MatchState) → Adds 0 m (stop_rounds n naming steps m)
stops-adds zero naming steps m = adds-none m
stops-adds (suc n) naming steps m =
    let k = stop_rounds n naming steps m in grows-both (stops-adds n naming steps m) (stop-adds (naming n) steps k (next_stop k) refl)

-- ---- an order comes in

with-stops-adds : (naming : Naming) (steps : List Step) (m : MatchState) → Adds 2 m (entered_with_stops naming steps m)
with-stops-adds naming steps m =
    let k = entered (naming 0 m.taker.order.number) steps m in
    grows-within (omega arith) (omega arith) (grows-both (entered-adds (naming 0 m.taker.order.number) steps m) (stops-adds (length k.book.waiting) (λ before. naming (before + 1)) steps k))

waiting-adds : (name : ℕ) (m : MatchState) → Adds 2 m (taker_waiting name m)
waiting-adds name m =
    let n : Entry = record { slot = name; order = record m.taker.order { shown = 0 }; is_top = false } in
    record { lots = omega arith; events = omega (arith, lined-more n m.book.waiting) }

come-in-as-adds : (kind : Kind) (naming : Naming) (steps : List Step) (m : MatchState) → Adds 2 m (come_in_as kind naming steps m)
come-in-as-adds StopLimit naming steps m = waiting-adds (naming 0 m.taker.order.number) m
come-in-as-adds Limit naming steps m = with-stops-adds naming steps m
come-in-as-adds Market naming steps m = with-stops-adds naming steps m

pub come-in-grows : (naming : Naming) (steps : List Step) (m : MatchState) → Grows 0 2 m.events (come_in naming steps m).events m.book.waiting (come_in naming steps m).book.waiting
come-in-grows naming steps m = come-in-as-adds m.taker.order.kind naming steps m
