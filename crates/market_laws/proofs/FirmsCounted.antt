-- What an order that comes in adds to the counters is as many as its events, and none of these refuses a message.
use Rattle.std.proofs.Common.{◌≡◌, ℕ, ◌+◌, Bool, true, false, cond, List, [], ◌∷◌, ◌++◌, map, length, Option, Some, None, refl, ap, ◌∙◌, arith, length-append, suc}
use Prim.Native.Nat.{zero}
use Rattle.std.specs.Prelude.{◌==◌, nat_lt, flat_map, ◌⊎◌}
use Rattle.std.proofs.lemmas.List.{map-append, append-nil}
use Rattle.std.proofs.lemmas.Grind.{flat_map-append}
use Rattle.gx_base.specs.declared.order.Kind.{Kind}
use Rattle.gx_base.specs.declared.order.Kind.TheVariants.{Limit, Market, StopLimit}
use Rattle.gx_base.specs.declared.event.Cause.{Cause}
use Rattle.gx_base.specs.declared.event.Cause.TheVariants as cause
use Rattle.gx_base.specs.declared.event.Event.{Event}
use Rattle.gx_base.specs.declared.event.NewFault.{NewFault}
use Rattle.gx_base.specs.declared.event.ChangeFault.{ChangeFault}
use Rattle.step_config.specs.declared.step.Step.{Step}
use Rattle.plain_book.specs.declared.entry.Entry.{Entry}
use Rattle.plain_book.specs.Match.{MatchState, trade}
use Rattle.level_sweep.specs.Sweep.{sweep}
use Rattle.level_sweep.proofs.EachTrade.{IsKept, each-sweep}
use Rattle.order_kinds.specs.NewOrders.{may_rest}
use Rattle.order_kinds.specs.Entering.{taker_cancelled, taker_rested, finished, open_for, entered}
use Rattle.order_kinds.specs.Stops.{Naming, next_stop, stop_triggered, stop_entered, stop_rounds, entered_with_stops, come_in_as, come_in}
use Rattle.market_laws.specs.Firms.{Told, told, faults}

-- ---- how many fills are told

abbrev pub told_fills : List (Option Told) → ℕ
told_fills [] = 0
told_fills (Some t ∷ ts) = told_fills ts + 1
told_fills (None ∷ ts) = told_fills ts

told-append : (xs ys : List (Option Told)) → told_fills (xs ++ ys) ≡ told_fills xs + told_fills ys
told-append [] ys = omega arith
told-append (Some t ∷ xs) ys = omega (arith, told-append xs ys)
told-append (None ∷ xs) ys = told-append xs ys

abbrev pub fills : List Event → ℕ
fills events = told_fills (map told events)

fills-more : (xs : List Event) (event : Event) → fills (xs ++ event ∷ []) ≡ fills xs + told_fills (told event ∷ [])
fills-more xs event = ap told_fills (map-append told xs (event ∷ [])) ∙ told-append (map told xs) (told event ∷ [])

length-more : (xs : List Event) (event : Event) → length (xs ++ event ∷ []) ≡ length xs + 1
length-more xs event = length-append xs (event ∷ [])

faults-more : (xs : List Event) (event : Event) → faults event ≡ [] → flat_map faults (xs ++ event ∷ []) ≡ flat_map faults xs
faults-more xs event none =
    flat_map-append faults xs (event ∷ [])
    ∙ ap (λ (l : List (NewFault ⊎ ChangeFault)). flat_map faults xs ++ (l ++ [])) none
    ∙ append-nil (flat_map faults xs)

-- ---- what is counted

-- the counters grew as the events did, and no event more refuses a message
pub record IsCounted (a b : MatchState) : Type 0 where
  pub capacity : b.book.capacity ≡ a.book.capacity
  pub instruments : b.book.instruments ≡ a.book.instruments
  pub messages : b.desk.messages ≡ a.desk.messages
  pub orders : b.desk.orders ≡ a.desk.orders
  pub reports : b.desk.reports + length a.events ≡ a.desk.reports + length b.events
  pub trades : b.desk.trades + b.desk.trades + fills a.events ≡ a.desk.trades + a.desk.trades + fills b.events
  pub refused : flat_map faults b.events ≡ flat_map faults a.events

-- nothing is reported
unreported : (m : MatchState) → IsCounted m m
unreported m = record { capacity = refl; instruments = refl; messages = refl; orders = refl; reports = refl; trades = refl; refused = refl }

counted-both : (a b c : MatchState) → IsCounted a b → IsCounted b c → IsCounted a c
counted-both a b c h k = record {
  capacity = k.capacity ∙ h.capacity;
  instruments = k.instruments ∙ h.instruments;
  messages = k.messages ∙ h.messages;
  orders = k.orders ∙ h.orders;
  reports = omega (arith, h.reports, k.reports);
  trades = omega (arith, h.trades, k.trades);
  refused = k.refused ∙ h.refused;
}

traded : (m end : MatchState) (first second : Event) → end.book.capacity ≡ m.book.capacity → end.book.instruments ≡ m.book.instruments → end.desk.messages ≡ m.desk.messages → end.desk.orders ≡ m.desk.orders
    → end.desk.reports ≡ m.desk.reports + 1 + 1 → end.desk.trades ≡ m.desk.trades + 1 → end.events ≡ (m.events ++ first ∷ []) ++ second ∷ [] → told_fills (told first ∷ []) ≡ 1 → told_fills (told second ∷ []) ≡ 1
    → faults first ≡ [] → faults second ≡ [] → IsCounted m end
traded m end first second capacity instruments messages orders reports trades events one two none nor =
    let once = m.events ++ first ∷ [] in
    let twice = once ++ second ∷ [] in
    let long : length end.events ≡ length m.events + 1 + 1 = ap length events ∙ length-more once second ∙ ap (λ (n : ℕ). n + 1) (length-more m.events first) in
    let many : fills end.events ≡ fills m.events + 1 + 1 = ap fills events ∙ fills-more once second ∙ ap (λ (n : ℕ). fills once + n) two ∙ ap (λ (n : ℕ). n + 1) (fills-more m.events first ∙ ap (λ (n : ℕ). fills m.events + n) one) in
    record {
      capacity = capacity;
      instruments = instruments;
      messages = messages;
      orders = orders;
      reports = omega (arith, reports, long);
      trades = omega (arith, trades, many);
      refused = ap (flat_map faults) events ∙ faults-more once second nor ∙ faults-more m.events first none;
    }

counted : IsKept IsCounted
counted = record {
  same = unreported;
  both = counted-both;
  trades = λ step s n m. traded m (trade step s n m) _ _ refl refl refl refl refl refl refl refl refl refl refl;
  marks = λ s n m. record { capacity = refl; instruments = refl; messages = refl; orders = refl; reports = refl; trades = refl; refused = refl };
}

-- one event, which is no fill
told-once : (m end : MatchState) (event : Event) → end.book.capacity ≡ m.book.capacity → end.book.instruments ≡ m.book.instruments → end.desk.messages ≡ m.desk.messages → end.desk.orders ≡ m.desk.orders
    → end.desk.reports ≡ m.desk.reports + 1 → end.desk.trades ≡ m.desk.trades → end.events ≡ m.events ++ event ∷ [] → told_fills (told event ∷ []) ≡ 0 → faults event ≡ [] → IsCounted m end
told-once m end event capacity instruments messages orders reports trades events zero_fills none =
    let long : length end.events ≡ length m.events + 1 = ap length events ∙ length-more m.events event in
    let many : fills end.events ≡ fills m.events + 0 = ap fills events ∙ fills-more m.events event ∙ ap (λ (n : ℕ). fills m.events + n) zero_fills in
    record {
      capacity = capacity;
      instruments = instruments;
      messages = messages;
      orders = orders;
      reports = omega (arith, reports, long);
      trades = omega (arith, trades, many);
      refused = ap (flat_map faults) events ∙ faults-more m.events event none;
    }

-- ---- an order that comes in

cancelled-counted : (why : Cause) (m : MatchState) → IsCounted m (taker_cancelled why m)
cancelled-counted why m = told-once m (taker_cancelled why m) _ refl refl refl refl refl refl refl refl refl

triggered-counted : (e : Entry) (m : MatchState) → IsCounted m (stop_triggered e m)
triggered-counted e m = told-once m (stop_triggered e m) _ refl refl refl refl refl refl refl refl refl

entered-counted : (name : ℕ) (steps : List Step) (m : MatchState) → IsCounted m (entered name steps m)
entered-counted name steps m =
    let price = m.taker.order.price in
    let swept = sweep steps price m in
    let first = each-sweep IsCounted counted steps price m in
    let rested : IsCounted swept (taker_rested name steps swept) = record { capacity = refl; instruments = refl; messages = refl; orders = refl; reports = refl; trades = refl; refused = refl } in
    let ended : (c d : Bool) → IsCounted swept (cond c swept (cond d (taker_rested name steps swept) (taker_cancelled cause.Fak swept))) = elim [
      | true ↦ λ d. unreported swept
      | false ↦ elim [ true ↦ rested | false ↦ cancelled-counted cause.Fak swept ]
    ] in
    let go : (c : Bool) → IsCounted m (cond c (taker_cancelled cause.MinQty m) (finished name steps swept)) = elim [
      | true ↦ cancelled-counted cause.MinQty m
      | false ↦ counted-both m swept (finished name steps swept) first (ended (swept.taker.order.leaves == 0) (may_rest swept.taker.order.life))
    ] in go (nat_lt (open_for m) m.taker.order.min)

module _ (steps : List Step) where
  stop-counted : (next : Option Entry) (name : ℕ → ℕ) (m : MatchState) → IsCounted m (stop_entered next name steps m)
  stop-counted None name m = unreported m
  stop-counted (Some e) name m =
      let start = stop_triggered e m in
      counted-both m start (entered (name e.order.number) steps start) (triggered-counted e m) (entered-counted (name e.order.number) steps start)

  rounds-counted : (n : ℕ) (naming : Naming) (m : MatchState) → IsCounted m (stop_rounds n naming steps m)
  rounds-counted zero naming m = unreported m
  rounds-counted (suc n) naming m =
      let before = stop_rounds n naming steps m in
      counted-both m before (stop_entered (next_stop before) (naming n) steps before) (rounds-counted n naming m) (stop-counted (next_stop before) (naming n) before)

  with-stops-counted : (naming : Naming) (m : MatchState) → IsCounted m (entered_with_stops naming steps m)
  with-stops-counted naming m =
      let first = entered (naming 0 m.taker.order.number) steps m in
      counted-both m first (entered_with_stops naming steps m) (entered-counted (naming 0 m.taker.order.number) steps m)
      (rounds-counted (length first.book.waiting) (λ before. naming (before + 1)) first)

  pub come-in-counted : (naming : Naming) (m : MatchState) → IsCounted m (come_in naming steps m)
  come-in-counted naming m =
      let go : (kind : Kind) → IsCounted m (come_in_as kind naming steps m) = elim [
        | Limit ↦ with-stops-counted naming m
        | Market ↦ with-stops-counted naming m
        | StopLimit ↦ record { capacity = refl; instruments = refl; messages = refl; orders = refl; reports = refl; trades = refl; refused = refl }
      ] in go m.taker.order.kind
