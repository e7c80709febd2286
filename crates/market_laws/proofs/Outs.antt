-- An order that is out is not reported by any act, and stays out.
use Rattle.std.proofs.Common.{◌≡◌, ◌≢◌, ℕ, Bool, true, false, cond, ◌&&◌, List, [], ◌∷◌, ◌++◌, filter, Option, Some, None, refl, sym, subst, ◌∙◌}
use Rattle.std.specs.List.{AllByRecursion}
use Rattle.gx_base.specs.declared.price.Price.{Price}
use Rattle.gx_base.specs.declared.event.Event.{Event}
use Rattle.plain_book.specs.declared.entry.Entry.{Entry}
use Rattle.plain_book.specs.Orders.{HasSlot, order_of, is_of, stops_of, with_top, topped, is_new_best}
use Rattle.plain_book.specs.Book.{first_shown, makes_top}
use Rattle.plain_book.specs.Match.{MatchState}
use Rattle.plain_book.proofs.Pairs.{all-filter, all-append, all-front, all-back, all-map}
use Rattle.level_sweep.proofs.EachOrder.{StaysTrue, all-kept}
use Rattle.order_kinds.specs.Entering.{as_limit, top_min_of}
use Rattle.order_kinds.specs.Stops.{fill_range, is_reached_by, first_reached, next_stop}
use Rattle.image_laws.proofs.Orders.{IsOther, others-lack, all-without, all-placed, all-lined}
use Rattle.image_laws.proofs.Arriving.{first-is}
use Rattle.market_laws.specs.Acts.{Act, after, after_acts, EachAct}
use Rattle.market_laws.specs.Acts.Act.{trades, notes, rests, cancels, waits, triggers}
use Rattle.market_laws.specs.Markets.{IsNotOn}
use Rattle.market_laws.proofs.Sound.{IsByNumber, number-at, IsSound}

-- what holds of each waiting stop holds of the next one
pub next-holds : (P : Entry → Type 0) (m : MatchState) (e : Entry) → AllByRecursion P m.book.waiting → next_stop m ≡ Some e → P e
next-holds P m e a is =
    let i = m.taker.order.instrument in
    let go : (range : Option (Price × Price)) → first_reached i range m.book.waiting ≡ Some e → P e = elim [
      | None ↦ λ k. absurd (let f : None ≡ Some e = k in cc)
      | Some range ↦ λ k. first-is P e (filter (is_reached_by range) (stops_of i m.book.waiting)) (all-filter P (is_reached_by range) (stops_of i m.book.waiting) (all-filter P (is_of i) m.book.waiting a)) k
    ] in go (fill_range m.events) is

module _ (n : ℕ) where
  others-stay : StaysTrue (IsOther n)
  others-stay = record { fills = λ k e x p q is some. q; refreshes = λ k e p some none. p; marks = λ k e x p q is. q }

  -- neither a live order nor the incoming one has the number
  pub record IsAway (m : MatchState) : Type 0 where
    pub incoming : m.taker.order.number ≢ n
    pub rest : AllByRecursion (IsOther n) m.book.resting
    pub wait : AllByRecursion (IsOther n) m.book.waiting

  -- a stop that is triggered has another number
  stop-other : (stop : Entry) (m : MatchState) → IsSound (triggers stop) m → IsAway m → stop.order.number ≢ n
  stop-other stop m sound h is =
      let b = m.book in
      let number : stop.slot ≡ stop.order.number = next-holds IsByNumber m stop (all-back IsByNumber b.resting b.waiting sound.book.numbered) sound.is in
      next-holds (IsOther n) m stop h.wait sound.is (number ∙ is)

  pub act-away : (act : Act) (m : MatchState) → IsSound act m → IsAway m → IsAway (after act m)
  act-away (trades step s lots) m sound h = record { incoming = h.incoming; rest = (all-kept (IsOther n) others-stay).trades step s lots m h.rest; wait = h.wait }
  act-away (notes s lots) m sound h = record { incoming = h.incoming; rest = (all-kept (IsOther n) others-stay).marks s lots m h.rest; wait = h.wait }
  act-away (rests steps) m sound h =
      let o = as_limit m.taker.order in
      let es = m.book.resting in
      let best = is_new_best o es in
      let N = λ (top : Bool). let x : Entry = record { slot = m.taker.order.number; order = record o { shown = first_shown o }; is_top = top } in x in
      let marked : (b : Bool) → AllByRecursion (IsOther n) (cond b (with_top o.instrument o.side None es) es) = elim [
        | true ↦ all-map (IsOther n) (IsOther n) (topped o.instrument o.side None) (λ x k. k) es h.rest
        | false ↦ h.rest
      ] in
      record {
        incoming = h.incoming;
        rest = all-placed (IsOther n) (N (best && makes_top (top_min_of steps) o.leaves)) (cond best (with_top o.instrument o.side None es) es) h.incoming (marked best);
        wait = h.wait;
      }
  act-away (cancels why) m sound h = record { incoming = h.incoming; rest = h.rest; wait = h.wait }
  act-away waits m sound h =
      let x : Entry = record { slot = m.taker.order.number; order = record m.taker.order { shown = 0 }; is_top = false } in
      record { incoming = h.incoming; rest = h.rest; wait = all-lined (IsOther n) x m.book.waiting h.incoming h.wait }
  act-away (triggers stop) m sound h =
      record { incoming = stop-other stop m sound h; rest = all-without (IsOther n) stop.slot m.book.resting h.rest; wait = all-without (IsOther n) stop.slot m.book.waiting h.wait }

  -- and no report is on it
  pub record IsSilent (m : MatchState) : Type 0 where
    pub away : IsAway m
    pub reports : AllByRecursion (IsNotOn n) m.events

  silent-one : (events : List Event) (event : Event) → IsNotOn n event → AllByRecursion (IsNotOn n) events → AllByRecursion (IsNotOn n) (events ++ event ∷ [])
  silent-one events event k h = all-append (IsNotOn n) events (event ∷ []) h (k, tt)

  act-reports : (act : Act) (m : MatchState) → IsSound act m → IsSilent m → AllByRecursion (IsNotOn n) (after act m).events
  act-reports (trades step s lots) m sound h =
      let es = m.book.resting in
      let has = sound.is.fit.rests in
      let number = number-at s es (all-front IsByNumber es m.book.waiting sound.book.numbered) has in
      let other : (order_of s es).number ≢ n = λ is. others-lack n es h.away.rest (subst (λ (k : ℕ). HasSlot k es) (sym number ∙ is) has) in
      silent-one _ _ h.away.incoming (silent-one m.events _ other h.reports)
  act-reports (notes s lots) m sound h = h.reports
  act-reports (rests steps) m sound h = h.reports
  act-reports (cancels why) m sound h = silent-one m.events _ h.away.incoming h.reports
  act-reports waits m sound h = h.reports
  act-reports (triggers stop) m sound h = silent-one m.events _ (stop-other stop m sound h.away) h.reports

  pub acts-silent : (acts : List Act) (m : MatchState) → EachAct IsSound acts m → IsSilent m → IsSilent (after_acts acts m)
  acts-silent [] m each h = h
  acts-silent (act ∷ acts) m each h = acts-silent acts (after act m) each.1 (record { away = act-away act m each.0 h.away; reports = act-reports act m each.0 h })

act-orders : (act : Act) (m : MatchState) → (after act m).desk.orders ≡ m.desk.orders
act-orders (trades step s lots) m = refl
act-orders (notes s lots) m = refl
act-orders (rests steps) m = refl
act-orders (cancels why) m = refl
act-orders waits m = refl
act-orders (triggers stop) m = refl

-- no act gives an order a number
pub acts-orders : (acts : List Act) (m : MatchState) → (after_acts acts m).desk.orders ≡ m.desk.orders
acts-orders [] m = refl
acts-orders (act ∷ acts) m = acts-orders acts (after act m) ∙ act-orders act m
