-- The events of a match are counted: its trades, what becomes of the order that comes in, and the stops that follow.
use Rattle.std.proofs.Common.{◌≡◌, ℕ, ◌+◌, Bool, true, false, cond, List, length, Option, Some, None, refl, sym, ap, subst, ◌∙◌, slice_index, slice_set}
use Prim.Native.Nat.{zero, suc}
use Rattle.std.proofs.lemmas.List.{length-set}
use Rattle.std.specs.Prelude.{◌<◌, ◌==◌, nat_lt}
use Rattle.gx_base.specs.declared.price.Price.{Price}
use Rattle.gx_base.specs.declared.order.Kind.{Kind}
use Rattle.gx_base.specs.declared.order.Kind.TheVariants.{Limit, Market, StopLimit}
use Rattle.gx_base.specs.declared.order.Order.{Order}
use Rattle.gx_base.specs.declared.event.Cause.{Cause}
use Rattle.gx_base.specs.declared.event.Cause.TheVariants as cause
use Rattle.gx_base.specs.declared.event.Head.{Head}
use Rattle.gx_base.specs.declared.event.StepName.{StepName}
use Rattle.gx_base.specs.declared.event.Event.{Event}
use Rattle.gx_base.specs.declared.event.Event.TheVariants.{Triggered}
use Rattle.step_config.specs.declared.step.Step.{Step}
use Rattle.plain_book.specs.declared.entry.Entry.{Entry}
use Rattle.plain_book.specs.Orders.{order_of, filled_by}
use Rattle.plain_book.specs.Book.{book_traded, book_without}
use Rattle.plain_book.specs.Match.{MatchState, next_head, report, taken_by, lengthened, fill, trade}
use Rattle.level_sweep.specs.Sweep.{sweep}
use Rattle.level_sweep.proofs.EachTrade.{Relation, IsKept, each-sweep}
use Rattle.order_kinds.specs.Reports.{line_place}
use Rattle.order_kinds.specs.NewOrders.{may_rest}
use Rattle.order_kinds.specs.Entering.{cancel_event, taker_cancelled, taker_rested, finished, open_for, entered}
use Rattle.order_kinds.specs.Stops.{Naming, next_stop, as_triggered, stop_triggered, stop_entered, stop_rounds, entered_with_stops, come_in_as, come_in}
use Rattle.engine_laws.specs.Heads.{head_in}
use Rattle.engine_laws.specs.Lines.{place_in, line_in}
use Rattle.engine_laws.proofs.Counted.{Counts, line-counts, AreCounted, counted-push}

-- of a place, a list of so many counts, and a count at the start
module _ (place long n : ℕ) where
  -- the events so far are counted
  pub record InMatch (m : MatchState) : Type 0 where
    pub counted : AreCounted (place < long) place n m.events (slice_index m.desk.lines place)
    pub long_as : length m.desk.lines ≡ long

  -- a report to the firm of an order
  pub report-kept : (event : Head → Order → Event) → ((h : Head) (o : Order) → head_in (event h o) ≡ h) → (o : Order) (m : MatchState) → InMatch m → InMatch (report event o m)
  report-kept event heads o m h =
      let lines = m.desk.lines in
      let head = next_head m.desk o.firm m.taker.time in
      let e = event head o in
      let is : head_in e ≡ head = heads head o in
      let there : place_in e ≡ o.firm = ap (λ (x : Head). line_place x.firm) is in
      let line : line_in e ≡ slice_index lines (place_in e) + 1 = ap (λ (x : Head). x.line) is ∙ ap (λ (p : ℕ). slice_index lines p + 1) (sym there) in
      let counts = line-counts (place < long) lines place e (λ w. subst (λ (k : ℕ). place < k) (sym h.long_as) w) line in
      record {
        counted =
            counted-push (place < long) place n m.events (slice_index lines place) e _ h.counted
            (subst (λ (p : ℕ). Counts (place < long) place (slice_index lines place) e (slice_index (slice_set lines p (slice_index lines p + 1)) place)) there counts);
        long_as = length-set lines o.firm (slice_index lines o.firm + 1) ∙ h.long_as;
      }

  -- ---- a sweep

  abbrev Keeps : Relation
  Keeps a b = InMatch a → InMatch b

  trade-kept : (step : StepName) (s lots : ℕ) (m : MatchState) → InMatch m → InMatch (trade step s lots m)
  trade-kept step s lots m h =
      let resting = order_of s m.book.resting in
      let given = filled_by lots resting in
      let taken = taken_by lots m.taker.order in
      let number = m.desk.trades + 1 in
      let traded : MatchState = record m {
        book = book_traded s lots m.book;
        desk = record m.desk { trades = number };
        taker = record m.taker { order = taken; range = lengthened resting.price m.taker.range };
      } in
      let event = fill lots resting.price step number in
      let start : InMatch traded = record { counted = h.counted; long_as = h.long_as } in
      report-kept event (λ head o. refl) taken (report event given traded) (report-kept event (λ head o. refl) given traded start)

  keeps : IsKept Keeps
  keeps = record {
    same = λ m h. h;
    both = λ a b c f g h. g (f h);
    trades = trade-kept;
    marks = λ s k m h. record { counted = h.counted; long_as = h.long_as };
  }

  swept-kept : (steps : List Step) (limit : Price) (m : MatchState) → InMatch m → InMatch (sweep steps limit m)
  swept-kept steps limit m h = each-sweep Keeps keeps steps limit m h

  -- ---- entering

  cancelled-kept : (why : Cause) (m : MatchState) → InMatch m → InMatch (taker_cancelled why m)
  cancelled-kept why m h = report-kept (cancel_event why) (λ head o. refl) m.taker.order m h

  rested-kept : (name : ℕ) (steps : List Step) (m : MatchState) → InMatch m → InMatch (taker_rested name steps m)
  rested-kept name steps m h = record { counted = h.counted; long_as = h.long_as }

  finished-kept : (name : ℕ) (steps : List Step) (m : MatchState) → InMatch m → InMatch (finished name steps m)
  finished-kept name steps m h =
      let go : (a b : Bool) → InMatch (cond a m (cond b (taker_rested name steps m) (taker_cancelled cause.Fak m))) = elim [
        | true ↦ λ b. h
        | false ↦ elim [ true ↦ rested-kept name steps m h | false ↦ cancelled-kept cause.Fak m h ]
      ] in go (m.taker.order.leaves == 0) (may_rest m.taker.order.life)

  entered-kept : (name : ℕ) (steps : List Step) (m : MatchState) → InMatch m → InMatch (entered name steps m)
  entered-kept name steps m h =
      let price = m.taker.order.price in
      let swept = sweep steps price m in
      let go : (c : Bool) → InMatch (cond c (taker_cancelled cause.MinQty m) (finished name steps swept)) = elim [
        | true ↦ cancelled-kept cause.MinQty m h
        | false ↦ finished-kept name steps swept (swept-kept steps price m h)
      ] in go (nat_lt (open_for m) m.taker.order.min)

  -- ---- stops

  triggered-kept : (e : Entry) (m : MatchState) → InMatch m → InMatch (stop_triggered e m)
  triggered-kept e m h =
      let o = as_triggered e.order in
      let k : MatchState = record m { book = book_without e.slot m.book; taker = record { order = o; time = m.taker.time; range = None } } in
      report-kept Triggered (λ head x. refl) o k (record { counted = h.counted; long_as = h.long_as })

  stop-kept : (next : Option Entry) (name : ℕ → ℕ) (steps : List Step) (m : MatchState) → InMatch m → InMatch (stop_entered next name steps m)
  stop-kept None name steps m h = h
  stop-kept (Some e) name steps m h = entered-kept (name e.order.number) steps (stop_triggered e m) (triggered-kept e m h)

  rounds-kept : (rounds : ℕ) (naming : Naming) (steps : List Step) (m : MatchState) → InMatch m → InMatch (stop_rounds rounds naming steps m)
  rounds-kept zero naming steps m h = h
  rounds-kept (suc rounds) naming steps m h =
      let k = stop_rounds rounds naming steps m in stop-kept (next_stop k) (naming rounds) steps k (rounds-kept rounds naming steps m h)

  -- ---- an order comes in

  with-stops-kept : (naming : Naming) (steps : List Step) (m : MatchState) → InMatch m → InMatch (entered_with_stops naming steps m)
  with-stops-kept naming steps m h =
      let k = entered (naming 0 m.taker.order.number) steps m in
      rounds-kept (length k.book.waiting) (λ before. naming (before + 1)) steps k (entered-kept (naming 0 m.taker.order.number) steps m h)

  come-in-as-kept : (kind : Kind) (naming : Naming) (steps : List Step) (m : MatchState) → InMatch m → InMatch (come_in_as kind naming steps m)
  come-in-as-kept StopLimit naming steps m h = record { counted = h.counted; long_as = h.long_as }
  come-in-as-kept Limit naming steps m h = with-stops-kept naming steps m h
  come-in-as-kept Market naming steps m h = with-stops-kept naming steps m h

  pub come-in-kept : (naming : Naming) (steps : List Step) (m : MatchState) → InMatch m → InMatch (come_in naming steps m)
  come-in-kept naming steps m h = come-in-as-kept m.taker.order.kind naming steps m h
