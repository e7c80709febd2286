-- All that an order does that comes in is the same where orders are of other firms, by steps that look at no firm.
use Rattle.std.proofs.Common.{◌≡◌, ℕ, ◌+◌, Bool, true, false, cond, not, ◌&&◌, List, [], ◌∷◌, ◌++◌, map, filter, length, Option, Some, None, option_map, refl, sym, ap, subst, ◌∙◌, sum_by, suc}
use Prim.Native.Nat.{zero}
use Rattle.std.specs.Prelude.{◌==◌, nat_lt}
use Rattle.std.specs.List.{AllByRecursion}
use Rattle.std.proofs.lemmas.List.{map-append}
use Rattle.std.proofs.lemmas.List.Sums.{sum_by-cons}
use Rattle.gx_base.specs.declared.price.Price.{Price}
use Rattle.gx_base.specs.declared.order.Side.{Side}
use Rattle.gx_base.specs.declared.order.Kind.{Kind}
use Rattle.gx_base.specs.declared.order.Kind.TheVariants.{Limit, Market, StopLimit}
use Rattle.gx_base.specs.declared.order.Life.{Life}
use Rattle.gx_base.specs.declared.order.Order.{Order}
use Rattle.gx_base.specs.declared.event.Cause.{Cause}
use Rattle.gx_base.specs.declared.event.Cause.TheVariants as cause
use Rattle.gx_base.specs.declared.event.Event.{Event}
use Rattle.gx_base.specs.declared.event.Event.TheVariants.{Accepted, Triggered, Fill, Cancelled, Expired, Replaced, RefusedNew, RefusedChange, RefusedSession}
use Rattle.step_config.specs.declared.step.Step.{Step}
use Rattle.plain_book.specs.declared.entry.Entry.{Entry}
use Rattle.plain_book.specs.Orders.{is_of, is_within, is_new_best, is_best_price, open_within, opposite, side_of, stops_of, is_of_earlier_instrument, lined_up, placed, topped, with_top, without}
use Rattle.plain_book.specs.Book.{Book, first_shown, makes_top, resting_placed}
use Rattle.plain_book.specs.Match.{MatchState, lengthened}
use Rattle.plain_book.proofs.Pairs.{all-filter}
use Rattle.level_sweep.specs.Sweep.{sweep}
use Rattle.level_sweep.proofs.Resting.{rest-sweep}
use Rattle.level_sweep.proofs.Swept.{sweep-order}
use Rattle.order_kinds.specs.NewOrders.{may_rest}
use Rattle.order_kinds.specs.Entering.{as_limit, top_min_of, taker_cancelled, taker_rested, finished, open_for, entered}
use Rattle.order_kinds.specs.Stops.{by_number, fill_range_from, fill_range, is_reached_by, first_entry, first_reached, next_stop, stop_triggered, stop_entered, stop_rounds, stops_entered, entered_with_stops, taker_waiting, come_in_as, come_in}
use Rattle.market_laws.specs.Shares.{of_firm, IsBlind}
use Rattle.market_laws.specs.Firms.{Told, told, DifferInFirmsAlone, AreStopsNumbered}
use Rattle.market_laws.proofs.Proportion.{filter-firms}
use Rattle.market_laws.proofs.Firms.{by_slot, F, with_firm, best-same, side-same, without-same, placed-same, told-one, number-same, leaves-same, sweep-alike}
use Rattle.market_laws.proofs.StopsReached.{entered-waits}
use Rattle.market_laws.proofs.Outs.{next-holds}

-- ---- the range of fills that are told alike

abbrev told_range : Option (Price × Price) → List (Option Told) → Option (Price × Price)
told_range range [] = range
told_range range (Some t ∷ ts) = told_range (lengthened t.price range) ts
told_range range (None ∷ ts) = told_range range ts

range-told : (range : Option (Price × Price)) (events : List Event) → fill_range_from range events ≡ told_range range (map told events)
range-told range [] = refl
range-told range (Fill head o lots price step trade ∷ events) = range-told (lengthened price range) events
range-told range (Accepted head o ∷ events) = range-told range events
range-told range (Triggered head o ∷ events) = range-told range events
range-told range (Cancelled head o gone by why ∷ events) = range-told range events
range-told range (Expired head o gone ∷ events) = range-told range events
range-told range (Replaced head o old before ∷ events) = range-told range events
range-told range (RefusedNew head new fault ∷ events) = range-told range events
range-told range (RefusedChange head id old number filled replace fault ∷ events) = range-told range events
range-told range (RefusedSession head seq tag reason rule ∷ events) = range-told range events

module _ (firm : ℕ → ℕ) where
  abbrev moved : Entry → Entry
  moved e = of_firm (by_slot firm) e

  abbrev All : List Entry → List Entry
  All es = F firm es

  abbrev Same : MatchState → MatchState → Type 0
  Same a b = DifferInFirmsAlone firm a b

  -- ---- lists

  leaves-all : (es : List Entry) → sum_by (λ (e : Entry). e.order.leaves) (All es) ≡ sum_by (λ (e : Entry). e.order.leaves) es
  leaves-all [] = refl
  leaves-all (e ∷ es) = sum_by-cons (λ (x : Entry). x.order.leaves) (moved e) (All es) ∙ ap (λ (n : ℕ). e.order.leaves + n) (leaves-all es) ∙ sym (sum_by-cons (λ (x : Entry). x.order.leaves) e es)

  open-all : (i : ℕ) (d : Side) (limit : Price) (es : List Entry) → open_within i d limit.0 (All es) ≡ open_within i d limit.0 es
  open-all i d limit es =
      let leaves = λ (x : Entry). x.order.leaves in
      let within = λ (x : Entry). is_within d limit.0 x.order.price.0 in
      ap (λ (l : List Entry). sum_by leaves (filter within l)) (side-same firm i d es)
      ∙ ap (sum_by leaves) (filter-firms (by_slot firm) within (λ e. refl) (side_of i d es))
      ∙ leaves-all (filter within (side_of i d es))

  topped-all : (i : ℕ) (d : Side) (es : List Entry) → with_top i d None (All es) ≡ All (with_top i d None es)
  topped-all i d [] = refl
  topped-all i d (e ∷ es) = ap (λ (l : List Entry). moved (topped i d None e) ∷ l) (topped-all i d es)

  lined-all : (n : Entry) (es : List Entry) → lined_up (moved n) (All es) ≡ All (lined_up n es)
  lined-all n es =
      let p = is_of_earlier_instrument n in
      let q = λ (e : Entry). not (p e) in
      ap (λ (l : List Entry). l ++ moved n ∷ filter p (All es)) (filter-firms (by_slot firm) q (λ e. refl) es)
      ∙ ap (λ (l : List Entry). All (filter q es) ++ moved n ∷ l) (filter-firms (by_slot firm) p (λ e. refl) es)
      ∙ sym (map-append (of_firm (by_slot firm)) (filter q es) (n ∷ filter p es))

  first-all : (es : List Entry) → first_entry (All es) ≡ option_map moved (first_entry es)
  first-all [] = refl
  first-all (e ∷ es) = refl

  reached-all : (i : ℕ) (range : Option (Price × Price)) (es : List Entry) → first_reached i range (All es) ≡ option_map moved (first_reached i range es)
  reached-all i None es = refl
  reached-all i (Some range) es =
      ap (λ (l : List Entry). first_entry (filter (is_reached_by range) l)) (filter-firms (by_slot firm) (is_of i) (λ e. refl) es)
      ∙ ap first_entry (filter-firms (by_slot firm) (is_reached_by range) (λ e. refl) (stops_of i es))
      ∙ first-all (filter (is_reached_by range) (stops_of i es))

  pub length-all : (es : List Entry) → length (All es) ≡ length es
  length-all [] = refl
  length-all (e ∷ es) = ap suc (length-all es)

  -- an order comes to rest
  rest-all : (o : Order) (least : Option ℕ) (es : List Entry) → resting_placed o.number (with_firm firm (firm o.number) o) least (All es) ≡ All (resting_placed o.number o least es)
  rest-all o least es =
      let q = with_firm firm (firm o.number) o in
      let N = λ (top : Bool). let x : Entry = record { slot = o.number; order = record o { shown = first_shown o }; is_top = top } in x in
      let list : (best : Bool) → cond best (with_top o.instrument o.side None (All es)) (All es) ≡ All (cond best (with_top o.instrument o.side None es) es) = elim [ true ↦ topped-all o.instrument o.side es | false ↦ refl ] in
      let made = λ (best : Bool). placed (moved (N (best && makes_top least o.leaves))) (cond best (with_top o.instrument o.side None (All es)) (All es)) in
      let best = is_new_best o es in
      let n = N (best && makes_top least o.leaves) in
      ap (λ (p : Option Price). made (is_best_price o.side o.price.0 p)) (best-same firm o.instrument o.side es)
      ∙ ap (placed (moved n)) (list best)
      ∙ placed-same firm n (cond best (with_top o.instrument o.side None es) es)

  -- ---- an order that is entered

  module _ (a b : MatchState) (h : DifferInFirmsAlone firm a b) where
    abbrev incoming : Order
    incoming = with_firm firm (firm a.taker.order.number) a.taker.order

    order-is : b.taker.order ≡ incoming
    order-is = h.market.incoming ∙ ap (λ (f : ℕ). with_firm firm f a.taker.order) h.own

    open-same : open_for b ≡ open_for a
    open-same =
        let o = a.taker.order in
        ap (λ (x : Order). open_within x.instrument (opposite x.side) x.price.0 b.book.resting) order-is
        ∙ ap (open_within o.instrument (opposite o.side) o.price.0) h.market.resting ∙ open-all o.instrument (opposite o.side) o.price a.book.resting

    range-same : fill_range b.events ≡ fill_range a.events
    range-same = range-told None b.events ∙ ap (told_range None) h.market.fills ∙ sym (range-told None a.events)

    next-same : next_stop b ≡ option_map moved (next_stop a)
    next-same =
        let i = a.taker.order.instrument in
        ap (λ (x : Order). first_reached x.instrument (fill_range b.events) b.book.waiting) order-is
        ∙ ap (λ (r : Option (Price × Price)). first_reached i r b.book.waiting) range-same
        ∙ ap (first_reached i (fill_range a.events)) h.waiting ∙ reached-all i (fill_range a.events) a.book.waiting

    cancelled-same : (why : Cause) → Same (taker_cancelled why a) (taker_cancelled why b)
    cancelled-same why = record {
      market = record { resting = h.market.resting; incoming = h.market.incoming; fills = told-one firm b.events a.events _ _ h.market.fills refl };
      waiting = h.waiting;
      own = h.own;
    }

    rested-same : (name : ℕ) (steps : List Step) → name ≡ a.taker.order.number → Same (taker_rested name steps a) (taker_rested name steps b)
    rested-same name steps named =
        let least = top_min_of steps in
        let o = a.taker.order in
        let placed_same : resting_placed o.number (as_limit b.taker.order) least b.book.resting ≡ All (resting_placed o.number (as_limit o) least a.book.resting) =
        ap (λ (x : Order). resting_placed o.number (as_limit x) least b.book.resting) order-is
        ∙ ap (resting_placed o.number (as_limit incoming) least) h.market.resting ∙ rest-all (as_limit o) least a.book.resting in
        subst (λ (k : ℕ). Same (taker_rested k steps a) (taker_rested k steps b)) (sym named)
        (record { market = record { resting = placed_same; incoming = h.market.incoming; fills = h.market.fills }; waiting = h.waiting; own = h.own })

    waited-same : Same (taker_waiting a.taker.order.number a) (taker_waiting a.taker.order.number b)
    waited-same =
        let o = a.taker.order in
        let N = λ (x : Order). let e : Entry = record { slot = o.number; order = record x { shown = 0 }; is_top = false } in e in
        record {
          market = record { resting = h.market.resting; incoming = h.market.incoming; fills = h.market.fills };
          waiting = ap (λ (x : Order). lined_up (N x) b.book.waiting) order-is ∙ ap (lined_up (N incoming)) h.waiting ∙ lined-all (N o) a.book.waiting;
          own = h.own;
        }

    trigger-same : (e : Entry) → e.slot ≡ e.order.number → Same (stop_triggered e a) (stop_triggered (moved e) b)
    trigger-same e number = record {
      market = record {
        resting = ap (without e.slot) h.market.resting ∙ without-same firm e.slot a.book.resting;
        incoming = refl;
        fills = told-one firm b.events a.events _ _ h.market.fills refl;
      };
      waiting = ap (without e.slot) h.waiting ∙ without-same firm e.slot a.book.waiting;
      own = ap firm number;
    }

  module _ (steps : List Step) (blind : AllByRecursion IsBlind steps) where
    sweep-same : (a b : MatchState) → Same a b → Same (sweep steps a.taker.order.price a) (sweep steps b.taker.order.price b)
    sweep-same a b h =
        let limit = a.taker.order.price in
        let price : b.taker.order.price ≡ limit = ap (λ (o : Order). o.price) h.market.incoming in
        subst (λ (p : Price). Same (sweep steps limit a) (sweep steps p b)) (sym price)
        (record {
          market = sweep-alike firm steps blind limit a b h.market;
          waiting = ap (λ (x : Book). x.waiting) (rest-sweep steps limit b) ∙ h.waiting ∙ sym (ap All (ap (λ (x : Book). x.waiting) (rest-sweep steps limit a)));
          own = ap (λ (o : Order). o.firm) (sweep-order steps limit b) ∙ h.own ∙ sym (ap (λ (o : Order). firm o.number) (sweep-order steps limit a));
        })

    entered-same : (name : ℕ) (a b : MatchState) → name ≡ a.taker.order.number → Same a b → Same (entered name steps a) (entered name steps b)
    entered-same name a b named h =
        let sa = sweep steps a.taker.order.price a in
        let sb = sweep steps b.taker.order.price b in
        let s = sweep-same a b h in
        let number : name ≡ sa.taker.order.number = named ∙ sym (ap (λ (o : Order). o.number) (sweep-order steps a.taker.order.price a)) in
        let Ended = λ (c d : Bool) (m : MatchState). cond c m (cond d (taker_rested name steps m) (taker_cancelled cause.Fak m)) in
        let ended : (c d : Bool) → Same (Ended c d sa) (Ended c d sb) = elim [
          | true ↦ λ d. s
          | false ↦ elim [ true ↦ rested-same sa sb s name steps number | false ↦ cancelled-same sa sb s cause.Fak ]
        ] in
        let c = sa.taker.order.leaves == 0 in
        let leaves = leaves-same firm sa sb s.market in
        let life : sb.taker.order.life ≡ sa.taker.order.life = ap (λ (o : Order). o.life) s.market.incoming in
        let finish : Same (finished name steps sa) (finished name steps sb) =
        subst (λ (n : ℕ). Same (finished name steps sa) (Ended (n == 0) (may_rest sb.taker.order.life) sb)) (sym leaves)
        (subst (λ (l : Life). Same (finished name steps sa) (Ended c (may_rest l) sb)) (sym life) (ended c (may_rest sa.taker.order.life))) in
        let go : (few : Bool) → Same (cond few (taker_cancelled cause.MinQty a) (finished name steps sa)) (cond few (taker_cancelled cause.MinQty b) (finished name steps sb)) = elim [
          | true ↦ cancelled-same a b h cause.MinQty
          | false ↦ finish
        ] in
        let least : b.taker.order.min ≡ a.taker.order.min = ap (λ (o : Order). o.min) h.market.incoming in
        subst (λ (n : ℕ). Same (entered name steps a) (cond (nat_lt n b.taker.order.min) (taker_cancelled cause.MinQty b) (finished name steps sb))) (sym (open-same a b h))
        (subst (λ (n : ℕ). Same (entered name steps a) (cond (nat_lt (open_for a) n) (taker_cancelled cause.MinQty b) (finished name steps sb))) (sym least) (go (nat_lt (open_for a) a.taker.order.min)))

    -- ---- and the stops that it triggers

    abbrev after_stop : Option Entry → MatchState → MatchState
    after_stop next m = stop_entered next (by_number 0) steps m

    numbered-next : (next : Option Entry) (m : MatchState) → AreStopsNumbered m → AreStopsNumbered (after_stop next m)
    numbered-next None m h = h
    numbered-next (Some e) m h =
        let P = λ (x : Entry). x.slot ≡ x.order.number in
        subst (AllByRecursion P) (sym (entered-waits e.order.number steps (stop_triggered e m)).waiting) (all-filter P (λ x. not (x.slot == e.slot)) m.book.waiting h)

    stop-same : (a b : MatchState) → AreStopsNumbered a → Same a b → Same (after_stop (next_stop a) a) (after_stop (next_stop b) b)
    stop-same a b numbered h =
        let go : (next : Option Entry) → next_stop a ≡ next → Same (after_stop next a) (after_stop (option_map moved next) b) = elim [
          | None ↦ λ is. h
          | Some e ↦ λ is.
              let number = next-holds (λ (x : Entry). x.slot ≡ x.order.number) a e numbered is in
              entered-same e.order.number (stop_triggered e a) (stop_triggered (moved e) b) refl (trigger-same a b h e number)
        ] in
        subst (λ (next : Option Entry). Same (after_stop (next_stop a) a) (after_stop next b)) (sym (next-same a b h)) (go (next_stop a) refl)

    -- so many rounds
    record IsRound (a b : MatchState) : Type 0 where
      same : Same a b
      numbered : AreStopsNumbered a

    rounds-same : (n : ℕ) (a b : MatchState) → IsRound a b → IsRound (stop_rounds n by_number steps a) (stop_rounds n by_number steps b)
    rounds-same zero a b h = h
    rounds-same (suc n) a b h =
        let x = stop_rounds n by_number steps a in
        let y = stop_rounds n by_number steps b in
        let k = rounds-same n a b h in
        record { same = stop-same x y k.numbered k.same; numbered = numbered-next (next_stop x) x k.numbered }

    with-stops-same : (a b : MatchState) → AreStopsNumbered a → Same a b → Same (entered_with_stops by_number steps a) (entered_with_stops by_number steps b)
    with-stops-same a b numbered h =
        let number = number-same firm a b h.market in
        let x = entered a.taker.order.number steps a in
        let y = entered a.taker.order.number steps b in
        let first = entered-same a.taker.order.number a b refl h in
        let waits : AreStopsNumbered x = subst (AllByRecursion (λ (e : Entry). e.slot ≡ e.order.number)) (sym (entered-waits a.taker.order.number steps a).waiting) numbered in
        let many : length y.book.waiting ≡ length x.book.waiting = ap length first.waiting ∙ length-all x.book.waiting in
        let rounds = (rounds-same (length x.book.waiting) x y (record { same = first; numbered = waits })).same in
        let End = stop_rounds (length x.book.waiting) by_number steps x in
        subst (λ (k : ℕ). Same End (stops_entered by_number steps (entered k steps b))) (sym number)
        (subst (λ (n : ℕ). Same End (stop_rounds n by_number steps y)) (sym many) rounds)

    pub come-in-same : (a b : MatchState) → AreStopsNumbered a → Same a b → Same (come_in by_number steps a) (come_in by_number steps b)
    come-in-same a b numbered h =
        let entered_same = with-stops-same a b numbered h in
        let number = number-same firm a b h.market in
        let waits : Same (taker_waiting a.taker.order.number a) (taker_waiting b.taker.order.number b) =
        subst (λ (k : ℕ). Same (taker_waiting a.taker.order.number a) (taker_waiting k b)) (sym number) (waited-same a b h) in
        let go : (kind : Kind) → Same (come_in_as kind by_number steps a) (come_in_as kind by_number steps b) = elim [
          | Limit ↦ entered_same
          | Market ↦ entered_same
          | StopLimit ↦ waits
        ] in
        let kind : b.taker.order.kind ≡ a.taker.order.kind = ap (λ (o : Order). o.kind) h.market.incoming in
        subst (λ (k : Kind). Same (come_in by_number steps a) (come_in_as k by_number steps b)) (sym kind) (go a.taker.order.kind)
