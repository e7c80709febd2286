-- An order that comes in does right acts: its sweep, and then it rests or is cancelled, and so does each stop that it triggers.
use Rattle.std.proofs.Common.{◌≡◌, ◌≢◌, ℕ, ◌+◌, ◌≤◌, Bool, true, false, cond, ◌&&◌, List, [], ◌∷◌, ◌++◌, length, Option, Some, None, is_some, slice_get, refl, sym, ap, subst, ◌∙◌, arith, inl, inr, sum_by}
use Prim.Native.Nat.{zero, suc}
use Rattle.std.specs.Prelude.{◌==◌, nat_lt}
use Rattle.std.proofs.lemmas.Bool.Decides.{eqb_tells, nat_tests}
use Rattle.gx_base.specs.declared.price.Price.{Price}
use Rattle.gx_base.specs.declared.order.Kind.{Kind}
use Rattle.gx_base.specs.declared.order.Kind.TheVariants.{Limit, Market, StopLimit}
use Rattle.gx_base.specs.declared.order.Life.{Life}
use Rattle.gx_base.specs.declared.order.Life.TheVariants.{Day, Gtc, Fak, Fok}
use Rattle.gx_base.specs.declared.order.Side.{Side}
use Rattle.gx_base.specs.declared.order.Order.{Order}
use Rattle.gx_base.specs.declared.event.Event.{Event}
use Rattle.gx_base.specs.declared.event.Cause.TheVariants as cause
use Rattle.step_config.specs.declared.step.Step.{Step}
use Rattle.step_config.specs.RightSteps.{AreRightSteps}
use Rattle.step_config.specs.Rules.{top_rule_of}
use Rattle.product_file.specs.Products.{ProductLists, IsRightProduct}
use Rattle.plain_book.specs.declared.entry.Entry.{Entry}
use Rattle.plain_book.specs.Orders.{HasSlot, opposite, is_side, order_of}
use Rattle.plain_book.specs.Book.{Book, live_orders, AllDiffer, IsRight, IsWaiting}
use Rattle.plain_book.specs.Match.{MatchState}
use Rattle.plain_book.proofs.Levels.{AllDiffer-front, AllDiffer-back, HasSlot-left, same, is_side-refl}
use Rattle.plain_book.proofs.Pairs.{all-with, all-front}
use Rattle.plain_book.proofs.Live.{fit_of, orders-at}
use Rattle.level_sweep.specs.Sweep.{within_limit, facing_best, sweep}
use Rattle.level_sweep.proofs.Showing.{showing-right}
use Rattle.level_sweep.proofs.Swept.{sweep-order}
use Rattle.engine_laws.proofs.Done.{sweep-done}
use Rattle.order_kinds.specs.NewOrders.{may_rest}
use Rattle.order_kinds.specs.Entering.{as_limit, top_min_of, taker_cancelled, taker_rested, finished, open_for, entered}
use Rattle.order_kinds.specs.Stops.{Naming, fill_range, next_stop, stop_triggered, stop_entered, stop_rounds, entered_with_stops, taker_waiting, come_in_as, come_in}
use Rattle.engine_laws.proofs.Entered.{marked-stands, NamesByNumber}
use Rattle.book_image.specs.Rules.{is_right_min}
use Rattle.product_file.specs.Products.{has_top_by}
use Rattle.image_laws.specs.Right.{IsRightStop}
use Rattle.image_laws.proofs.Matching as matching
use Rattle.image_laws.proofs.Matching.{IsMatching, IsEntering, IsAtRest, entered-kept}
use Rattle.image_laws.proofs.Arriving.{IsIncoming, marked-on, triggered-kept}
use Rattle.engine_laws.proofs.KeptByTrades.{IsKeptByTrades, kept-swept}
use Rattle.market_laws.specs.Acts.{Act, after, after_acts, EachAct}
use Rattle.market_laws.specs.Acts.Act.{trades, notes, rests, cancels, waits, triggers}
use Rattle.market_laws.specs.Trades.{IsFair}
use Rattle.market_laws.specs.RightActs.{IsAllOrNothing, IsNoted}
use Rattle.image_laws.proofs.Orders.{IsOther, others-lack}
use Rattle.market_laws.proofs.NewTops.{top-by-price}
use Rattle.market_laws.proofs.Sound.{IsByNumber, IsSoundBook, IsSound, number-at, held-sound}
use Rattle.market_laws.proofs.Chains.{Leads, leads-by, leads-then, each-with}
use Rattle.market_laws.proofs.Sweeps.{SweepLaw, sweep-leads}
use Rattle.market_laws.proofs.Sums.{weight-traded, weight-marked}
use Rattle.market_laws.proofs.FirmSums.{own_part, book_open, part-none, adds-same, AddsComing, AddsIn, trade-adds, note-adds, cancel-adds, rest-adds, wait-adds, trigger-adds}
use Rattle.market_laws.proofs.Open.{counts, weight, open-weight, none-open}

-- ---- the acts of a sweep

abbrev SweepAct : Act → MatchState → Type 0
SweepAct (trades step slot lots) m = IsFair (record { before = m; step = step; slot = slot; lots = lots }) × IsSoundBook m.book
SweepAct (notes slot lots) m = IsNoted slot m × IsSoundBook m.book
SweepAct (rests steps) m = ⊥
SweepAct (cancels why) m = ⊥
SweepAct waits m = ⊥
SweepAct (triggers stop) m = ⊥

right-act : (act : Act) (m : MatchState) → SweepAct act m → IsSound act m
right-act (trades step slot lots) m h = record { is = h.0; book = h.1 }
right-act (notes slot lots) m h = record { is = h.0; book = h.1 }
right-act (rests steps) m h = absurd h
right-act (cancels why) m h = absurd h
right-act waits m h = absurd h
right-act (triggers stop) m h = absurd h

-- what is open for the incoming order
abbrev open_now : MatchState → ℕ
open_now m = sum_by (weight m.taker.order.instrument (opposite m.taker.order.side) m.taker.order.price) m.book.resting

counted : (i j : ℕ) (s d : Side) (w : Bool) → i ≡ j → s ≡ d → w ≡ true → (((i == j) && is_side s d) && w) ≡ true
counted i j s d w a b c =
    ap (λ (x : Bool). ((i == j) && is_side s d) && x) c
    ∙ ap (λ (k : ℕ). ((k == j) && is_side s d) && true) a
    ∙ ap (λ (t : Side). ((j == j) && is_side t d) && true) b
    ∙ ap (λ (x : Bool). (x && is_side d d) && true) (same j)
    ∙ ap (λ (x : Bool). x && true) (is_side-refl d)

front-differ : (b : Book) → IsRight b → AllDiffer b.resting
front-differ b r = AllDiffer-front b.resting b.waiting r.differ

-- what it trades is no more open
sweep-takes : (acts : List Act) (m : MatchState) → EachAct SweepAct acts m → let end = after_acts acts m in open_now end + end.taker.order.filled ≡ open_now m + m.taker.order.filled
sweep-takes [] m h = refl
sweep-takes (trades step s n ∷ acts) m h =
    let t = h.0.0 in
    let o = m.taker.order in
    let es = m.book.resting in
    let rested = fit_of m.book.instruments s es h.0.1.right.rest t.fit.rests in
    let c : counts o.instrument (opposite o.side) o.price (order_of s es) ≡ true = counted _ _ _ _ _ t.fit.instrument t.fit.side t.limit in
    let one = weight-traded (counts o.instrument (opposite o.side) o.price) (λ x filled leaves shown. refl) s n es (front-differ m.book h.0.1.right) t.fit.rests (omega (arith, t.fit.shown, rested.within)) in
    omega (arith, sweep-takes acts (after (trades step s n) m) h.1, one, ap (λ (x : Bool). cond x n 0) c)
sweep-takes (notes s n ∷ acts) m h =
    let o = m.taker.order in
    sweep-takes acts (after (notes s n) m) h.1
    ∙ ap (λ (k : ℕ). k + o.filled) (weight-marked (counts o.instrument (opposite o.side) o.price) (λ x k. refl) s n m.book.resting (front-differ m.book h.0.1.right) h.0.0.rests)
sweep-takes (rests steps ∷ acts) m h = absurd h.0
sweep-takes (cancels why ∷ acts) m h = absurd h.0
sweep-takes (waits ∷ acts) m h = absurd h.0
sweep-takes (triggers stop ∷ acts) m h = absurd h.0

-- and a firm's balance holds after it as before
sweep-adds : (firm : ℕ) (told : List Event) (acts : List Act) (m : MatchState) → EachAct SweepAct acts m → AddsComing firm told m → AddsComing firm told (after_acts acts m)
sweep-adds firm told [] m h k = k
sweep-adds firm told (trades step s n ∷ acts) m h k = sweep-adds firm told acts (after (trades step s n) m) h.1 (trade-adds firm told step s n m h.0.0.fit h.0.1.right k)
sweep-adds firm told (notes s n ∷ acts) m h k = sweep-adds firm told acts (after (notes s n) m) h.1 (note-adds firm told s n m h.0.0.rests h.0.1.right k)
sweep-adds firm told (rests steps ∷ acts) m h k = absurd h.0
sweep-adds firm told (cancels why ∷ acts) m h k = absurd h.0
sweep-adds firm told (waits ∷ acts) m h k = absurd h.0
sweep-adds firm told (triggers stop ∷ acts) m h k = absurd h.0

-- ---- an order that is entered

-- An order that has a minimum has traded nothing yet, and that of a FOK order is all of it.
pub record IsAsked (o : Order) : Type 0 where
  pub unfilled : 1 ≤ o.min → o.filled ≡ 0
  pub whole : o.life ≡ Fok → o.min ≡ o.leaves

not-less : (a b : ℕ) → nat_lt a b ≡ false → b ≤ a
not-less a b h = grind (arith, nat_tests)

less : (a b : ℕ) → nat_lt a b ≡ true → 1 ≤ b
less a b h = grind (arith, nat_tests)

module _ (product : ProductLists) (sent count before instrument : ℕ) where
  -- an order that is no stop is matched
  record Matching (m : MatchState) : Type 0 where
    matched : IsMatching product sent count before instrument m
    no_stop : m.taker.order.kind ≢ StopLimit

  kept : IsKeptByTrades Matching
  kept =
      let k = matching.kept product sent count before instrument in
      record {
        differ = λ m h. k.differ m h.matched;
        showing = λ m h. k.showing m h.matched;
        trades = λ step s n m has shown meets wanted h. record { matched = k.trades step s n m has shown meets wanted h.matched; no_stop = h.no_stop };
        marks = λ s n m has shown h. record { matched = k.marks s n m has shown h.matched; no_stop = h.no_stop };
      }

  law : SweepLaw Matching SweepAct
  law = record {
    kept = kept;
    right = λ m h. h.matched.held.book;
    other = λ s m has h same.
        (let b = m.book in
        let number : (order_of s b.resting).number ≡ s = number-at s b.resting (all-front IsByNumber b.resting b.waiting (held-sound product count b h.matched.held).numbered) has in
        others-lack m.taker.order.number (live_orders b) h.matched.coming.fresh (subst (λ (k : ℕ). HasSlot k (live_orders b)) (sym number ∙ same) (HasSlot-left s b.resting b.waiting has)));
    no_stop = λ m h. h.no_stop;
    fair = λ step s n m h fair. (fair, held-sound product count m.book h.matched.held);
    noted = λ s n m has on h. (record { rests = has; instrument = on }, held-sound product count m.book h.matched.held);
  }

  module _ (steps : List Step) (right : AreRightSteps steps) where
    -- a sweep that leaves lots wanted has taken all that was open
    sweep-all : (m : MatchState) → Matching m → let end = sweep steps m.taker.order.price m in end.taker.order.leaves ≢ 0 → end.taker.order.filled ≡ open_for m + m.taker.order.filled
    sweep-all m h left =
        let o = m.taker.order in
        let end = sweep steps o.price m in
        let now = end.taker.order in
        let l = sweep-leads Matching SweepAct law steps right.each m h in
        let after = kept-swept Matching kept steps o.price right.each m h in
        let order = sweep-order steps o.price m in
        let done = sweep-done steps o.price right.fifo_last m (showing-right m.book h.matched.held.book) in
        let d = opposite now.side in
        let within : within_limit d o.price (facing_best end.book end.taker) ≡ None = elim (eqb_tells now.leaves 0) [
          | inl z ↦ absurd (left z.1)
          | inr z ↦ sym (ap (λ (c : Bool). cond c None (within_limit d o.price (facing_best end.book end.taker))) z.0) ∙ done
        ] in
        let price : now.price ≡ o.price = ap (λ (x : Order). x.price) order in
        let none : sum_by (weight now.instrument d now.price) end.book.resting ≡ 0 =
        none-open now.instrument d now.price now end.book.resting after.matched.held.book.ordered (ap (λ (p : Price). within_limit d p (facing_best end.book end.taker)) price ∙ within) in
        let takes : open_now end + now.filled ≡ open_now m + o.filled = subst (λ (x : MatchState). open_now x + x.taker.order.filled ≡ open_now m + o.filled) l.end (sweep-takes l.acts m l.each) in
        let counted_as : open_for m ≡ open_now m = open-weight o.instrument (opposite o.side) o.price m.book.resting in
        omega (arith, none, takes, counted_as)

    sweep-right : (m : MatchState) → Matching m → Leads IsSound m (sweep steps m.taker.order.price m)
    sweep-right m h =
        let l = sweep-leads Matching SweepAct law steps right.each m h in
        record { acts = l.acts; end = l.end; each = each-with SweepAct IsSound right-act l.acts m l.each }

    -- what is cancelled by the engine is all or nothing
    cancelled-nothing : (m : MatchState) → IsAsked m.taker.order → nat_lt (open_for m) m.taker.order.min ≡ true → IsAllOrNothing m.taker.order
    cancelled-nothing m asked few = let none = asked.unfilled (less (open_for m) m.taker.order.min few) in record { minimum = inl none; fok = λ fok. none }

    cancelled-rest : (m : MatchState) → Matching m → IsAsked m.taker.order → nat_lt (open_for m) m.taker.order.min ≡ false → (sweep steps m.taker.order.price m).taker.order.leaves ≢ 0
        → IsAllOrNothing (sweep steps m.taker.order.price m).taker.order
    cancelled-rest m h asked enough left =
        let o = m.taker.order in
        let now = (sweep steps o.price m).taker.order in
        let order = sweep-order steps o.price m in
        let after = kept-swept Matching kept steps o.price right.each m h in
        let all = sweep-all m h left in
        let min : now.min ≡ o.min = ap (λ (x : Order). x.min) order in
        let life : now.life ≡ o.life = ap (λ (x : Order). x.life) order in
        let quantity : now.quantity ≡ o.quantity = ap (λ (x : Order). x.quantity) order in
        let most = not-less (open_for m) o.min enough in
        record {
          minimum = inr (omega (arith, all, min, most));
          fok = λ fok. absurd (let whole = asked.whole (sym life ∙ fok) in omega (arith, all, most, whole, h.matched.coming.whole, after.matched.coming.whole, quantity, left));
        }

    entered-leads : (name : ℕ) (m : MatchState) → name ≡ m.taker.order.number → Matching m → IsAsked m.taker.order → Leads IsSound m (entered name steps m)
    entered-leads name m named h asked =
        let limit = m.taker.order.price in
        let swept = sweep steps limit m in
        let o = swept.taker.order in
        let first = sweep-right m h in
        let after = kept-swept Matching kept steps limit right.each m h in
        let number : o.number ≡ name = ap (λ (x : Order). x.number) (sweep-order steps limit m) ∙ sym named in
        let By = λ (a b : Bool). Leads IsSound m (cond a swept (cond b (taker_rested name steps swept) (taker_cancelled cause.Fak swept))) in
        let rested : o.leaves ≢ 0 → may_rest o.life ≡ true → Leads IsSound m (taker_rested name steps swept) = λ some may.
        leads-then IsSound m swept (taker_rested name steps swept) first
        (subst (λ (k : ℕ). Leads IsSound swept (taker_rested k steps swept)) number (leads-by IsSound (rests steps) swept (record { is = record { open_lots = omega (arith, some); life = may; top = λ is. top-by-price o.number (as_limit o) (top_min_of steps) swept.book.resting after.matched.held.book.ordered (all-front (IsOther o.number) swept.book.resting swept.book.waiting after.matched.coming.fresh) is }; book = held-sound product count swept.book after.matched.held }))) in
        let by_life : nat_lt (open_for m) m.taker.order.min ≡ false → o.leaves ≢ 0 → (b : Bool) → may_rest o.life ≡ b → By false b = λ enough some. elim [
          | true ↦ λ may. rested some may
          | false ↦ λ may. leads-then IsSound m swept (taker_cancelled cause.Fak swept) first (leads-by IsSound (cancels cause.Fak) swept (record { is = cancelled-rest m h asked enough some; book = held-sound product count swept.book after.matched.held }))
        ] in
        let end : nat_lt (open_for m) m.taker.order.min ≡ false → Leads IsSound m (finished name steps swept) = λ enough. elim (eqb_tells o.leaves 0) [
          | inl t ↦ subst (λ (a : Bool). By a (may_rest o.life)) (sym t.0) first
          | inr t ↦ subst (λ (a : Bool). By a (may_rest o.life)) (sym t.0) (by_life enough t.1 (may_rest o.life) refl)
        ] in
        let go : (c : Bool) → nat_lt (open_for m) m.taker.order.min ≡ c → Leads IsSound m (cond c (taker_cancelled cause.MinQty m) (finished name steps swept)) = elim [
          | true ↦ λ few. leads-by IsSound (cancels cause.MinQty) m (record { is = cancelled-nothing m asked few; book = held-sound product count m.book h.matched.held })
          | false ↦ λ enough. end enough
        ] in go (nat_lt (open_for m) m.taker.order.min) refl

    entered-adds : (firm : ℕ) (told : List Event) (name : ℕ) (m : MatchState) → Matching m → AddsComing firm told m → AddsIn firm told (entered name steps m)
    entered-adds firm told name m h k =
        let limit = m.taker.order.price in
        let swept = sweep steps limit m in
        let o = swept.taker.order in
        let l = sweep-leads Matching SweepAct law steps right.each m h in
        let after : AddsComing firm told swept = subst (AddsComing firm told) l.end (sweep-adds firm told l.acts m l.each k) in
        let By = λ (a b : Bool). AddsIn firm told (cond a swept (cond b (taker_rested name steps swept) (taker_cancelled cause.Fak swept))) in
        let by_life : (b : Bool) → By false b = elim [ true ↦ rest-adds firm told name steps swept after | false ↦ cancel-adds firm told cause.Fak swept after ] in
        let end : AddsIn firm told (finished name steps swept) = elim (eqb_tells o.leaves 0) [
          | inl t ↦
              let whole : book_open firm swept.book + own_part firm o o.leaves ≡ book_open firm swept.book = omega (arith, ap (own_part firm o) t.1, part-none firm o) in
              subst (λ (a : Bool). By a (may_rest o.life)) (sym t.0) (adds-same firm (told ++ swept.events) _ _ whole after)
          | inr t ↦ subst (λ (a : Bool). By a (may_rest o.life)) (sym t.0) (by_life (may_rest o.life))
        ] in
        let go : (c : Bool) → AddsIn firm told (cond c (taker_cancelled cause.MinQty m) (finished name steps swept)) = elim [
          | true ↦ cancel-adds firm told cause.MinQty m k
          | false ↦ end
        ] in go (nat_lt (open_for m) m.taker.order.min)

  -- ---- and the stops that it triggers

  right-asked : (life : Life) (o : Order) → is_right_min life o ≡ true → o.leaves ≡ o.quantity → life ≡ Fok → o.min ≡ o.leaves
  right-asked Day o h all is = absurd (let k : Day ≡ Fok = is in cc)
  right-asked Gtc o h all is = absurd (let k : Gtc ≡ Fok = is in cc)
  right-asked Fak o h all is = absurd (let k : Fak ≡ Fok = is in cc)
  right-asked Fok o h all is = grind (arith, nat_tests)

  module _ (product_right : IsRightProduct product) (steps : List Step) (right : AreRightSteps steps) (favors : is_some (top_rule_of steps) ≡ true → has_top_by (slice_get product.rules instrument) ≡ true) where
    -- right acts lead to a state in which no order comes in
    record Comes (m end : MatchState) : Type 0 where
      leads : Leads IsSound m end
      at_rest : IsAtRest product sent count before instrument end
      adds : (firm : ℕ) (told : List Event) → AddsComing firm told m → AddsIn firm told end

    entered-comes : (name : ℕ) (m : MatchState) → name ≡ m.taker.order.number → IsEntering product sent count before instrument m → m.taker.order.kind ≢ StopLimit → IsAsked m.taker.order → Comes m (entered name steps m)
    entered-comes name m named h no_stop asked = record {
      leads = entered-leads steps right name m named (record { matched = h.matching; no_stop = no_stop }) asked;
      at_rest = entered-kept product sent count before instrument product_right steps right favors name m named h;
      adds = λ firm told k. entered-adds steps right firm told name m (record { matched = h.matching; no_stop = no_stop }) k;
    }

    stop-comes : (name : ℕ → ℕ) (a m : MatchState) → ((number : ℕ) → name number ≡ number) → (next : Option Entry) → next_stop m ≡ next → Comes a m → Comes a (stop_entered next name steps m)
    stop-comes name a m named None is h = h
    stop-comes name a m named (Some e) is h =
        let b = m.book in
        let held = h.at_rest.held in
        let stands = marked-stands m.taker.order.instrument (fill_range m.events) b.waiting e (AllDiffer-back b.resting b.waiting held.book.differ) is in
        let on = marked-on m.taker.order.instrument (fill_range m.events) b.waiting e is ∙ h.at_rest.on in
        let start = stop_triggered e m in
        let w : IsWaiting b.instruments e.order = subst (IsWaiting b.instruments) stands.is (orders-at (IsWaiting b.instruments) e.slot b.waiting held.book.wait stands.has) in
        let least : is_right_min e.order.life e.order ≡ true =
        subst (λ (o : Order). is_right_min o.life o ≡ true) stands.is
        (orders-at (λ (o : Order). is_right_min o.life o ≡ true) e.slot b.waiting (all-with (IsRightStop product) (λ (x : Entry). is_right_min x.order.life x.order ≡ true) (λ x r. r.min) b.waiting held.stops) stands.has) in
        let asked : IsAsked start.taker.order = record { unfilled = λ some. w.fit.unfilled; whole = λ fok. right-asked e.order.life e.order least w.fit.whole fok } in
        let entering = triggered-kept product sent count before instrument e m stands on h.at_rest in
        let end = entered (name e.order.number) steps start in
        let k = entered-comes (name e.order.number) start (named e.order.number) entering (λ k. (let f : Limit ≡ StopLimit = k in cc)) asked in
        record {
          leads = leads-then IsSound a m end h.leads (leads-then IsSound m start end (leads-by IsSound (triggers e) m (record { is = is; book = held-sound product count b held })) k.leads);
          at_rest = k.at_rest;
          adds = λ firm told q. k.adds firm told (trigger-adds firm told e m stands held.book.differ (h.adds firm told q));
        }

    -- what an order does that comes in
    pub record ComesIn (m end : MatchState) : Type 0 where
      pub leads : Leads IsSound m end
      pub adds : (firm : ℕ) (told : List Event) → AddsComing firm told m → AddsIn firm told end

    rounds-come : (n : ℕ) (naming : Naming) (a m : MatchState) → NamesByNumber naming → Comes a m → Comes a (stop_rounds n naming steps m)
    rounds-come zero naming a m named h = h
    rounds-come (suc n) naming a m named h =
        let k = stop_rounds n naming steps m in stop-comes (naming n) a k (λ number. named n number) (next_stop k) refl (rounds-come n naming a m named h)

    with-stops-come : (naming : Naming) (m : MatchState) → NamesByNumber naming → m.taker.order.kind ≢ StopLimit → IsIncoming product sent count before instrument m → IsAsked m.taker.order → ComesIn m (entered_with_stops naming steps m)
    with-stops-come naming m named enters h asked =
        let o = m.taker.order in
        let k = entered (naming 0 o.number) steps m in
        let first : Comes m k = entered-comes (naming 0 o.number) m (named 0 o.number)
        (record { matching = record { held = h.held; coming = h.coming; no_trigger = h.enters enters; told = h.told }; uncrossed = h.uncrossed; room = h.room }) enters asked in
        let all = rounds-come (length k.book.waiting) (λ n. naming (n + 1)) m k (λ n number. named (n + 1) number) first in
        record { leads = all.leads; adds = all.adds }

    come-in-as-leads : (kind : Kind) (naming : Naming) (m : MatchState) → m.taker.order.kind ≡ kind → NamesByNumber naming → IsIncoming product sent count before instrument m → IsAsked m.taker.order → ComesIn m (come_in_as kind naming steps m)
    come-in-as-leads StopLimit naming m is named h asked =
        subst (λ (k : ℕ). ComesIn m (taker_waiting k m)) (sym (named 0 m.taker.order.number))
        (record { leads = leads-by IsSound waits m (record { is = is; book = held-sound product count m.book h.held }); adds = λ firm told k. wait-adds firm told m.taker.order.number m k })
    come-in-as-leads Limit naming m is named h asked = with-stops-come naming m named (λ stops. absurd (let k : Limit ≡ StopLimit = sym is ∙ stops in cc)) h asked
    come-in-as-leads Market naming m is named h asked = with-stops-come naming m named (λ stops. absurd (let k : Market ≡ StopLimit = sym is ∙ stops in cc)) h asked

    pub come-in-leads : (naming : Naming) (m : MatchState) → NamesByNumber naming → IsIncoming product sent count before instrument m → IsAsked m.taker.order → ComesIn m (come_in naming steps m)
    come-in-leads naming m named h asked = come-in-as-leads m.taker.order.kind naming m refl named h asked
