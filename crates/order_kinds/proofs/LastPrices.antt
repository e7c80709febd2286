-- The last trade price of an order that is entered is an end of its price range: prices of a sweep never improve.
use Rattle.std.proofs.Common.{◌≡◌, ◌≢◌, ℕ, ◌+◌, Bool, true, false, cond, List, [], ◌∷◌, ◌++◌, filter, Option, Some, None, refl, sym, ap, subst, ◌∙◌, inl, inr}
use Prim.Native.Nat.{zero, suc}
use Rattle.std.specs.Prelude.{◌==◌, ◌≤◌, min, nat_lt}
use Rattle.std.specs.List.{AllByRecursion}
use Rattle.std.proofs.lemmas.Bool.Decides.{eqb_tells}
use Rattle.gx_base.specs.declared.price.Price.{Price}
use Rattle.gx_base.specs.declared.order.Side.{Side}
use Rattle.gx_base.specs.declared.order.Order.{Order}
use Rattle.gx_base.specs.declared.order.Taker.{Taker}
use Rattle.gx_base.specs.declared.event.Event.{Event}
use Rattle.gx_base.specs.declared.event.Event.TheVariants.{Fill}
use Rattle.gx_base.specs.declared.event.Head.{Head}
use Rattle.gx_base.specs.declared.event.Cause.{Cause}
use Rattle.gx_base.specs.declared.event.Cause.TheVariants as cause
use Rattle.gx_base.specs.declared.event.StepName.{StepName}
use Rattle.gx_base.specs.declared.event.StepName.TheVariants as name
use Rattle.step_config.specs.declared.step.Step.{Step}
use Rattle.step_config.specs.declared.step.Step.TheVariants.{Top, Lmm, Split, ProRata, Leveling, Fifo}
use Rattle.step_config.specs.RightSteps.{IsRightStep, AreRightSteps}
use Rattle.plain_book.specs.declared.entry.Entry.{Entry}
use Rattle.plain_book.specs.Orders.{Level, level_of, opposite, is_on, is_at, is_better, is_within, side_of, price_of, best_of, top_of, HasSlot, order_of, filled_by}
use Rattle.plain_book.specs.Book.{Book, IsRight, AllDiffer}
use Rattle.plain_book.specs.Match.{MatchState, Share, next_head, report, fill, taken_by, lengthened, trade, is_prorata, book_share_noted, share_noted, trade_share, trade_shares}
use Rattle.plain_book.specs.Steps.{facing, level_now, trade_head, fifo_rounds, prorata_shares, top_shares, lmm_shares, split_shares, leveling_shares}
use Rattle.plain_book.proofs.Levels.{HasSlot-filter, AllDiffer-filter, is_level-same}
use Rattle.plain_book.proofs.Walks.{HasSlot-with_order}
use Rattle.plain_book.proofs.Pairs.{all-with, all-both, all-filter, all-from}
use Rattle.plain_book.proofs.Tops.{best-is-best}
use Rattle.level_sweep.specs.Sweep.{after_step, wanted_step, level_match, facing_best, within_limit, next_price, match_next, sweep_rounds, sweep}
use Rattle.level_sweep.proofs.EachTrade.{each-marked, each-share}
use Rattle.level_sweep.proofs.EachOrder.{StaysTrue, AllStay, all-kept}
use Rattle.level_sweep.proofs.Showing.{IsShowing, AreShowing, ShowingStays, showing-kept, showing-right}
use Rattle.level_sweep.proofs.SlotsKept.{HasSlot-settled}
use Rattle.level_sweep.proofs.StepShares.{AreApart, IsGiven, AreOf, AllShow, spent-of, top-of, lmm-of, prorata-of, leveling-of}
use Rattle.order_kinds.specs.NewOrders.{may_rest}
use Rattle.order_kinds.specs.Entering.{cancel_event, taker_cancelled, taker_rested, finished, open_for, entered, last_fill_from, last_fill}
use Rattle.order_kinds.specs.Inner.Taking.{last_in_range}
use Rattle.order_kinds.proofs.PriceRanges.{traded_at, price-same, IsEnd, end-first, end-next, end-again, end-none}

-- ---- the price of the last fill

last-of-fill : (last : Option Price) (es : List Event) (h : Head) (o : Order) (lots : ℕ) (price : Price) (step : StepName) (number : ℕ) → last_fill_from last (es ++ Fill h o lots price step number ∷ []) ≡ Some price
last-of-fill last [] h o lots price step number = refl
last-of-fill last (Fill h' o' lots' price' step' number' ∷ es) h o lots price step number = last-of-fill (Some price') es h o lots price step number
last-of-fill last (_ ∷ es) h o lots price step number = last-of-fill last es h o lots price step number

last-reported : (lots : ℕ) (price : Price) (step : StepName) (number : ℕ) (o : Order) (m : MatchState) → last_fill (report (fill lots price step number) o m).events ≡ Some price
last-reported lots price step number o m = last-of-fill None m.events (next_head m.desk o.firm m.taker.time) o lots price step number

last-cancelled : (last : Option Price) (es : List Event) (why : Cause) (h : Head) (o : Order) → last_fill_from last (es ++ cancel_event why h o ∷ []) ≡ last_fill_from last es
last-cancelled last [] why h o = refl
last-cancelled last (Fill h' o' lots' price' step' number' ∷ es) why h o = last-cancelled (Some price') es why h o
last-cancelled last (_ ∷ es) why h o = last-cancelled last es why h o

-- ---- the orders of a slot

-- an order of this slot has this price
abbrev HasPrice : ℕ → Price → Entry → Type 0
HasPrice s p e = e.slot ≡ s → e.order.price ≡ p

price-stays : (s : ℕ) (p : Price) → StaysTrue (HasPrice s p)
price-stays s p = record {
  fills = λ n e x h q is some k. h (sym is ∙ k);
  refreshes = λ n e h some none. h;
  marks = λ n e x h q is k. h (sym is ∙ k);
}

-- there is an order of this slot, at this price
record StandsAt (s : ℕ) (p : Price) (es : List Entry) : Type 0 where
  has : HasSlot s es
  price : AllByRecursion (HasPrice s p) es

stands-price : (s : ℕ) (p : Price) (es : List Entry) → HasSlot s es → AllByRecursion (HasPrice s p) es → (order_of s es).price ≡ p
stands-price s p [] h a = absurd h
stands-price s p (e ∷ es) h a = elim (eqb_tells e.slot s) [
  | inl t ↦ ap (λ (b : Bool). (cond b e.order (order_of s es)).price) t.0 ∙ a.0 t.1
  | inr t ↦ ap (λ (b : Bool). (cond b e.order (order_of s es)).price) t.0 ∙ stands-price s p es (elim h [ inl x ↦ absurd (t.1 x) | inr x ↦ x ]) a.1
]

none-has : (s : ℕ) (p : Price) (es : List Entry) → (HasSlot s es → ⊥) → AllByRecursion (HasPrice s p) es
none-has s p [] h = tt
none-has s p (e ∷ es) h = ((λ is. absurd (h (inl is))), none-has s p es (λ k. h (inr k)))

level-has : (k : Level) (s : ℕ) (p : Price) (es : List Entry) → k.price ≡ p.0 → AllDiffer es → HasSlot s (filter (is_at k) es) → AllByRecursion (HasPrice s p) es
level-has k s p [] is d h = tt
level-has k s p (e ∷ es) is d h =
    let F = filter (is_at k) es in
    let later : HasSlot s F → AllByRecursion (HasPrice s p) (e ∷ es) = λ more.
    ((λ same. absurd (d.0 (subst (λ (n : ℕ). HasSlot n es) (sym same) (HasSlot-filter (is_at k) s es more)))), level-has k s p es is d.1 more) in
    let go : (b : Bool) → is_at k e ≡ b → HasSlot s (cond b (e ∷ F) F) → AllByRecursion (HasPrice s p) (e ∷ es) = elim [
      | true ↦ λ at h. elim h [
        | inl same ↦ (
          (λ _. price-same e.order.price p (ap (λ (l : Level). l.price) (is_level-same (level_of e.order) k at) ∙ is)),
          none-has s p es (λ more. d.0 (subst (λ (n : ℕ). HasSlot n es) (sym same) more)),
        )
        | inr more ↦ later more
      ]
      | false ↦ λ off h. later h
    ] in go (is_at k e) refl h

-- each order of a level stands at its price
level-stands : (k : Level) (s : ℕ) (p : Price) (es : List Entry) → k.price ≡ p.0 → AllDiffer es → HasSlot s (filter (is_at k) es) → StandsAt s p es
level-stands k s p es is d h = record { has = HasSlot-filter (is_at k) s es h; price = level-has k s p es is d h }

-- ---- another order stays

has-marked : (step : StepName) (t s n : ℕ) (m : MatchState) → HasSlot t m.book.resting → HasSlot t (share_noted step s n m).book.resting
has-marked step t s n m h =
    let go : (c : Bool) → HasSlot t (cond c (book_share_noted s n m.book) m.book).resting = elim [
      | true ↦ HasSlot-with_order s t (record (order_of s m.book.resting) { prorated = n }) m.book.resting h
      | false ↦ h
    ] in go (is_prorata step)

has-share : (step : StepName) (t s n : ℕ) (m : MatchState) → t ≢ s → HasSlot t m.book.resting → HasSlot t (trade_share step s n m).book.resting
has-share step t s n m other h =
    let k = share_noted step s n m in
    let here = has-marked step t s n m h in
    let go : (c : Bool) → HasSlot t (cond c k (trade step s n k)).book.resting = elim [
      | true ↦ here
      | false ↦ HasSlot-settled t s (filled_by n (order_of s k.book.resting)) k.book.resting other here
    ] in go (n == 0)

stands-marked : (step : StepName) (t s n : ℕ) (p : Price) (m : MatchState) → StandsAt t p m.book.resting → StandsAt t p (share_noted step s n m).book.resting
stands-marked step t s n p m h = record {
  has = has-marked step t s n m h.has;
  price = each-marked (AllStay (HasPrice t p) (price-stays t p)) (all-kept (HasPrice t p) (price-stays t p)) step s n m h.price;
}

stands-share : (step : StepName) (t s n : ℕ) (p : Price) (m : MatchState) → t ≢ s → StandsAt t p m.book.resting → StandsAt t p (trade_share step s n m).book.resting
stands-share step t s n p m other h = record {
  has = has-share step t s n m other h.has;
  price = each-share (AllStay (HasPrice t p) (price-stays t p)) (all-kept (HasPrice t p) (price-stays t p)) step s n m h.price;
}

-- ---- a level match at the best price

module _ (i : ℕ) (side : Side) where
  -- an order that the incoming one meets is no better than this price
  abbrev NoBetter : Price → Entry → Type 0
  NoBetter p e = is_on i (opposite side) e ≡ true → is_better (opposite side) e.order.price.0 p.0 ≡ false

  no-better : (p : Price) → StaysTrue (NoBetter p)
  no-better p = record { fills = λ n e x h q is some. h; refreshes = λ n e h some none. h; marks = λ n e x h q is. h }

  -- the incoming order, which trades at the best price: the last fill stands at the end of its range
  record TradesAt (p : Price) (m : MatchState) : Type 0 where
    instrument : m.taker.order.instrument ≡ i
    side_is : m.taker.order.side ≡ side
    showing : AreShowing m.book.resting
    none_better : AllByRecursion (NoBetter p) m.book.resting
    ends : IsEnd side p m.taker.range
    last : last_fill m.events ≡ last_in_range side m.taker.range

  module _ (p : Price) where
    at-marked : (step : StepName) (s n : ℕ) (m : MatchState) → TradesAt p m → TradesAt p (share_noted step s n m)
    at-marked step s n m h = record {
      instrument = h.instrument;
      side_is = h.side_is;
      showing = each-marked ShowingStays showing-kept step s n m h.showing;
      none_better = each-marked (AllStay (NoBetter p) (no-better p)) (all-kept (NoBetter p) (no-better p)) step s n m h.none_better;
      ends = h.ends;
      last = h.last;
    }

    at-trade : (step : StepName) (s n : ℕ) (m : MatchState) → (order_of s m.book.resting).price ≡ p → TradesAt p m → TradesAt p (trade step s n m)
    at-trade step s n m is h =
        let resting = order_of s m.book.resting in
        let r = resting.price in
        let number = m.desk.trades + 1 in
        let taken : Order = taken_by n m.taker.order in
        let traded = traded_at s n m in
        record {
          instrument = h.instrument;
          side_is = h.side_is;
          showing = showing-kept.trades step s n m h.showing;
          none_better = (all-kept (NoBetter p) (no-better p)).trades step s n m h.none_better;
          ends = subst (λ (q : Price). IsEnd side p (lengthened q m.taker.range)) (sym is) (end-again side p m.taker.range h.ends);
          last = last-reported n r step number taken (report (fill n r step number) (filled_by n resting) traded) ∙ ap (λ (q : Price). Some q) is ∙ sym h.ends ∙ ap (λ (q : Price). last_in_range side (lengthened q m.taker.range)) (sym is);
        }

    at-share : (step : StepName) (s n : ℕ) (m : MatchState) → StandsAt s p m.book.resting → TradesAt p m → TradesAt p (trade_share step s n m)
    at-share step s n m stands h =
        let k = share_noted step s n m in
        let here = at-marked step s n m h in
        let there = stands-marked step s s n p m stands in
        let go : (c : Bool) → TradesAt p (cond c k (trade step s n k)) = elim [
          | true ↦ here
          | false ↦ at-trade step s n k (stands-price s p k.book.resting there.has there.price) here
        ] in go (n == 0)

    at-shares : (step : StepName) (xs : List Share) (m : MatchState) → AreApart xs → AllByRecursion (λ (x : Share). StandsAt x.0 p m.book.resting) xs → TradesAt p m → TradesAt p (trade_shares step xs m)
    at-shares step [] m apart stands h = h
    at-shares step (x ∷ xs) m apart stands h =
        let k = trade_share step x.0 x.1 m in
        let Other = λ (y : Share). y.0 ≢ x.0 in
        let Before = λ (y : Share). StandsAt y.0 p m.book.resting in
        let After = λ (y : Share). StandsAt y.0 p k.book.resting in
        let left : AllByRecursion After xs = all-with (λ y. Other y × Before y) After (λ y a. stands-share step y.0 x.0 x.1 p m a.0 a.1) xs (all-both Other Before xs apart.0 stands.1) in
        at-shares step xs k apart.1 left (at-share step x.0 x.1 m stands.0 h)

    now-stands : (m : MatchState) (s : ℕ) → TradesAt p m → HasSlot s (level_now p m) → StandsAt s p m.book.resting
    now-stands m s h has = level-stands (facing p m.taker) s p m.book.resting refl h.showing.in_order.differ has

    at-level : (step : StepName) (xs : List Share) (m : MatchState) → TradesAt p m → AreOf (level_now p m) xs → TradesAt p (trade_shares step xs m)
    at-level step xs m h of =
        at-shares step xs m of.apart
        (all-with (IsGiven (level_now p m)) (λ (x : Share). StandsAt x.0 p m.book.resting) (λ x given. now-stands m x.0 h given.0) xs of.within) h

    at-head : (es : List Entry) (m : MatchState) → ((s : ℕ) → HasSlot s es → StandsAt s p m.book.resting) → TradesAt p m → TradesAt p (trade_head es m)
    at-head [] m stands h = h
    at-head (e ∷ es) m stands h = at-share name.Fifo e.slot (min m.taker.order.leaves e.order.shown) m (stands e.slot (inl refl)) h

    at-fifo : (n : ℕ) (m : MatchState) → TradesAt p m → TradesAt p (fifo_rounds n p m)
    at-fifo zero m h = h
    at-fifo (suc n) m h = at-fifo n (trade_head (level_now p m) m) (at-head (level_now p m) m (λ s has. now-stands m s h has) h)

    differ-now : (m : MatchState) → TradesAt p m → AllDiffer (level_now p m)
    differ-now m h = AllDiffer-filter (is_at (facing p m.taker)) m.book.resting h.showing.in_order.differ

    show-now : (m : MatchState) → TradesAt p m → AllShow (level_now p m)
    show-now m h =
        all-filter (λ (e : Entry). 1 ≤ e.order.shown) (is_at (facing p m.taker)) m.book.resting
        (all-with (λ (e : Entry). IsShowing e.order) (λ (e : Entry). 1 ≤ e.order.shown) (λ e shows. shows.0) m.book.resting h.showing.each)

    at-step : (step : Step) (m : MatchState) → IsRightStep step → TradesAt p m → TradesAt p (after_step step p m)
    at-step (Top rule) m right h =
        let top = top_of m.taker.order.instrument (opposite m.taker.order.side) m.book.resting in
        at-level name.Top (top_shares rule.max top m.taker.order.leaves (level_now p m)) m h (top-of rule.max top m.taker.order.leaves (level_now p m) (differ-now m h))
    at-step (Lmm shares) m right h = at-level name.Lmm (lmm_shares shares.items m.taker.order.leaves (level_now p m)) m h (lmm-of shares.items m.taker.order.leaves (level_now p m) right.firms_differ (differ-now m h))
    at-step (Split percent) m right h = at-level name.Split (split_shares percent m.taker.order.leaves (level_now p m)) m h (spent-of _ (level_now p m) (differ-now m h))
    at-step (ProRata least) m right h =
        let q = m.taker.order.leaves in
        let es = level_now p m in
        let xs = prorata_shares least q es in
        let done : TradesAt p (trade_shares name.ProRata xs m) = at-level name.ProRata xs m h (prorata-of least q es (differ-now m h)) in
        let go : (c : Bool) → TradesAt p (cond c m (trade_shares name.ProRata xs m)) = elim [ true ↦ h | false ↦ done ] in
        go (q == 0)
    at-step Leveling m right h = at-level name.Leveling (leveling_shares m.taker.order.leaves (level_now p m)) m h (leveling-of m.taker.order.leaves (level_now p m) (show-now m h) (differ-now m h))
    at-step Fifo m right h = at-fifo m.taker.order.leaves m h

    at-wanted : (step : Step) (m : MatchState) → IsRightStep step → TradesAt p m → TradesAt p (wanted_step step p m)
    at-wanted step m right h =
        let go : (c : Bool) → TradesAt p (cond c m (after_step step p m)) = elim [ true ↦ h | false ↦ at-step step m right h ] in
        go (m.taker.order.leaves == 0)

    at-match : (steps : List Step) (m : MatchState) → AllByRecursion IsRightStep steps → TradesAt p m → TradesAt p (level_match steps p m)
    at-match [] m right h = h
    at-match (step ∷ steps) m right h = at-match steps (wanted_step step p m) right.1 (at-wanted step m right.0 h)

  -- ---- a sweep

  -- a trade with an order that the incoming one meets would stand at the end of its range
  abbrev WouldEnd : Option (Price × Price) → Entry → Type 0
  WouldEnd range e = is_on i (opposite side) e ≡ true → IsEnd side e.order.price range

  record SweepsOn (m : MatchState) : Type 0 where
    instrument : m.taker.order.instrument ≡ i
    side_is : m.taker.order.side ≡ side
    showing : AreShowing m.book.resting
    ends : AllByRecursion (WouldEnd m.taker.range) m.book.resting
    last : last_fill m.events ≡ last_in_range side m.taker.range

  first-ends : (range : Option (Price × Price)) (d : Side) (p : Price) (es : List Entry) → AllByRecursion (λ (e : Entry). is_on i d e ≡ true → IsEnd side e.order.price range) es → best_of i d es ≡ Some p → IsEnd side p range
  first-ends range d p [] a h = absurd (let k : None ≡ Some p = h in cc)
  first-ends range d p (e ∷ es) a h =
      let F = side_of i d es in
      let go : (b : Bool) → is_on i d e ≡ b → price_of (cond b (e ∷ F) F) ≡ Some p → IsEnd side p range = elim [
        | true ↦ λ on k. let q : Some e.order.price ≡ Some p = k in let same : e.order.price ≡ p = cc in subst (λ (x : Price). IsEnd side x range) same (a.0 on)
        | false ↦ λ off k. first-ends range d p es a.1 k
      ] in go (is_on i d e) refl h

  at-best : (p : Price) (m : MatchState) → facing_best m.book m.taker ≡ Some p → SweepsOn m → TradesAt p m
  at-best p m is h =
      let d = opposite side in
      let best : best_of i d m.book.resting ≡ Some p =
      ap (λ (n : ℕ). best_of n d m.book.resting) (sym h.instrument) ∙ ap (λ (s : Side). best_of m.taker.order.instrument (opposite s) m.book.resting) (sym h.side_is) ∙ is in
      record {
        instrument = h.instrument;
        side_is = h.side_is;
        showing = h.showing;
        none_better = best-is-best i d p m.book.resting h.showing.in_order.ordered best;
        ends = first-ends m.taker.range d p m.book.resting h.ends best;
        last = h.last;
      }

  on-again : (p : Price) (m : MatchState) → TradesAt p m → SweepsOn m
  on-again p m h = record {
    instrument = h.instrument;
    side_is = h.side_is;
    showing = h.showing;
    ends = all-with (NoBetter p) (WouldEnd m.taker.range) (λ e worse on. end-next side p e.order.price m.taker.range h.ends (worse on)) m.book.resting h.none_better;
    last = h.last;
  }

  within-some : (d : Side) (limit : Price) (best : Option Price) (p : Price) → within_limit d limit best ≡ Some p → best ≡ Some p
  within-some d limit None p h = h
  within-some d limit (Some q) p h =
      let go : (c : Bool) → cond c (Some q) None ≡ Some p → Some q ≡ Some p = elim [ true ↦ λ k. k | false ↦ λ k. absurd (let e : None ≡ Some p = k in cc) ] in
      go (is_within d limit.0 q.0) h

  next-best : (limit : Price) (b : Book) (t : Taker) (p : Price) → next_price limit b t ≡ Some p → facing_best b t ≡ Some p
  next-best limit b t p h =
      let within = within_limit (opposite t.order.side) limit (facing_best b t) in
      let go : (c : Bool) → cond c None within ≡ Some p → facing_best b t ≡ Some p = elim [
        | true ↦ λ k. absurd (let e : None ≡ Some p = k in cc)
        | false ↦ λ k. within-some (opposite t.order.side) limit (facing_best b t) p k
      ] in go (t.order.leaves == 0) h

  module _ (steps : List Step) (limit : Price) (right : AllByRecursion IsRightStep steps) where
    on-next : (m : MatchState) → SweepsOn m → SweepsOn (match_next steps (next_price limit m.book m.taker) m)
    on-next m h =
        let go : (next : Option Price) → next_price limit m.book m.taker ≡ next → SweepsOn (match_next steps next m) = elim [
          | None ↦ λ is. h
          | Some p ↦ λ is. on-again p (level_match steps p m) (at-match p steps m right (at-best p m (next-best limit m.book m.taker p is) h))
        ] in go (next_price limit m.book m.taker) refl

    on-rounds : (n : ℕ) (m : MatchState) → SweepsOn m → SweepsOn (sweep_rounds n steps limit m)
    on-rounds zero m h = h
    on-rounds (suc n) m h = on-rounds n (match_next steps (next_price limit m.book m.taker) m) (on-next m h)

-- the incoming order has not traded yet
sweep-starts : (m : MatchState) → IsRight m.book → m.events ≡ [] → m.taker.range ≡ None → SweepsOn m.taker.order.instrument m.taker.order.side m
sweep-starts m right no-events no-range =
    let i = m.taker.order.instrument in
    let side = m.taker.order.side in
    record {
      instrument = refl;
      side_is = refl;
      showing = showing-right m.book right;
      ends = subst (λ (r : Option (Price × Price)). AllByRecursion (WouldEnd i side r) m.book.resting) (sym no-range) (all-from (WouldEnd i side None) (λ e on. end-first side e.order.price) m.book.resting);
      last = ap last_fill no-events ∙ sym (end-none side) ∙ ap (last_in_range side) (sym no-range);
    }

abbrev EndsLast : MatchState → Type 0
EndsLast m = last_fill m.events ≡ last_in_range m.taker.order.side m.taker.range

-- after a sweep, the last fill stands at the end of the range
sweep-ends : (steps : List Step) (limit : Price) (m : MatchState) → IsRight m.book → AreRightSteps steps → m.events ≡ [] → m.taker.range ≡ None → EndsLast (sweep steps limit m)
sweep-ends steps limit m right steps-right no-events no-range =
    let end = sweep steps limit m in
    let on = on-rounds m.taker.order.instrument m.taker.order.side steps limit steps-right.each m.taker.order.leaves m (sweep-starts m right no-events no-range) in
    on.last ∙ ap (λ (s : Side). last_in_range s end.taker.range) (sym on.side_is)

cancelled-ends : (why : Cause) (m : MatchState) → EndsLast m → EndsLast (taker_cancelled why m)
cancelled-ends why m h = last-cancelled None m.events why (next_head m.desk m.taker.order.firm m.taker.time) m.taker.order ∙ h

finished-ends : (name : ℕ) (steps : List Step) (m : MatchState) → EndsLast m → EndsLast (finished name steps m)
finished-ends name steps m h =
    let go : (a b : Bool) → EndsLast (cond a m (cond b (taker_rested name steps m) (taker_cancelled cause.Fak m))) = elim [
      | true ↦ λ b. h
      | false ↦ elim [ true ↦ h | false ↦ cancelled-ends cause.Fak m h ]
    ] in go (m.taker.order.leaves == 0) (may_rest m.taker.order.life)

pub last-entered : (name : ℕ) (steps : List Step) (m : MatchState) → IsRight m.book → AreRightSteps steps → m.events ≡ [] → m.taker.range ≡ None
    → let end = entered name steps m in last_fill end.events ≡ last_in_range end.taker.order.side end.taker.range
last-entered name steps m right steps-right no-events no-range =
    let swept = sweep steps m.taker.order.price m in
    let start : EndsLast m = ap last_fill no-events ∙ sym (end-none m.taker.order.side) ∙ ap (last_in_range m.taker.order.side) (sym no-range) in
    let go : (c : Bool) → EndsLast (cond c (taker_cancelled cause.MinQty m) (finished name steps swept)) = elim [
      | true ↦ cancelled-ends cause.MinQty m start
      | false ↦ finished-ends name steps swept (sweep-ends steps m.taker.order.price m right steps-right no-events no-range)
    ] in go (nat_lt (open_for m) m.taker.order.min)
