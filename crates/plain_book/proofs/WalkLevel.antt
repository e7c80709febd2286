-- How far a walk along a level has come.
use Rattle.std.proofs.Common.{◌≡◌, ℕ, ◌-◌, ◌<◌, ◌≤◌, List, [], ◌∷◌, ◌++◌, length, Option, Some, None, refl, sym, ap, subst, ◌∙◌, append_assoc, arith}
use Rattle.std.proofs.lemmas.List.{append-nil}
use Rattle.gx_base.specs.declared.order.Order.{Order}
use Rattle.gx_base.specs.declared.order.Taker.{Taker}
use Rattle.gx_base.specs.declared.event.StepName.{StepName}
use Rattle.gx_base.specs.Emits.{EmitMeanings}
use Rattle.plain_book.specs.declared.entry.Entry.{Entry}
use Rattle.plain_book.specs.Orders.{Level, level_of, orders_at, HasSlot, order_of, slot_of, slot_after}
use Rattle.plain_book.specs.Book.{Book, IsRight, IsResting, AllDiffer, live_orders}
use Rattle.plain_book.specs.Match.{MatchState, Share, trade_share, trade_shares}
use Rattle.plain_book.specs.Matches.{MatchAt, start_at, CanTrade, Matches}
use Rattle.plain_book.specs.Shares.{ShareMeanings, shares_by, AreWithin}
use Rattle.plain_book.specs.Inner.Walk.{end_after, before_end}
use Rattle.plain_book.proofs.Levels.{AllDiffer-filter, AllDiffer-front, AllDiffer-back, HasSlot-left, order_of-left}
use Rattle.plain_book.proofs.Live.{fit_of}
use Rattle.plain_book.proofs.Walks.{Stands, Remains, stands-has, stands-order, stands-after, stands-differ}
use Rattle.plain_book.proofs.TradedShares.{share-ignores, shares-append, share-leaves}
use Rattle.plain_book.proofs.Matching.{matches-none, matches-then, matches-as}
use Rattle.plain_book.proofs.WalkSteps.{IsShowing, share-remains, head_of, next-is, still_to_come, comes-rest}

-- some shares were traded, and those of the orders that are still to come are the others
pub record IsWalk {E R : Type 0} (m : EmitMeanings E) (r : ShareMeanings R) (k : Level) (step : StepName) (all : List Share) (start : MatchAt E) (at end : Option ℕ) (rule : R) (now : MatchAt E) : Type 0 where
  pub rest : List Entry
  pub remains : Remains k now.book.resting rest end
  pub next : at ≡ slot_of rest
  pub done : List Share
  pub matches : Matches m (trade_shares step done) start now
  pub leads : done ++ shares_by r rule rest ≡ all
  pub within : AreWithin r now.taker.order.leaves rule rest
  pub right : IsRight now.book

-- what is known of the order whose turn it is
pub record IsTurn {R : Type 0} (r : ShareMeanings R) (k : Level) (slot : ℕ) (end : Option ℕ) (rule : R) (b : Book) (wanted : ℕ) (rest : List Entry) : Type 0 where
  pub entry : Entry
  pub more : List Entry
  pub is : rest ≡ entry ∷ more
  pub slot_is : slot ≡ entry.slot
  pub has : HasSlot slot b.resting
  pub live : HasSlot slot (live_orders b)
  pub order : order_of slot b.resting ≡ entry.order
  pub live_order : order_of slot (live_orders b) ≡ entry.order
  pub next : before_end end (slot_after slot (orders_at (level_of (order_of slot b.resting)) b.resting)) ≡ slot_of more
  pub showing : IsShowing (r.share rule entry.order) entry.order
  pub wanted_of : r.share rule entry.order ≤ wanted
  pub within : AreWithin r (wanted - r.share rule entry.order) (r.behind rule entry.order) more

module _ {E R : Type 0} {m : EmitMeanings E} {r : ShareMeanings R} {k : Level} {step : StepName} {all : List Share} {start : MatchAt E} where
  pub walk-start : (at : Option ℕ) (rule : R) → at ≡ slot_of (orders_at k start.book.resting) → all ≡ shares_by r rule (orders_at k start.book.resting)
      → AreWithin r start.taker.order.leaves rule (orders_at k start.book.resting) → CanTrade start.book start.desk start.taker → IsRight start.book
      → IsWalk m r k step all start at None rule start
  walk-start at rule first is within can right = record {
    rest = orders_at k start.book.resting;
    remains = record { before = []; behind = []; is = sym (append-nil (orders_at k start.book.resting)); ends = refl };
    next = first;
    done = [];
    matches = matches-none m start can;
    leads = sym is;
    within = within;
    right = right;
  }

  module _ {at end : Option ℕ} {rule : R} {now : MatchAt E} (w : IsWalk m r k step all start at end rule now) where
    pub walk-turn : (slot : ℕ) → at ≡ Some slot → IsTurn r k slot end rule now.book now.taker.order.leaves w.rest
    walk-turn slot is =
        let b = now.book in
        let head = head_of slot w.rest (sym is ∙ w.next) in
        let e = head.entry in
        let within : AreWithin r now.taker.order.leaves rule (e ∷ head.more) = subst (AreWithin r now.taker.order.leaves rule) head.is w.within in
        let s : Stands k b.resting w.remains.before e (head.more ++ w.remains.behind) =
        record { differ = AllDiffer-front b.resting b.waiting w.right.differ; is = w.remains.is ∙ ap (λ (q : List Entry). w.remains.before ++ (q ++ w.remains.behind)) head.is } in
        let has : HasSlot slot b.resting = subst (λ (x : ℕ). HasSlot x b.resting) (sym head.slot_is) (stands-has s) in
        let order : order_of slot b.resting ≡ e.order = ap (λ (x : ℕ). order_of x b.resting) head.slot_is ∙ stands-order s in
        let fit : IsResting b.instruments e.order = subst (IsResting b.instruments) order (fit_of b.instruments slot b.resting w.right.rest has) in
        let behind : AllDiffer (head.more ++ w.remains.behind) = (AllDiffer-back w.remains.before (e ∷ (head.more ++ w.remains.behind)) (stands-differ s)).1 in
        record {
          entry = e;
          more = head.more;
          is = head.is;
          slot_is = head.slot_is;
          has = has;
          live = HasSlot-left slot b.resting b.waiting has;
          order = order;
          live_order = order_of-left slot b.resting b.waiting has ∙ order;
          next =
              ap (λ (x : Option ℕ). before_end x (slot_after slot (orders_at (level_of (order_of slot b.resting)) b.resting))) w.remains.ends
              ∙ ap (before_end (slot_of w.remains.behind)) (ap (λ (x : ℕ). slot_after x (orders_at (level_of (order_of x b.resting)) b.resting)) head.slot_is ∙ stands-after s)
              ∙ next-is head.more w.remains.behind behind;
          showing = record { some = fit.showing; within = fit.within; fits = within.0 };
          wanted_of = within.1;
          within = within.2;
        }

    -- the order whose turn it is has traded its share
    walk-more : (slot : ℕ) (turn : IsTurn r k slot end rule now.book now.taker.order.leaves w.rest) (next : MatchAt E) → IsRight next.book
        → Matches m (trade_share step slot (r.share rule turn.entry.order)) now next
        → IsWalk m r k step all start (slot_of turn.more) (end_after end slot (r.share rule turn.entry.order) turn.entry.order) (r.behind rule turn.entry.order) next
    walk-more slot turn next right traded =
        let e = turn.entry in
        let n = r.share rule e.order in
        let b = now.book in
        let s : Stands k b.resting w.remains.before e (turn.more ++ w.remains.behind) =
        record { differ = AllDiffer-front b.resting b.waiting w.right.differ; is = w.remains.is ∙ ap (λ (q : List Entry). w.remains.before ++ (q ++ w.remains.behind)) turn.is } in
        let same_slot : trade_share step e.slot n (start_at now) ≡ trade_share step slot n (start_at now) = ap (λ (x : ℕ). trade_share step x n (start_at now)) (sym turn.slot_is) in
        let book : (trade_share step e.slot n (start_at now)).book ≡ next.book = ap (λ (x : MatchState). x.book) same_slot ∙ sym traded.now.book in
        let remains : Remains k (trade_share step e.slot n (start_at now)).book.resting turn.more (end_after (slot_of w.remains.behind) e.slot n e.order) =
        share-remains step k (start_at now) w.remains.before e turn.more w.remains.behind n s turn.showing in
        let ends : end_after (slot_of w.remains.behind) e.slot n e.order ≡ end_after end slot n e.order =
        ap (λ (x : Option ℕ). end_after x e.slot n e.order) (sym w.remains.ends) ∙ ap (λ (x : ℕ). end_after end x n e.order) (sym turn.slot_is) in
        let one : Share = (slot, n) in
        let leaves : next.taker.order.leaves ≡ now.taker.order.leaves - n = ap (λ (t : Taker). t.order.leaves) traded.now.taker ∙ share-leaves step slot n (start_at now) in
        let joined : (s : MatchState) → trade_share step slot n (trade_shares step w.done s) ≡ trade_shares step (w.done ++ one ∷ []) s = λ s. sym (shares-append step w.done (one ∷ []) s) in
        let front : shares_by r rule w.rest ≡ (e.slot, n) ∷ shares_by r (r.behind rule e.order) turn.more = ap (shares_by r rule) turn.is in
        let first : shares_by r rule w.rest ≡ one ∷ shares_by r (r.behind rule e.order) turn.more =
        front ∙ ap (λ (x : ℕ). (x, n) ∷ shares_by r (r.behind rule e.order) turn.more) (sym turn.slot_is) in
        record {
          rest = turn.more;
          remains = subst (λ (x : Book). Remains k x.resting turn.more (end_after end slot n e.order)) book
              (subst (Remains k (trade_share step e.slot n (start_at now)).book.resting turn.more) ends remains);
          next = refl;
          done = w.done ++ one ∷ [];
          matches = matches-as m (λ s. trade_share step slot n (trade_shares step w.done s)) (trade_shares step (w.done ++ one ∷ [])) start next (joined (start_at start))
              (matches-then m (trade_shares step w.done) (trade_share step slot n) start now next (share-ignores step slot n) w.matches traded);
          leads = append_assoc w.done (one ∷ []) (shares_by r (r.behind rule e.order) turn.more) ∙ ap (λ (q : List Share). w.done ++ q) (sym first) ∙ w.leads;
          within = subst (λ (x : ℕ). AreWithin r x (r.behind rule e.order) turn.more) (sym leaves) turn.within;
          right = right;
        }

    walk-more-rest : (slot : ℕ) (turn : IsTurn r k slot end rule now.book now.taker.order.leaves w.rest) (next : MatchAt E) (right : IsRight next.book)
        (traded : Matches m (trade_share step slot (r.share rule turn.entry.order)) now next)
        → (walk-more slot turn next right traded).rest ≡ turn.more
    unfolding walk-more
    walk-more-rest slot turn next right traded = refl

    -- nothing is left to do of the step
    pub walk-over : ((orders : List Entry) → (s : MatchState) → trade_shares step (shares_by r rule orders) s ≡ s) → Matches m (trade_shares step all) start now
    walk-over none =
        let f = trade_shares step w.done in
        let whole : f (start_at start) ≡ trade_shares step all (start_at start) =
        sym (none w.rest (f (start_at start))) ∙ sym (shares-append step w.done (shares_by r rule w.rest) (start_at start)) ∙ ap (λ (q : List Share). trade_shares step q (start_at start)) w.leads in
        matches-as m f (trade_shares step all) start now whole w.matches

    -- how many orders are still to come
    walk-length : length (still_to_come at end (orders_at k now.book.resting)) ≡ length w.rest
    walk-length =
        let b = now.book in
        let level = w.remains.before ++ (w.rest ++ w.remains.behind) in
        let differ : AllDiffer level = subst AllDiffer w.remains.is (AllDiffer-filter _ b.resting (AllDiffer-front b.resting b.waiting w.right.differ)) in
        ap length
        (ap (still_to_come at end) w.remains.is ∙ ap (λ (x : Option ℕ). still_to_come x end level) w.next ∙ ap (λ (x : Option ℕ). still_to_come (slot_of w.rest) x level) w.remains.ends ∙ comes-rest w.remains.before w.rest w.remains.behind differ)

  -- what the calls of a turn gave: the order, its share, the rule after it, the slot that comes next and where the walk ends
  module _ {at end : Option ℕ} {rule : R} {now : MatchAt E} (w : IsWalk m r k step all start at end rule now) {slot : ℕ} (turn : IsTurn r k slot end rule now.book now.taker.order.leaves w.rest)
      {o : Order} {lots : ℕ} {at' end' : Option ℕ} {rule' : R} {next : MatchAt E} (is : o ≡ turn.entry.order) (share : lots ≡ r.share rule o) (behind : rule' ≡ r.behind rule o)
      (comes : at' ≡ before_end end (slot_after slot (orders_at (level_of (order_of slot now.book.resting)) now.book.resting))) (ends : end' ≡ end_after end slot lots o)
      (right : IsRight next.book) (traded : Matches m (trade_share step slot lots) now next) where
    abbrev given : ℕ
    given = r.share rule turn.entry.order

    abbrev end_given : Option ℕ
    end_given = end_after end slot given turn.entry.order

    lots-are : lots ≡ given
    lots-are = share ∙ ap (r.share rule) is

    gave : Matches m (trade_share step slot given) now next
    gave = subst (λ (n : ℕ). Matches m (trade_share step slot n) now next) lots-are traded

    came : IsWalk m r k step all start (slot_of turn.more) end_given (r.behind rule turn.entry.order) next
    came = walk-more w slot turn next right gave

    at-is : slot_of turn.more ≡ at'
    at-is = sym turn.next ∙ sym comes

    end-is : end_given ≡ end'
    end-is = ap (λ (n : ℕ). end_after end slot n turn.entry.order) (sym lots-are) ∙ ap (end_after end slot lots) (sym is) ∙ sym ends

    -- the walk goes on after the order
    pub walk-on : IsWalk m r k step all start at' end' rule' next
    walk-on =
        subst (λ (x : R). IsWalk m r k step all start at' end' x next) (ap (r.behind rule) (sym is) ∙ sym behind)
        (subst (λ (x : Option ℕ). IsWalk m r k step all start at' x (r.behind rule turn.entry.order) next) end-is
        (subst (λ (x : Option ℕ). IsWalk m r k step all start x end_given (r.behind rule turn.entry.order) next) at-is came))

    -- one order fewer is still to come
    pub walk-shorter : length (still_to_come at' end' (orders_at k next.book.resting)) < length (still_to_come at end (orders_at k now.book.resting))
    unfolding came
    walk-shorter =
        let level = orders_at k next.book.resting in
        let left : length (still_to_come at' end' level) ≡ length turn.more =
        ap (λ (x : Option ℕ). length (still_to_come x end' level)) (sym at-is)
        ∙ ap (λ (x : Option ℕ). length (still_to_come (slot_of turn.more) x level)) (sym end-is)
        ∙ walk-length came
        ∙ ap length (walk-more-rest w slot turn next right gave) in
        omega (arith, left, walk-length w, ap length turn.is)
