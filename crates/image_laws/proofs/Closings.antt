-- A change of the trading session leads from a state that messages lead to, to another one: a close takes orders out of the book, and
-- those that it leaves are as they were.
use Rattle.std.proofs.Common.{◌≡◌, ℕ, ◌+◌, List, [], ◌∷◌, filter, length, refl, sym, ap, subst, arith}
use Rattle.std.proofs.lemmas.List.Filters.{length-filter_both}
use Rattle.gx_base.specs.declared.order.Desk.{Desk}
use Rattle.gx_base.specs.declared.trading.Trading.{Trading}
use Rattle.gx_base.specs.declared.trading.Trading.TheVariants.{Open, Closed}
use Rattle.product_file.specs.Products.{ProductLists}
use Rattle.fix_request.specs.declared.request.SessionChange.{SessionChange}
use Rattle.plain_book.specs.declared.entry.Entry.{Entry}
use Rattle.plain_book.specs.Orders.{level_of}
use Rattle.plain_book.specs.Book.{Book, live_orders, IsRight, IsResting, IsWaiting, AllDiffer, EachPair, AreNamedApart, AreInBookOrder, AreInLine, MayPrecedeTop}
use Rattle.plain_book.specs.Match.{report_counted}
use Rattle.plain_book.proofs.Levels.{AllDiffer-filter}
use Rattle.plain_book.proofs.Pairs.{all-filter, pairs-filter}
use Rattle.engine_laws.specs.MatchLaws.{IsUncrossed}
use Rattle.engine_laws.proofs.Uncrossed.{uncrossed-moved}
use Rattle.order_kinds.specs.State.{State}
use Rattle.order_kinds.specs.TradingSessions.{stays, expires, expiring, book_closed, expiry_reports, market_closed, session_changed, session_step}
use Rattle.order_kinds.proofs.Closings.{closed-stay, closed-among}
use Rattle.engine_laws.proofs.BalancedClosings.{live-closed}
use Rattle.image_laws.specs.Right.{IsRightEntry, IsTopAllowed, IsRightStop}
use Rattle.image_laws.proofs.Held.{IsHeld}
use Rattle.image_laws.proofs.Counted.{IsCounted, counted-within, counted-report}
use Rattle.image_laws.proofs.Reached.{IsReached, StepReaches, not-closed}

-- ---- the orders that are left

right-closed : (b : Book) → IsRight b → IsRight (book_closed b)
right-closed b r =
    let all = live_orders b in
    let live = live-closed b in
    record {
      rest = all-filter (λ (e : Entry). IsResting b.instruments e.order) stays b.resting r.rest;
      wait = all-filter (λ (e : Entry). IsWaiting b.instruments e.order) stays b.waiting r.wait;
      differ = subst AllDiffer (sym live) (AllDiffer-filter stays all r.differ);
      named = subst (EachPair AreNamedApart) (sym live) (pairs-filter AreNamedApart stays all r.named);
      ordered = pairs-filter AreInBookOrder stays b.resting r.ordered;
      lined = pairs-filter AreInLine stays b.waiting r.lined;
      tops = pairs-filter MayPrecedeTop stays b.resting r.tops;
      few = omega (arith, ap (λ (es : List Entry). length es) live, length-filter_both stays expires (λ e. refl) all, r.few);
      small = r.small;
    }

held-closed : (product : ProductLists) (given : ℕ) (b : Book) → IsHeld product given b → IsHeld product given (book_closed b)
held-closed product given b h = record {
  capacity = h.capacity;
  instruments = h.instruments;
  book = right-closed b h.book;
  entries = closed-among (IsRightEntry product given) b h.entries;
  tops = all-filter (IsTopAllowed product) stays b.resting h.tops;
  stops = all-filter (IsRightStop product) stays b.waiting h.stops;
}

uncrossed-closed : (es : List Entry) → IsUncrossed es → IsUncrossed (filter stays es)
uncrossed-closed es h = uncrossed-moved es (filter stays es) (λ P a. all-filter (λ (e : Entry). P (level_of e.order)) stays es a) h

-- ---- the counters

expiries-counted : (sent count bound : ℕ) (time : List ℕ) (es : List Entry) (desk : Desk) → IsCounted sent count bound desk
    → let reported = expiry_reports time es desk in IsCounted sent count (bound + length reported.1) reported.0
expiries-counted sent count bound time [] desk h = counted-within sent count bound desk h (bound + 0) (omega arith)
expiries-counted sent count bound time (e ∷ es) desk h =
    let after = report_counted desk e.order.firm in
    let others = expiry_reports time es after in
    let more = expiries-counted sent count (bound + 1) time es after (counted-report sent count bound desk h e.order.firm) in
    counted-within sent count (bound + 1 + length others.1) others.0 more (bound + length (expiry_reports time (e ∷ es) desk).1) (omega arith)

-- ---- the state

module _ (product : ProductLists) (sent bound : ℕ) (state : State) (h : IsReached product sent bound state) where
  pub nothing-reached : StepReaches product sent bound (state, [])
  nothing-reached = record {
    held = h.held;
    uncrossed = h.uncrossed;
    prices = h.prices;
    lasts = h.lasts;
    lives = h.lives;
    counted = counted-within sent state.desk.orders bound state.desk h.counted (bound + 0) (omega arith);
    few = h.few;
  }

  opened-reached : StepReaches product sent bound (record state { trading = Open }, [])
  opened-reached =
      let same = nothing-reached in
      record { held = same.held; uncrossed = same.uncrossed; prices = same.prices; lasts = same.lasts; lives = not-closed refl; counted = same.counted; few = same.few }

  closed-reached : (time : List ℕ) → StepReaches product sent bound (market_closed time state)
  closed-reached time =
      let b = state.book in
      let gone = expiring b in
      let end = (expiry_reports time gone state.desk).0 in
      let now = expiries-counted sent state.desk.orders bound time gone state.desk h.counted in
      let is : state.desk.orders ≡ end.orders = sym now.orders in
      record {
        held = subst (λ (n : ℕ). IsHeld product n (book_closed b)) is (held-closed product state.desk.orders b h.held);
        uncrossed = uncrossed-closed b.resting h.uncrossed;
        prices = h.prices;
        lasts = h.lasts;
        lives = λ closed. closed-stay b;
        counted = record { messages = now.messages; orders = refl; counts = now.counts; lines = now.lines };
        few = omega (arith, now.orders, h.few);
      }

  pub session-reached : (change : SessionChange) → StepReaches product sent bound (session_step change state)
  session-reached change =
      let go : (to from : Trading) → StepReaches product sent bound (session_changed to from change.time state) = elim [
        | Open ↦ elim [ Open ↦ nothing-reached | Closed ↦ opened-reached ]
        | Closed ↦ elim [ Open ↦ closed-reached change.time | Closed ↦ nothing-reached ]
      ] in go change.to state.trading
