-- A change of the trading session: at a close each order that expires is told.
use Rattle.std.proofs.Common.{◌≡◌, ℕ, Bool, true, false, cond, not, List, [], ◌∷◌, filter, refl, ap}
use Rattle.std.specs.List.{AllByRecursion}
use Rattle.gx_base.specs.declared.order.Order.{Order}
use Rattle.gx_base.specs.declared.order.Desk.{Desk}
use Rattle.gx_base.specs.declared.trading.Trading.{Trading}
use Rattle.gx_base.specs.declared.trading.Trading.TheVariants.{Open, Closed}
use Rattle.fix_request.specs.declared.request.SessionChange.{SessionChange}
use Rattle.plain_book.specs.declared.entry.Entry.{Entry}
use Rattle.plain_book.specs.Orders.{Level}
use Rattle.plain_book.specs.Book.{live_orders}
use Rattle.plain_book.specs.Match.{report_counted, next_head}
use Rattle.plain_book.proofs.Pairs.{all-front, all-with}
use Rattle.order_kinds.specs.State.{State}
use Rattle.order_kinds.specs.TradingSessions.{stays, expires, expiring, expired, expiry_reports, market_closed, session_changed, session_step}
use Rattle.engine_laws.specs.LevelsTold.{is_told, tells_of}
use Rattle.engine_laws.proofs.Sums.{sum-filtered}
use Rattle.engine_laws.proofs.LevelSums.{IsElsewhere, WeighsLevel}
use Rattle.engine_laws.proofs.Matching.{or-first, or-second}
use Rattle.engine_laws.proofs.LevelRequests.{Stays}

-- what holds of each that passes a test
each-passing : (p : Entry → Bool) (P : Entry → Type 0) (es : List Entry) → AllByRecursion P (filter p es) → AllByRecursion (λ (e : Entry). p e ≡ true → P e) es
each-passing p P [] a = tt
each-passing p P (e ∷ es) a =
    let F = filter p es in
    let go : (b : Bool) → AllByRecursion P (cond b (e ∷ F) F) → (b ≡ true → P e) × AllByRecursion P F = elim [
      | true ↦ λ h. ((λ is. h.0), h.1)
      | false ↦ λ h. ((λ is. absurd (let n : false ≡ true = is in cc)), h)
    ] in
    let both = go (p e) a in (both.0, each-passing p P es both.1)

module _ (k : Level) where
  -- where no report tells of a level, no order that is reported is of it
  expired-elsewhere : (time : List ℕ) (es : List Entry) (desk : Desk) → is_told k (expiry_reports time es desk).1 ≡ false → AllByRecursion (λ (e : Entry). IsElsewhere k e.order) es
  expired-elsewhere time [] desk none = tt
  expired-elsewhere time (e ∷ es) desk none =
      let first = tells_of k (expired (next_head desk e.order.firm time) e.order) in
      let after = report_counted desk e.order.firm in
      let others = is_told k (expiry_reports time es after).1 in
      (or-first first others none, expired-elsewhere time es after (or-second first others none))

  module _ (weight : Order → ℕ) (of : WeighsLevel k weight) (state : State) where
    close-stays : (time : List ℕ) → Stays k weight of state.book.resting (market_closed time state)
    close-stays time none =
        let es = state.book.resting in
        let ws = state.book.waiting in
        let Away = λ (e : Entry). IsElsewhere k e.order in
        let Gone = λ (e : Entry). expires e ≡ true → Away e in
        let gone = all-front Gone es ws (each-passing expires Away (live_orders state.book) (expired-elsewhere time (expiring state.book) state.desk none)) in
        sum-filtered (λ (e : Entry). weight e.order) stays es
        (all-with Gone (λ (e : Entry). stays e ≡ false → weight e.order ≡ 0) (λ e h is. of.others e.order (h (ap not is))) es gone)

    pub session-stays : (change : SessionChange) → Stays k weight of state.book.resting (session_step change state)
    session-stays change =
        let go : (to from : Trading) → Stays k weight of state.book.resting (session_changed to from change.time state) = elim [
          | Open ↦ elim [ Open ↦ λ none. refl | Closed ↦ λ none. refl ]
          | Closed ↦ elim [ Open ↦ close-stays change.time | Closed ↦ λ none. refl ]
        ] in go change.to state.trading
