-- A change of the trading session does the same where orders are of other firms.
use Rattle.std.proofs.Common.{◌≡◌, ℕ, List, [], ◌∷◌, map, filter, Option, None, refl, sym, ap, subst, ◌∙◌}
use Rattle.std.specs.Prelude.{flat_map}
use Rattle.std.proofs.lemmas.List.{map-append}
use Rattle.gx_base.specs.declared.order.Desk.{Desk}
use Rattle.gx_base.specs.declared.event.Event.{Event}
use Rattle.gx_base.specs.declared.trading.Trading.{Trading}
use Rattle.gx_base.specs.declared.trading.Trading.TheVariants.{Open, Closed}
use Rattle.product_file.specs.Products.{ProductLists}
use Rattle.fix_request.specs.Requests.{request_of}
use Rattle.fix_request.specs.declared.request.SessionChange.{SessionChange}
use Rattle.fix_request.specs.declared.request.Request.TheVariants.{Session}
use Rattle.plain_book.specs.declared.entry.Entry.{Entry}
use Rattle.plain_book.specs.Book.{Book, live_orders}
use Rattle.plain_book.specs.Match.{report_counted}
use Rattle.order_kinds.specs.State.{State}
use Rattle.order_kinds.specs.Stops.{by_number}
use Rattle.order_kinds.specs.Step.{with_message, step_in, request_step, step_of}
use Rattle.order_kinds.specs.Histories.{last_product, state_kept}
use Rattle.order_kinds.specs.TradingSessions.{stays, expires, expiring, book_closed, expiry_reports, market_closed, session_changed}
use Rattle.market_laws.specs.Shares.{of_firm}
use Rattle.market_laws.specs.Streams.{OfEachHistory}
use Rattle.market_laws.specs.Firms.{Told, told, book_of_firms, AreOfOtherFirms, faults, AreServedAlike}
use Rattle.market_laws.proofs.Proportion.{filter-firms}
use Rattle.market_laws.proofs.Firms.{by_slot, F}
use Rattle.market_laws.proofs.FirmsMessages.{reported-same, counted-same, requests-served}

module _ (firm : ℕ → ℕ) where
  -- what is reported of orders that expire
  record AreReports (a b : Desk × List Event) : Type 0 where
    desk : b.0 ≡ record a.0 { lines = b.0.lines }
    refused : flat_map faults b.1 ≡ flat_map faults a.1
    fills : map told b.1 ≡ map told a.1

  reports-same : (time : List ℕ) (es : List Entry) (a b : Desk) → b ≡ record a { lines = b.lines } → AreReports (expiry_reports time es a) (expiry_reports time (F firm es) b)
  reports-same time [] a b h = record { desk = h; refused = refl; fills = refl }
  reports-same time (e ∷ es) a b h =
      let own = firm e.slot in
      let others = reports-same time es (report_counted a e.order.firm) (report_counted b own) (reported-same firm a b e.order.firm own h) in
      record { desk = others.desk; refused = others.refused; fills = ap (λ (l : List (Option Told)). None ∷ l) others.fills }

  expiring-same : (a b : Book) → b ≡ book_of_firms firm a → expiring b ≡ F firm (expiring a)
  expiring-same a b h =
      ap expiring h
      ∙ ap (filter expires) (sym (map-append (of_firm (by_slot firm)) a.resting a.waiting))
      ∙ filter-firms (by_slot firm) expires (λ e. refl) (live_orders a)

  closed-same : (a b : Book) → b ≡ book_of_firms firm a → book_closed b ≡ book_of_firms firm (book_closed a)
  closed-same a b h =
      let B = λ (r w : List Entry). let v : Book = record a { resting = r; waiting = w } in v in
      ap book_closed h
      ∙ ap (λ (r : List Entry). B r (filter stays (F firm a.waiting))) (filter-firms (by_slot firm) stays (λ e. refl) a.resting)
      ∙ ap (B (F firm (filter stays a.resting))) (filter-firms (by_slot firm) stays (λ e. refl) a.waiting)

  close-served : (time : List ℕ) (a b : State) → AreOfOtherFirms firm a b → AreServedAlike firm (market_closed time a) (market_closed time b)
  close-served time a b h =
      let reports : AreReports (expiry_reports time (expiring a.book) a.desk) (expiry_reports time (expiring b.book) b.desk) =
      subst (λ (es : List Entry). AreReports (expiry_reports time (expiring a.book) a.desk) (expiry_reports time es b.desk)) (sym (expiring-same a.book b.book h.book)) (reports-same time (expiring a.book) a.desk b.desk h.desk) in
      record {
        refused = reports.refused;
        fills = reports.fills;
        state = record { book = closed-same a.book b.book h.book; last = h.last; desk = reports.desk; trading = refl };
      }

  session-served : (product : ProductLists) (change : SessionChange) (a b : State) → AreOfOtherFirms firm a b → AreServedAlike firm (request_step product (Session change) a) (request_step product (Session change) b)
  session-served product change a b h =
      let same : AreServedAlike firm (a, []) (b, []) = record { refused = refl; fills = refl; state = h } in
      let opens : AreServedAlike firm (record a { trading = Open }, []) (record b { trading = Open }, []) =
      record { refused = refl; fills = refl; state = record { book = h.book; last = h.last; desk = h.desk; trading = refl } } in
      let go : (to now : Trading) → AreServedAlike firm (session_changed to now change.time a) (session_changed to now change.time b) = elim [
        | Open ↦ elim [ Open ↦ same | Closed ↦ opens ]
        | Closed ↦ elim [ Open ↦ close-served change.time a b h | Closed ↦ same ]
      ] in
      let changed : AreServedAlike firm (session_changed change.to a.trading change.time a) (session_changed change.to b.trading change.time b) =
      subst (λ (now : Trading). AreServedAlike firm (session_changed change.to a.trading change.time a) (session_changed change.to now change.time b)) (sym h.trading) (go change.to a.trading) in
      let by : (x y : Trading) → AreServedAlike firm (step_in x by_number product (Session change) a) (step_in y by_number product (Session change) b) = elim [
        | Open ↦ elim [ Open ↦ changed | Closed ↦ changed ]
        | Closed ↦ elim [ Open ↦ changed | Closed ↦ changed ]
      ] in by a.trading b.trading

-- after every history
pub sessions-served : (firm : ℕ → ℕ) (next : List ℕ) (change : SessionChange) (b : State) → OfEachHistory (λ history.
    let product = last_product history in
    let a = state_kept history in
    AreOfOtherFirms firm a b → request_of product next ≡ Session change → AreServedAlike firm (step_of product a next) (step_of product b next))
sessions-served firm next change b history right is h one =
    let product = last_product history in
    let a = state_kept history in
    requests-served firm product a b next next (Session change) (Session change) one one
    (session-served firm product change (with_message a) (with_message b) (counted-same firm a b h))
