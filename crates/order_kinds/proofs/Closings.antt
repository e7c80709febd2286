-- What a close leaves and reports, by whichever names.
use Rattle.std.proofs.Common.{◌≡◌, ℕ, Bool, true, false, cond, List, [], ◌∷◌, filter, refl, sym, ap, ◌∙◌}
use Rattle.std.specs.List.{AllByRecursion}
use Rattle.std.proofs.lemmas.List.{map-append}
use Rattle.gx_base.specs.declared.order.Desk.{Desk}
use Rattle.gx_base.specs.declared.event.Event.{Event}
use Rattle.plain_book.specs.declared.entry.Entry.{Entry}
use Rattle.plain_book.specs.Book.{Book, live_orders}
use Rattle.plain_book.specs.Match.{report_counted, next_head}
use Rattle.plain_book.specs.Numbers.{entry_numbered, numbered, book_numbered}
use Rattle.plain_book.proofs.Pairs.{all-filter, all-append, all-front, all-back, all-passing}
use Rattle.order_kinds.specs.TradingSessions.{is_until_cancelled, AreUntilCancelled, stays, expires, expiring, book_closed, expired, expiry_reports}

-- ---- the names of orders play no part in a close

-- a test that does not look at slots
numbered-filter : (p : Entry → Bool) → ((e : Entry) → p (entry_numbered e) ≡ p e) → (es : List Entry) → filter p (numbered es) ≡ numbered (filter p es)
numbered-filter p same [] = refl
numbered-filter p same (e ∷ es) =
    ap (λ (b : Bool). cond b (entry_numbered e ∷ filter p (numbered es)) (filter p (numbered es))) (same e)
    ∙ (elim (p e) as (λ (b : Bool). cond b (entry_numbered e ∷ filter p (numbered es)) (filter p (numbered es)) ≡ numbered (cond b (e ∷ filter p es) (filter p es))) [
      | true ↦ ap (λ (l : List Entry). entry_numbered e ∷ l) (numbered-filter p same es)
      | false ↦ numbered-filter p same es
    ])

pub closed-numbered : (b : Book) → book_numbered (book_closed b) ≡ book_closed (book_numbered b)
closed-numbered b = λ i. record {
  capacity = b.capacity;
  instruments = b.instruments;
  resting = sym (numbered-filter stays (λ e. refl) b.resting) i;
  waiting = sym (numbered-filter stays (λ e. refl) b.waiting) i;
}

reports-numbered : (time : List ℕ) (es : List Entry) (desk : Desk) → expiry_reports time (numbered es) desk ≡ expiry_reports time es desk
reports-numbered time [] desk = refl
reports-numbered time (e ∷ es) desk =
    ap (λ (t : Desk × List Event). (t.0, expired (next_head desk e.order.firm time) e.order ∷ t.1)) (reports-numbered time es (report_counted desk e.order.firm))

pub expiries-numbered : (time : List ℕ) (b : Book) (desk : Desk) → expiry_reports time (expiring (book_numbered b)) desk ≡ expiry_reports time (expiring b) desk
expiries-numbered time b desk =
    ap (λ (es : List Entry). expiry_reports time (filter expires es) desk) (sym (map-append entry_numbered b.resting b.waiting))
    ∙ ap (λ (es : List Entry). expiry_reports time es desk) (numbered-filter expires (λ e. refl) (live_orders b))
    ∙ reports-numbered time (expiring b) desk

-- ---- the orders that it leaves

pub closed-stay : (b : Book) → AreUntilCancelled (live_orders (book_closed b))
closed-stay b =
    let P = λ (e : Entry). is_until_cancelled e.order.life ≡ true in
    all-append P (filter stays b.resting) (filter stays b.waiting) (all-passing P stays (λ e h. h) b.resting) (all-passing P stays (λ e h. h) b.waiting)

-- they were live before
pub closed-among : (P : Entry → Type 0) (b : Book) → AllByRecursion P (live_orders b) → AllByRecursion P (live_orders (book_closed b))
closed-among P b all =
    all-append P (filter stays b.resting) (filter stays b.waiting) (all-filter P stays b.resting (all-front P b.resting b.waiting all)) (all-filter P stays b.waiting (all-back P b.resting b.waiting all))
