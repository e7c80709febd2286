-- A cancel and a replace do the same where orders are of other firms, by steps that look at no firm.
use Rattle.std.proofs.Common.{◌≡◌, ℕ, Bool, true, false, cond, not, List, Option, Some, None, Result, Ok, Err, refl, sym, ap, subst, ◌∙◌}
use Rattle.std.specs.Prelude.{◌==◌, nat_le, nat_lt, IfSome, ok_or}
use Rattle.std.specs.List.{AllByRecursion}
use Rattle.std.proofs.lemmas.List.{map-append}
use Rattle.gx_base.specs.declared.price.Price.{Price}
use Rattle.gx_base.specs.declared.order.Order.{Order}
use Rattle.gx_base.specs.declared.order.Desk.{Desk}
use Rattle.gx_base.specs.declared.event.ChangeFault.{ChangeFault}
use Rattle.gx_base.specs.declared.event.ChangeFault.TheVariants as fault
use Rattle.gx_base.specs.declared.trading.Trading.{Trading}
use Rattle.gx_base.specs.declared.trading.Trading.TheVariants.{Open, Closed}
use Rattle.product_file.specs.Products.{ProductLists}
use Rattle.fix_request.specs.Requests.{request_of}
use Rattle.fix_request.specs.declared.request.CancelOrder.{CancelOrder}
use Rattle.fix_request.specs.declared.request.ReplaceOrder.{ReplaceOrder}
use Rattle.fix_request.specs.declared.request.Request.TheVariants.{Cancel, Replace}
use Rattle.plain_book.specs.declared.entry.Entry.{Entry}
use Rattle.plain_book.specs.Orders.{HasSlot, order_of, is_live, slot_named, without, with_order}
use Rattle.plain_book.specs.Book.{Book, live_orders, book_without, book_changed, changed_to}
use Rattle.plain_book.proofs.Pairs.{all-back, all-filter}
use Rattle.order_kinds.specs.State.{State}
use Rattle.order_kinds.specs.Instruments.{ListedInstrument, instrument_of}
use Rattle.order_kinds.specs.OrderRules.{◌>>=◌, refused_where, is_quantity, has_off_tick, has_bad_stop, is_stop_reached, last_of}
use Rattle.order_kinds.specs.Reports.{line_counted}
use Rattle.order_kinds.specs.Cancels.{cancel_by}
use Rattle.order_kinds.specs.Replaces.{is_same_order, replace_terms, keeps_place, least_after, replaced_order, replaced_in_place, replaced_start, replaced_anew, replaced, replace_refused, replaced_or_refused, replace_at}
use Rattle.order_kinds.specs.Stops.{by_number}
use Rattle.order_kinds.specs.Step.{with_message, step_in, request_step, step_of}
use Rattle.order_kinds.specs.Histories.{last_product, state_kept}
use Rattle.order_kinds.proofs.Refusals.{replace-passes}
use Rattle.engine_laws.proofs.BalancedRequests.{named-has}
use Rattle.market_laws.specs.Shares.{IsBlind, of_firm}
use Rattle.market_laws.specs.Streams.{OfEachHistory}
use Rattle.market_laws.specs.Firms.{book_of_firms, AreOfOtherFirms, AreServedAlike, cancel_of_firm, replace_of_firm, HasBlindSteps}
use Rattle.market_laws.proofs.Sound.{IsByNumber, number-at}
use Rattle.market_laws.proofs.Firms.{by_slot, F, with_firm, order-at, with-same, without-same}
use Rattle.market_laws.proofs.FirmsMessages.{AreStarts, reported-same, counted-same, comes-in, numbered-kept, requests-served}

module _ (firm : ℕ → ℕ) where
  -- ---- an order that leaves

  without-book : (slot : ℕ) (a b : Book) → b ≡ book_of_firms firm a → book_without slot b ≡ book_of_firms firm (book_without slot a)
  without-book slot a b h =
      let B = λ (r w : List Entry). let v : Book = record a { resting = r; waiting = w } in v in
      ap (book_without slot) h
      ∙ ap (λ (r : List Entry). B r (without slot (F firm a.waiting))) (without-same firm slot a.resting)
      ∙ ap (B (F firm (without slot a.resting))) (without-same firm slot a.waiting)

  lines-same : (a b : Desk) (f g : Option ℕ) → b ≡ record a { lines = b.lines } → line_counted b g ≡ record (line_counted a f) { lines = (line_counted b g).lines }
  lines-same a b f g h = let lines = (line_counted b g).lines in ap (λ (d : Desk). (let x : Desk = record d { lines = lines } in x)) h

  -- ---- cancels

  cancel-served : (product : ProductLists) (own : ℕ) (request : CancelOrder) (a b : State) → AreOfOtherFirms firm a b
      → slot_named own request.old (live_orders b.book) ≡ slot_named request.sender.firm request.old (live_orders a.book)
      → AreServedAlike firm (request_step product (Cancel request) a) (request_step product (Cancel (cancel_of_firm own request)) b)
  cancel-served product own request a b h names =
      let other = cancel_of_firm own request in
      let by : (found : Option ℕ) → AreServedAlike firm (cancel_by found request a) (cancel_by found other b) = elim [
        | None ↦ record {
          refused = refl;
          fills = refl;
          state = record { book = h.book; last = h.last; desk = lines-same a.desk b.desk (Some request.sender.firm) (Some own) h.desk; trading = h.trading };
        }
        | Some slot ↦ record {
          refused = refl;
          fills = refl;
          state = record { book = without-book slot a.book b.book h.book; last = h.last; desk = reported-same firm a.desk b.desk request.sender.firm own h.desk; trading = h.trading };
        }
      ] in
      let found = slot_named request.sender.firm request.old (live_orders a.book) in
      let in_open : AreServedAlike firm (cancel_by found request a) (cancel_by (slot_named own request.old (live_orders b.book)) other b) =
      subst (λ (x : Option ℕ). AreServedAlike firm (cancel_by found request a) (cancel_by x other b)) (sym names) (by found) in
      let go : (trading : Trading) → AreServedAlike firm (step_in trading by_number product (Cancel request) a) (step_in trading by_number product (Cancel other) b) = elim [ Open ↦ in_open | Closed ↦ in_open ] in
      subst (λ (trading : Trading). AreServedAlike firm (request_step product (Cancel request) a) (step_in trading by_number product (Cancel other) b)) (sym h.trading) (go a.trading)

  -- ---- replaces

  module _ (product : ProductLists) (own : ℕ) (request : ReplaceOrder) (a b : State) (h : AreOfOtherFirms firm a b) (numbered : AllByRecursion IsByNumber (live_orders a.book)) where
    abbrev other : ReplaceOrder
    other = replace_of_firm own request

    -- the order that is named
    module _ (slot : ℕ) (has : HasSlot slot (live_orders a.book)) where
      abbrev was : Order
      was = order_of slot (live_orders a.book)

      abbrev of_other : Order
      of_other = order_of slot (live_orders b.book)

      was-same : of_other ≡ with_firm firm (firm slot) was
      was-same =
          ap (λ (x : Book). order_of slot (live_orders x)) h.book
          ∙ ap (order_of slot) (sym (map-append (of_firm (by_slot firm)) a.book.resting a.book.waiting))
          ∙ order-at firm slot (live_orders a.book) has

      -- the rules on an instrument, by what they look at in a state
      abbrev ruled : ListedInstrument → Order → Bool → List (Option Price) → Result ListedInstrument ChangeFault
      ruled instrument o live last = do
        _ ← refused_where (not (is_same_order instrument request o)) fault.Mismatch
        _ ← refused_where live fault.Duplicate
        _ ← refused_where (not (is_quantity request.quantity)) fault.Quantity
        _ ← refused_where (nat_le request.quantity o.filled) fault.Filled
        _ ← refused_where (has_off_tick instrument request.price request.trigger) fault.Tick
        _ ← refused_where (has_bad_stop request.kind request.side request.price request.trigger) fault.StopLimit
        _ ← refused_where (is_stop_reached request.kind request.side request.trigger (last_of instrument.number last)) fault.StopReached
        _ ← refused_where (nat_lt request.quantity o.show) fault.Show
        Ok instrument

      terms-same : is_live own request.id (live_orders b.book) ≡ is_live request.sender.firm request.id (live_orders a.book) → replace_terms product other of_other b ≡ replace_terms product request was a
      terms-same free =
          let live = is_live request.sender.firm request.id (live_orders a.book) in
          let go : (found : Option ListedInstrument)
          → (ok_or found fault.Mismatch >>= λ i. ruled i of_other (is_live own request.id (live_orders b.book)) b.last) ≡ (ok_or found fault.Mismatch >>= λ i. ruled i was live a.last) = elim [
            | None ↦ refl
            | Some i ↦
                ap (λ (o : Order). ruled i o (is_live own request.id (live_orders b.book)) b.last) was-same
                ∙ ap (λ (taken : Bool). ruled i was taken b.last) free
                ∙ ap (ruled i was live) h.last
          ] in go (instrument_of product request.named)

      -- in its place
      abbrev now : Order → Order
      now o = changed_to request.id request.quantity (least_after request o) o

      changed-same : (es : List Entry) → with_order slot (now of_other) (F firm es) ≡ F firm (with_order slot (now was) es)
      changed-same es = with-same firm slot (now was) (now of_other) es (λ here. ap now was-same)

      changed-book : book_changed slot request.id request.quantity (least_after request of_other) b.book ≡ book_of_firms firm (book_changed slot request.id request.quantity (least_after request was) a.book)
      changed-book =
          let B = λ (r w : List Entry). let v : Book = record a.book { resting = r; waiting = w } in v in
          let o = now of_other in
          ap (λ (x : Book). (let v : Book = record x { resting = with_order slot o x.resting; waiting = with_order slot o x.waiting } in v)) h.book
          ∙ ap (λ (r : List Entry). B r (with_order slot o (F firm a.book.waiting))) (changed-same a.book.resting)
          ∙ ap (B (F firm (with_order slot (now was) a.book.resting))) (changed-same a.book.waiting)

      in-place-served : AreServedAlike firm (replaced_in_place request slot a) (replaced_in_place other slot b)
      in-place-served = record {
        refused = refl;
        fills = refl;
        state = record { book = changed-book; last = h.last; desk = reported-same firm a.desk b.desk was.firm of_other.firm h.desk; trading = h.trading };
      }

      -- it comes in again
      starts : AreStarts firm (replaced_start request slot a) (replaced_start other slot b)
      starts =
          let own_firm : of_other.firm ≡ firm slot = ap (λ (o : Order). o.firm) was-same in
          let after = replaced_order request was in
          let left = without-book slot a.book b.book h.book in
          record {
            same = record {
              market = record { resting = ap (λ (x : Book). x.resting) left; incoming = ap (replaced_order other) was-same ∙ ap (λ (f : ℕ). with_firm firm f after) (sym own_firm); fills = refl };
              waiting = ap (λ (x : Book). x.waiting) left;
              own = own_firm ∙ ap firm (sym (number-at slot (live_orders a.book) numbered has));
            };
            book = left;
            desk = reported-same firm a.desk b.desk was.firm of_other.firm h.desk;
            refused = refl;
            numbered = all-filter IsByNumber (λ e. not (e.slot == slot)) a.book.waiting (all-back IsByNumber a.book.resting a.book.waiting numbered);
          }

      anew-served : (instrument : ListedInstrument) → AllByRecursion IsBlind instrument.rule.steps → AreServedAlike firm (replaced_anew by_number instrument request slot a) (replaced_anew by_number instrument other slot b)
      anew-served instrument blind = comes-in firm instrument.rule.steps instrument.number a b (replaced_start request slot a) (replaced_start other slot b) blind h starts

      replaced-served : (instrument : ListedInstrument) → AllByRecursion IsBlind instrument.rule.steps → AreServedAlike firm (replaced by_number instrument request slot a) (replaced by_number instrument other slot b)
      replaced-served instrument blind =
          let Step = λ (stays : Bool) (r : ReplaceOrder) (s : State). cond stays (replaced_in_place r slot s) (replaced_anew by_number instrument r slot s) in
          let go : (stays : Bool) → AreServedAlike firm (Step stays request a) (Step stays other b) = elim [ true ↦ in-place-served | false ↦ anew-served instrument blind ] in
          subst (λ (o : Order). AreServedAlike firm (replaced by_number instrument request slot a) (Step (keeps_place other o) other b)) (sym was-same) (go (keeps_place request was))

    refused-served : (why : ChangeFault) (n m filled given : ℕ) → AreServedAlike firm (replace_refused why request n filled a) (replace_refused why other m given b)
    refused-served why n m filled given = record {
      refused = refl;
      fills = refl;
      state = record { book = h.book; last = h.last; desk = lines-same a.desk b.desk (Some request.sender.firm) (Some own) h.desk; trading = h.trading };
    }

    by-terms : (slot : ℕ) → HasSlot slot (live_orders a.book) → HasBlindSteps product request.named → is_live own request.id (live_orders b.book) ≡ is_live request.sender.firm request.id (live_orders a.book)
        → AreServedAlike firm (replace_at (Some slot) by_number product request a) (replace_at (Some slot) by_number product other b)
    by-terms slot has blind free =
        let was = order_of slot (live_orders a.book) in
        let of_other = order_of slot (live_orders b.book) in
        let Blind : Option ListedInstrument → Type 0 = λ found. IfSome found (λ i. AllByRecursion IsBlind i.rule.steps) in
        let by : (r : Result ListedInstrument ChangeFault) → replace_terms product request was a ≡ r → AreServedAlike firm (replaced_or_refused r by_number request slot a) (replaced_or_refused r by_number other slot b) = elim [
          | Ok instrument ↦ λ is. replaced-served slot has instrument (subst Blind (replace-passes product request was a instrument is).named blind)
          | Err why ↦ λ is. refused-served why was.number of_other.number was.filled of_other.filled
        ] in
        let terms = replace_terms product request was a in
        subst (λ (r : Result ListedInstrument ChangeFault). AreServedAlike firm (replaced_or_refused terms by_number request slot a) (replaced_or_refused r by_number other slot b)) (sym (terms-same slot has free)) (by terms refl)

    replace-served : HasBlindSteps product request.named → slot_named own request.old (live_orders b.book) ≡ slot_named request.sender.firm request.old (live_orders a.book)
        → is_live own request.id (live_orders b.book) ≡ is_live request.sender.firm request.id (live_orders a.book)
        → AreServedAlike firm (request_step product (Replace request) a) (request_step product (Replace other) b)
    replace-served blind names free =
        let found = slot_named request.sender.firm request.old (live_orders a.book) in
        let by : (x : Option ℕ) → found ≡ x → AreServedAlike firm (replace_at x by_number product request a) (replace_at x by_number product other b) = elim [
          | None ↦ λ is. refused-served fault.Unknown 0 0 0 0
          | Some slot ↦ λ is. by-terms slot (named-has request.sender.firm request.old (live_orders a.book) slot is) blind free
        ] in
        let in_open : AreServedAlike firm (replace_at found by_number product request a) (replace_at (slot_named own request.old (live_orders b.book)) by_number product other b) =
        subst (λ (x : Option ℕ). AreServedAlike firm (replace_at found by_number product request a) (replace_at x by_number product other b)) (sym names) (by found refl) in
        let go : (trading : Trading) → AreServedAlike firm (step_in trading by_number product (Replace request) a) (step_in trading by_number product (Replace other) b) = elim [
          | Open ↦ in_open
          | Closed ↦ refused-served fault.Closed 0 0 0 0
        ] in
        subst (λ (trading : Trading). AreServedAlike firm (request_step product (Replace request) a) (step_in trading by_number product (Replace other) b)) (sym h.trading) (go a.trading)

-- ---- after every history

pub cancels-served : (firm : ℕ → ℕ) (own : ℕ) (next other : List ℕ) (request : CancelOrder) (b : State) → OfEachHistory (λ history.
    let product = last_product history in
    let a = state_kept history in
    AreOfOtherFirms firm a b → request_of product next ≡ Cancel request → request_of product other ≡ Cancel (cancel_of_firm own request)
    → slot_named own request.old (live_orders b.book) ≡ slot_named request.sender.firm request.old (live_orders a.book)
    → AreServedAlike firm (step_of product a next) (step_of product b other))
cancels-served firm own next other request b history right is h one two names =
    let product = last_product history in
    let a = state_kept history in
    requests-served firm product a b next other (Cancel request) (Cancel (cancel_of_firm own request)) one two
    (cancel-served firm product own request (with_message a) (with_message b) (counted-same firm a b h) names)

pub replaces-served : (firm : ℕ → ℕ) (own : ℕ) (next other : List ℕ) (request : ReplaceOrder) (b : State) → OfEachHistory (λ history.
    let product = last_product history in
    let a = state_kept history in
    AreOfOtherFirms firm a b → HasBlindSteps product request.named
    → request_of product next ≡ Replace request → request_of product other ≡ Replace (replace_of_firm own request)
    → slot_named own request.old (live_orders b.book) ≡ slot_named request.sender.firm request.old (live_orders a.book)
    → is_live own request.id (live_orders b.book) ≡ is_live request.sender.firm request.id (live_orders a.book)
    → AreServedAlike firm (step_of product a next) (step_of product b other))
replaces-served firm own next other request b history right is h blind one two names free =
    let product = last_product history in
    let a = state_kept history in
    requests-served firm product a b next other (Replace request) (Replace (replace_of_firm own request)) one two
    (replace-served firm product own request (with_message a) (with_message b) (counted-same firm a b h) (numbered-kept history right is) blind names free)
