-- What holds of every history, from what holds of each message.
use Rattle.std.proofs.Common.{◌≡◌, ℕ, ◌+◌, ◌≤◌, Bool, true, false, cond, ◌||◌, ◌&&◌, List, [], ◌∷◌, ◌++◌, map, filter, length, Option, Some, refl, sym, ap, subst, ◌∙◌, arith, inl, inr, ◌⊎◌, append_assoc}
use Rattle.std.specs.Prelude.{slice_get}
use Rattle.std.specs.List.{AllByRecursion}
use Rattle.std.proofs.lemmas.List.{append_cancel_left, append-nil}
use Rattle.gx_base.specs.declared.order.Life.{Life}
use Rattle.gx_base.specs.declared.order.Life.TheVariants.{Day, Gtc}
use Rattle.gx_base.specs.declared.order.Order.{Order}
use Rattle.gx_base.specs.declared.event.Event.{Event}
use Rattle.product_file.specs.Products.{ProductLists, IsRightProduct, has_top_by}
use Rattle.fix_request.specs.Requests.{request_of}
use Rattle.fix_request.specs.declared.request.CancelOrder.{CancelOrder}
use Rattle.fix_request.specs.declared.request.Request.{Request}
use Rattle.fix_request.specs.declared.request.Request.TheVariants.{Cancel}
use Rattle.plain_book.specs.declared.entry.Entry.{Entry}
use Rattle.plain_book.specs.Orders.{HasSlot, order_of, is_named, is_live, is_of, slot_of, slot_named}
use Rattle.plain_book.specs.Book.{Book, live_orders, IsResting, IsWaiting}
use Rattle.plain_book.proofs.Pairs.{all-from, all-with, all-append, pairs-map}
use Rattle.plain_book.proofs.Live.{orders-at}
use Rattle.plain_book.proofs.Right.{live-without, without-gone}
use Rattle.order_kinds.specs.State.{State, empty_state}
use Rattle.order_kinds.specs.NewOrders.{may_rest}
use Rattle.order_kinds.specs.Cancels.{cancelled, cancel_by, cancel_step}
use Rattle.order_kinds.specs.Stops.{by_number}
use Rattle.order_kinds.specs.Step.{with_message, request_step, step_of, state_after, events_from}
use Rattle.order_kinds.specs.Amendments.{untopped, amended_state}
use Rattle.order_kinds.specs.Histories.{History, of_product, amended, AreRightProducts, IsHistory, last_product, with_messages, length_kept, state_kept, events_kept}
use Rattle.order_kinds.specs.Balance.{last_open, total_filled, total_cancelled}
use Rattle.order_kinds.proofs.SessionSteps.{by-session}
use Rattle.order_kinds.proofs.LiveOrders.{named-own}
use Rattle.order_kinds.proofs.FurtherMessages.{state-further, events-further}
use Rattle.engine_laws.proofs.BalancedRequests.{named-has}
use Rattle.engine_laws.proofs.BalancedHistories.{histories-balance}
use Rattle.engine_laws.specs.Lines.{with_pairs}
use Rattle.image_laws.proofs.Held.{entry-at}
use Rattle.image_laws.proofs.Amended.{has-cut}
use Rattle.image_laws.proofs.Reached.{IsReached}
use Rattle.image_laws.proofs.States.{step-reached, starts}
use Rattle.image_laws.proofs.Histories.{history-reached}
use Rattle.market_laws.specs.Streams.{OfEachHistory, OfEachState, OfEachMessage}
use Rattle.market_laws.specs.Firms.{reports_of_firm, IsBalancedFor}
use Rattle.market_laws.proofs.FirmSums.{Adds, book_open, open-is, adds-same, adds-nothing, amended-open}
use Rattle.market_laws.specs.Lines.{KeepsTheLine}
use Rattle.market_laws.specs.Markets.{KeepsMarketsApart, unmarked, IsAmendedMarket, IsOut, IsNotOn, IsNoStopReached, LeavesNoneReached, IsCancelled, IsFree, IsTopFirst}
use Rattle.market_laws.proofs.Messages.{step-right, last-right, next-right, amended-reached}
use Rattle.market_laws.proofs.TopFirst.{NoTopAfter, TopsFirst, top-first}

-- ---- what each message keeps

-- what holds of the empty state, and what each message and each amendment keeps, holds of the state of every history
module _ (P : State → Type 0) (empty : (product : ProductLists) → P (empty_state product)) (amends : (product : ProductLists) (state : State) → P state → P (amended_state product state))
    (keeps : (product : ProductLists) → IsRightProduct product → (sent bound : ℕ) (state : State) (frame : List ℕ) → IsReached product sent bound state → P state → P (step_of product state frame).0) where
  messages-hold : (product : ProductLists) → IsRightProduct product → (sent bound : ℕ) (state : State) (frames : List (List ℕ)) → IsReached product sent bound state → P state → P (state_after product state frames)
  messages-hold product right sent bound state [] h k = k
  messages-hold product right sent bound state (frame ∷ frames) h k =
      let step = step_of product state frame in
      messages-hold product right (sent + 1) (bound + length step.1) step.0 frames (step-reached product right sent bound state frame h) (keeps product right sent bound state frame h k)

  histories-hold : OfEachState P
  histories-hold (of_product product messages) right is = messages-hold product right 0 0 (empty_state product) messages (starts product right) (empty product)
  histories-hold (amended before product messages) right is =
      messages-hold product right.1 (length_kept before) (length (events_kept before)) (amended_state product (state_kept before)) messages (amended-reached before product right.0 is.0 is.1)
      (amends product (state_kept before) (histories-hold before right.0 is.0))

-- ---- the line

pub line-kept : OfEachMessage KeepsTheLine
line-kept next history right is = (next-right history right is next).line

-- ---- stops

pub no-stop-reached : OfEachState IsNoStopReached
no-stop-reached = histories-hold IsNoStopReached (λ product. tt) (λ product state h. h) (λ product right sent bound state frame h k. (step-right product right sent bound state frame h).stops k)

pub leaves-none-reached : OfEachMessage (λ old step. LeavesNoneReached step)
leaves-none-reached next history right is = (next-right history right is next).fills

-- ---- TOP

tops-cut : (product : ProductLists) (es : List Entry) → TopsFirst es → TopsFirst (map (untopped product) es)
tops-cut product es h =
    let Any : Entry → Type 0 = λ e. Unit {0} in
    pairs-map NoTopAfter NoTopAfter Any (untopped product) (λ a b _ _ r on. ap (λ (top : Bool). top && has_top_by (slice_get product.rules b.order.instrument)) (r on)) es (all-from Any (λ e. tt) es) h

tops-first : OfEachState (λ state. TopsFirst state.book.resting)
tops-first =
    histories-hold (λ state. TopsFirst state.book.resting) (λ product. tt) (λ product state h. tops-cut product state.book.resting h) (λ product right sent bound state frame h k. (step-right product right sent bound state frame h).tops k)

pub top-is-first : OfEachState (λ state. IsTopFirst state.book.resting)
top-is-first history right is i d s top = top-first i d s (state_kept history).book.resting (tops-first history right is) top

-- ---- markets

pub markets-apart : OfEachMessage KeepsMarketsApart
markets-apart next history right is = elim ((next-right history right is next).market) [
  | inl one ↦ inl (record { instrument = one.instrument; reports = one.reports; others = λ j other. (let k = one.others j other in record { resting = k.resting; waiting = k.waiting; last = k.last }) })
  | inr all ↦ inr (record { was = all.was; is = all.is; reports = all.reports; each = λ i. (let k = all.each i in record { resting = k.resting; waiting = k.waiting; last = k.last }) })
]

cut-unmarked : (product : ProductLists) (i : ℕ) (es : List Entry) → unmarked (filter (is_of i) (map (untopped product) es)) ≡ unmarked (filter (is_of i) es)
cut-unmarked product i [] = refl
cut-unmarked product i (e ∷ es) =
    let F = filter (is_of i) (map (untopped product) es) in
    let G = filter (is_of i) es in
    let rest : unmarked F ≡ unmarked G = cut-unmarked product i es in
    let go : (b : Bool) → unmarked (cond b (untopped product e ∷ F) F) ≡ unmarked (cond b (e ∷ G) G) = elim [
      | true ↦ ap (λ (l : List (ℕ × Order)). (e.slot, e.order) ∷ l) rest
      | false ↦ rest
    ] in go (is_of i e)

pub amended-market : (product : ProductLists) (state : State) (instrument : ℕ) → IsAmendedMarket instrument state (amended_state product state)
amended-market product state i = record { resting = cut-unmarked product i state.book.resting; waiting = refl; last = refl }

-- ---- out means out

-- What follows a state reports nothing on the order of a number, and leaves it out.
record StaysOut (n : ℕ) (history longer : History) : Type 0 where
  more : List Event
  events : events_kept longer ≡ events_kept history ++ more
  reports : AllByRecursion (IsNotOn n) more
  out : IsOut n (state_kept longer)

module _ (n : ℕ) where
  out-counts : (state : State) → IsOut n state → IsOut n (with_message state)
  out-counts state h = record { given = h.given; gone = h.gone }

  frames-out : (product : ProductLists) → IsRightProduct product → (sent bound : ℕ) (state : State) (frames : List (List ℕ)) → IsReached product sent bound state → IsOut n state
      → AllByRecursion (IsNotOn n) (events_from product state frames) × IsOut n (state_after product state frames)
  frames-out product right sent bound state [] h out = (tt, out)
  frames-out product right sent bound state (frame ∷ frames) h out =
      let step = step_of product state frame in
      let now = (step-right product right sent bound state frame h).out n (out-counts state out) in
      let rest = frames-out product right (sent + 1) (bound + length step.1) step.0 frames (step-reached product right sent bound state frame h) now.out in
      (all-append (IsNotOn n) step.1 (events_from product step.0 frames) now.reports rest.0, rest.1)

  out-cut : (product : ProductLists) (state : State) → IsOut n state → IsOut n (amended_state product state)
  out-cut product state h = record { given = h.given; gone = λ k. h.gone (has-cut product n state.book.resting state.book.waiting k) }

  stays-both : (a b c : History) → StaysOut n a b → StaysOut n b c → StaysOut n a c
  stays-both a b c g h = record {
    more = g.more ++ h.more;
    events = h.events ∙ ap (λ (es : List Event). es ++ h.more) g.events ∙ append_assoc (events_kept a) g.more h.more;
    reports = all-append (IsNotOn n) g.more h.more g.reports h.reports;
    out = h.out;
  }

  messages-out : (history : History) (messages : List (List ℕ)) → AreRightProducts history → IsHistory history → IsOut n (state_kept history) → StaysOut n history (with_messages history messages)
  messages-out history messages right is out =
      let product = last_product history in
      let state = state_kept history in
      let rest = frames-out product (last-right history right) (length_kept history) (length (events_kept history)) state messages (history-reached history right is) out in
      record {
        more = events_from product state messages;
        events = events-further history messages;
        reports = rest.0;
        out = subst (IsOut n) (sym (state-further history messages)) rest.1;
      }

  amended-out : (history : History) (product : ProductLists) (messages : List (List ℕ)) → AreRightProducts (amended history product messages) → IsHistory (amended history product messages) → IsOut n (state_kept history)
      → StaysOut n history (amended history product messages)
  amended-out history product messages right is out =
      let start = amended_state product (state_kept history) in
      let rest = frames-out product right.1 (length_kept history) (length (events_kept history)) start messages (amended-reached history product right.0 is.0 is.1) (out-cut product (state_kept history) out) in
      record { more = events_from product start messages; events = refl; reports = rest.0; out = rest.1 }

-- the products of the front of a history
rights-front : (history : History) (pairs : List (ProductLists × List (List ℕ))) → AreRightProducts (with_pairs history pairs) → AreRightProducts history
rights-front history [] h = h
rights-front history (pair ∷ pairs) h = (rights-front (amended history pair.0 pair.1) pairs h).0

is-front : (history : History) (pairs : List (ProductLists × List (List ℕ))) → IsHistory (with_pairs history pairs) → IsHistory history
is-front history [] h = h
is-front history (pair ∷ pairs) h = (is-front (amended history pair.0 pair.1) pairs h).0

rights-before : (history : History) (messages : List (List ℕ)) → AreRightProducts (with_messages history messages) → AreRightProducts history
rights-before (of_product product messages) more h = h
rights-before (amended before product messages) more h = h

is-before : (history : History) (messages : List (List ℕ)) → IsHistory (with_messages history messages) → IsHistory history
is-before (of_product product messages) more h = h
is-before (amended before product messages) more h = h

module _ (n : ℕ) where
  pairs-out : (history : History) (pairs : List (ProductLists × List (List ℕ))) → AreRightProducts (with_pairs history pairs) → IsHistory (with_pairs history pairs) → IsOut n (state_kept history) → StaysOut n history (with_pairs history pairs)
  pairs-out history [] right is out = record { more = []; events = sym (append-nil (events_kept history)); reports = tt; out = out }
  pairs-out history (pair ∷ pairs) right is out =
      let next = amended history pair.0 pair.1 in
      let one = amended-out n history pair.0 pair.1 (rights-front next pairs right) (is-front next pairs is) out in
      stays-both n history next (with_pairs next pairs) one (pairs-out next pairs right is one.out)

  pub never-again : (history : History) (messages : List (List ℕ)) (pairs : List (ProductLists × List (List ℕ))) (more : List Event) → let longer = with_pairs (with_messages history messages) pairs in
      AreRightProducts longer → IsHistory longer → IsOut n (state_kept history) → events_kept longer ≡ events_kept history ++ more → AllByRecursion (IsNotOn n) more
  never-again history messages pairs more right is out same =
      let next = with_messages history messages in
      let first = messages-out n history messages (rights-before history messages (rights-front next pairs right)) (is-before history messages (is-front next pairs is)) out in
      let whole = stays-both n history next (with_pairs next pairs) first (pairs-out next pairs right is first.out) in
      subst (AllByRecursion (IsNotOn n)) (append_cancel_left (events_kept history) whole.more more (sym whole.events ∙ same)) whole.reports

live-open : (b : Book) (n : ℕ) → AllByRecursion (λ (e : Entry). IsResting b.instruments e.order) b.resting → AllByRecursion (λ (e : Entry). IsWaiting b.instruments e.order) b.waiting → HasSlot n (live_orders b) → 1 ≤ (order_of n (live_orders b)).leaves
live-open b n rest wait has =
    orders-at (λ (o : Order). 1 ≤ o.leaves) n (live_orders b)
    (all-append (λ (e : Entry). 1 ≤ e.order.leaves) b.resting b.waiting
    (all-with (λ (e : Entry). IsResting b.instruments e.order) (λ (e : Entry). 1 ≤ e.order.leaves) (λ e r. r.fit.some) b.resting rest)
    (all-with (λ (e : Entry). IsWaiting b.instruments e.order) (λ (e : Entry). 1 ≤ e.order.leaves) (λ e w. omega (arith, w.fit.some, w.fit.whole)) b.waiting wait)) has

-- an order of which nothing is open by its last report is out
pub closed-out : (n : ℕ) (history : History) → AreRightProducts history → IsHistory history → n ≤ (state_kept history).desk.orders → last_open n (events_kept history) ≡ 0 → IsOut n (state_kept history)
closed-out n history right is given none =
    let b = (state_kept history).book in
    let h = history-reached history right is in
    record {
      given = given;
      gone = λ has. omega (arith, live-open b n h.held.book.rest h.held.book.wait has, (histories-balance history right).leaves n, none);
    }

-- ---- a firm's balance

module _ (firm : ℕ) where
  messages-add : (product : ProductLists) → IsRightProduct product → (sent bound : ℕ) (state : State) (frames : List (List ℕ)) (told : List Event) → IsReached product sent bound state → Adds firm told (book_open firm state.book)
      → Adds firm (told ++ events_from product state frames) (book_open firm (state_after product state frames).book)
  messages-add product right sent bound state [] told h k = adds-nothing firm told (book_open firm state.book) k
  messages-add product right sent bound state (frame ∷ frames) told h k =
      let step = step_of product state frame in
      let one = (step-right product right sent bound state frame h).firms firm told k in
      subst (λ (l : List Event). Adds firm l (book_open firm (state_after product step.0 frames).book)) (append_assoc told step.1 (events_from product step.0 frames))
      (messages-add product right (sent + 1) (bound + length step.1) step.0 frames (told ++ step.1) (step-reached product right sent bound state frame h) one)

  histories-add : (history : History) → AreRightProducts history → IsHistory history → Adds firm (events_kept history) (book_open firm (state_kept history).book)
  histories-add (of_product product messages) right is = messages-add product right 0 0 (empty_state product) messages [] (starts product right) (record { is = refl })
  histories-add (amended before product messages) right is =
      messages-add product right.1 (length_kept before) (length (events_kept before)) (amended_state product (state_kept before)) messages (events_kept before) (amended-reached before product right.0 is.0 is.1)
      (adds-same firm (events_kept before) _ _ (sym (amended-open firm product (state_kept before).book)) (histories-add before right.0 is.0))

  pub firm-balances : OfEachHistory (λ history. IsBalancedFor firm (events_kept history) (state_kept history))
  firm-balances history right is =
      let own = reports_of_firm firm (events_kept history) in
      (histories-add history right is).is ∙ ap (λ (n : ℕ). total_filled own + (n + total_cancelled own)) (sym (open-is firm (live_orders (state_kept history).book)))

-- ---- cancels

named-some : (firm : ℕ) (id : List ℕ) (es : List Entry) → is_live firm id es ≡ true → (s : ℕ) × (slot_named firm id es ≡ Some s)
named-some firm id [] h = absurd (let k : false ≡ true = h in cc)
named-some firm id (e ∷ es) h =
    let F = filter (is_named firm id) es in
    let go : (b : Bool) → (b || is_live firm id es) ≡ true → (s : ℕ) × (slot_of (cond b (e ∷ F) F) ≡ Some s) = elim [
      | true ↦ λ k. (e.slot, refl)
      | false ↦ λ k. named-some firm id es k
    ] in go (is_named firm id e) h

-- a cancel does the same in both sessions
cancel-is : (product : ProductLists) (request : CancelOrder) (state : State) → request_step product (Cancel request) state ≡ cancel_step request state
cancel-is product request state = by-session (λ step. step ≡ cancel_step request state) by_number product (Cancel request) state (λ is_open. refl) (λ is_closed. refl)

pub cancels-succeed : (next : List ℕ) (request : CancelOrder) (history : History) → AreRightProducts history → IsHistory history
    → request_of (last_product history) next ≡ Cancel request → is_live request.sender.firm request.old (live_orders (state_kept history).book) ≡ true
    → IsCancelled request (with_message (state_kept history)) (step_of (last_product history) (state_kept history) next)
cancels-succeed next request history right is asked live =
    let product = last_product history in
    let state = with_message (state_kept history) in
    let b = state.book in
    let es = live_orders b in
    let h = history-reached history right is in
    let found = named-some request.sender.firm request.old es live in
    let s = found.0 in
    let has = named-has request.sender.firm request.old es s found.1 in
    let does : step_of product (state_kept history) next ≡ cancelled request s state =
    ap (λ (r : Request). request_step product r state) asked ∙ cancel-is product request state ∙ ap (λ (slot : Option ℕ). cancel_by slot request state) found.1 in
    let entry = entry-at product state.desk.orders s es h.held.entries has in
    let out : IsOut s (cancelled request s state).0 = record {
      given = omega (arith, entry.slot, entry.given);
      gone = λ k. without-gone s es (subst (HasSlot s) (live-without s b) k);
    } in
    record {
      slot = s;
      live = has;
      firm = named-own request.sender.firm request.old s es h.held.book.differ found.1;
      is = does;
      out = subst (λ (step : State × List Event). IsOut s step.0) (sym does) out;
    }

-- ---- orders that rest

rests-life : (life : Life) → (life ≡ Day) ⊎ (life ≡ Gtc) → may_rest life ≡ true
rests-life life is = elim is [ inl k ↦ ap may_rest k | inr k ↦ ap may_rest k ]

pub resting-free : OfEachState (λ state. AllByRecursion IsFree state.book.resting)
resting-free history right is =
    let b = (state_kept history).book in
    let h = history-reached history right is in
    all-with (λ (e : Entry). IsResting b.instruments e.order) IsFree (λ e r. record { life = rests-life e.order.life r.fit.life; min = r.fit.no_min }) b.resting h.held.book.rest
