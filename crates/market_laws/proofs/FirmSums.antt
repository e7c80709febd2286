-- What the reports on a firm's orders add up to, event by event and act by act.
use Rattle.std.proofs.Common.{◌≡◌, ℕ, ◌+◌, ◌-◌, Bool, true, false, cond, ◌&&◌, List, [], ◌∷◌, ◌++◌, map, filter, Option, Some, None, refl, sym, ap, subst, ◌∙◌, arith, sum_by, append_assoc}
use Rattle.std.specs.Prelude.{◌==◌}
use Rattle.std.proofs.lemmas.List.{append-nil, map-append}
use Rattle.std.proofs.lemmas.List.Elements.{filter-append}
use Rattle.std.proofs.lemmas.List.Sums.{sum_by-cons, sum_by-append}
use Rattle.gx_base.specs.declared.order.Order.{Order}
use Rattle.gx_base.specs.declared.event.Event.{Event}
use Rattle.plain_book.specs.declared.entry.Entry.{Entry}
use Rattle.gx_base.specs.declared.event.Event.TheVariants.{Accepted, Triggered, Cancelled, Replaced}
use Rattle.gx_base.specs.declared.event.Head.{Head}
use Rattle.gx_base.specs.declared.event.Cause.{Cause}
use Rattle.gx_base.specs.declared.order.Desk.{Desk}
use Rattle.product_file.specs.Products.{ProductLists}
use Rattle.gx_base.specs.declared.event.StepName.{StepName}
use Rattle.step_config.specs.declared.step.Step.{Step}
use Rattle.plain_book.specs.Orders.{HasSlot, order_of, reordered, with_order, settled, filled_by, is_new_best, with_top, topped, placed, lined_up}
use Rattle.plain_book.specs.Book.{Book, IsRight, AllDiffer, live_orders, book_without, first_shown, makes_top}
use Rattle.plain_book.specs.Match.{MatchState, taken_by, fill, trade, next_head, report_counted}
use Rattle.plain_book.proofs.Levels.{AllDiffer-front, HasSlot-right, order_of-right, slots-apart}
use Rattle.plain_book.proofs.Right.{live-without}
use Rattle.plain_book.proofs.Live.{fit_of}
use Rattle.order_kinds.specs.Entering.{closed, cancel_event, taker_cancelled, as_limit, top_min_of, taker_rested}
use Rattle.order_kinds.specs.Stops.{as_triggered, stop_triggered, taker_waiting}
use Rattle.order_kinds.specs.TradingSessions.{stays, expiring, book_closed, expired, expiry_reports}
use Rattle.order_kinds.specs.Amendments.{untopped}
use Rattle.engine_laws.proofs.Entered.{StandsIn}
use Rattle.engine_laws.proofs.BalancedClosings.{live-closed}
use Rattle.order_kinds.specs.Balance.{order_in, entered_with, entered_from, total_entered, filled_in, total_filled, cancelled_in, total_cancelled}
use Rattle.market_laws.specs.Firms.{has_firm, reports_of_firm}
use Rattle.market_laws.specs.Acts.{after}
use Rattle.market_laws.specs.Acts.Act.{notes}
use Rattle.market_laws.specs.Trades.{IsFit}
use Rattle.market_laws.proofs.Sums.{part, weight, halves, weight-with, weight-without, weight-placed, weight-lined, weight-map, weight-traded, weight-marked, weight-append}

entered-last : (total : ℕ) (xs : List Event) (x : Event) → entered_from total (xs ++ x ∷ []) ≡ entered_with (entered_from total xs) x
entered-last total [] x = refl
entered-last total (y ∷ xs) x = entered-last (entered_with total y) xs x

cond-same : (c : Bool) (n : ℕ) → cond c n n ≡ n
cond-same true n = refl
cond-same false n = refl

module _ (firm : ℕ) where
  abbrev pub is_own : Order → Bool
  is_own o = o.firm == firm

  abbrev pub own_part : Order → ℕ → ℕ
  own_part o lots = part is_own o lots

  -- the open lots of the firm's orders in a list
  abbrev pub own_open : List Entry → ℕ
  own_open es = sum_by (weight is_own) es

  pub open-is : (es : List Entry) → sum_by (λ (e : Entry). e.order.leaves) (filter (λ (e : Entry). e.order.firm == firm) es) ≡ own_open es
  open-is [] = refl
  open-is (e ∷ es) =
      let leaves = λ (x : Entry). x.order.leaves in
      let F = filter (λ (x : Entry). x.order.firm == firm) es in
      let go : (c : Bool) → sum_by leaves (cond c (e ∷ F) F) ≡ cond c e.order.leaves 0 + own_open es = elim [
        | true ↦ omega (arith, sum_by-cons leaves e F, open-is es)
        | false ↦ omega (arith, open-is es)
      ] in go (e.order.firm == firm) ∙ sym (sum_by-cons (weight is_own) e es)

  -- So much is open of what these events tell of the firm's orders.
  pub record Adds (events : List Event) (open_lots : ℕ) : Type 0 where
    pub is : total_entered (reports_of_firm firm events) ≡ total_filled (reports_of_firm firm events) + (open_lots + total_cancelled (reports_of_firm firm events))

  pub adds-same : (events : List Event) (a b : ℕ) → a ≡ b → Adds events a → Adds events b
  adds-same events a b is h = subst (Adds events) is h

  -- ---- one event more

  abbrev tells : Event → Bool
  tells x = has_firm firm (order_in x)

  own-last : (events : List Event) (x : Event) → reports_of_firm firm (events ++ x ∷ []) ≡ reports_of_firm firm events ++ cond (tells x) (x ∷ []) []
  own-last events x = filter-append tells events (x ∷ [])

  adds-other : (events : List Event) (x : Event) (open_lots : ℕ) → tells x ≡ false → Adds events open_lots → Adds (events ++ x ∷ []) open_lots
  adds-other events x open_lots off h =
      let own = reports_of_firm firm events in
      let same : reports_of_firm firm (events ++ x ∷ []) ≡ own = own-last events x ∙ ap (λ (b : Bool). own ++ cond b (x ∷ []) []) off ∙ append-nil own in
      record { is = subst (λ (l : List Event). total_entered l ≡ total_filled l + (open_lots + total_cancelled l)) (sym same) h.is }

  -- what an own event adds
  abbrev pub Changes : Event → ℕ → ℕ → Type 0
  Changes x before after = (entered filled cancelled : ℕ) → entered ≡ filled + (before + cancelled) → entered_with entered x ≡ (filled + filled_in x) + (after + (cancelled + cancelled_in x))

  adds-own : (events : List Event) (x : Event) (before after : ℕ) → tells x ≡ true → Changes x before after → Adds events before → Adds (events ++ x ∷ []) after
  adds-own events x before after on changes h =
      let own = reports_of_firm firm events in
      let same : reports_of_firm firm (events ++ x ∷ []) ≡ own ++ x ∷ [] = own-last events x ∙ ap (λ (b : Bool). own ++ cond b (x ∷ []) []) on in
      let filled : total_filled (own ++ x ∷ []) ≡ total_filled own + filled_in x = sum_by-append filled_in own (x ∷ []) ∙ ap (λ (n : ℕ). total_filled own + n) (sum_by-cons filled_in x []) ∙ omega arith in
      let cancelled : total_cancelled (own ++ x ∷ []) ≡ total_cancelled own + cancelled_in x = sum_by-append cancelled_in own (x ∷ []) ∙ ap (λ (n : ℕ). total_cancelled own + n) (sum_by-cons cancelled_in x []) ∙ omega arith in
      let entered : total_entered (own ++ x ∷ []) ≡ entered_with (total_entered own) x = entered-last 0 own x in
      record {
        is = subst (λ (l : List Event). total_entered l ≡ total_filled l + (after + total_cancelled l)) (sym same)
            (omega (arith, entered, filled, cancelled, changes (total_entered own) (total_filled own) (total_cancelled own) h.is));
      }

  -- An event on an order, of which so many lots were open and so many are, beside the rest of what the firm has open.
  pub adds-event : (events : List Event) (x : Event) (o : Order) (rest before after : ℕ) → order_in x ≡ Some o → Changes x (rest + before) (rest + after) → Adds events (rest + own_part o before) → Adds (events ++ x ∷ []) (rest + own_part o after)
  adds-event events x o rest before after of changes h =
      let tell : tells x ≡ is_own o = ap (has_firm firm) of in
      let go : (c : Bool) → is_own o ≡ c → Adds events (rest + cond c before 0) → Adds (events ++ x ∷ []) (rest + cond c after 0) = elim [
        | true ↦ λ is k. adds-own events x (rest + before) (rest + after) (tell ∙ is) changes k
        | false ↦ λ is k. adds-other events x (rest + 0) (tell ∙ is) k
      ] in go (is_own o) refl h

  -- an event on no order
  pub adds-none : (events : List Event) (x : Event) (open_lots : ℕ) → has_firm firm (order_in x) ≡ false → Adds events open_lots → Adds (events ++ x ∷ []) open_lots
  adds-none events x open_lots off h = adds-other events x open_lots off h

  -- ---- acts

  abbrev pub book_open : Book → ℕ
  book_open b = own_open (live_orders b)

  -- While an order comes in: what is open of it counts beside the book.
  abbrev pub AddsComing : List Event → MatchState → Type 0
  AddsComing before m = Adds (before ++ m.events) (book_open m.book + own_part m.taker.order m.taker.order.leaves)

  -- once it has come in
  abbrev pub AddsIn : List Event → MatchState → Type 0
  AddsIn before m = Adds (before ++ m.events) (book_open m.book)

  live-open : (b : Book) → book_open b ≡ own_open b.resting + own_open b.waiting
  live-open b = weight-append is_own b.resting b.waiting

  pushed : (before : List Event) (events : List Event) (x : Event) (n : ℕ) → Adds ((before ++ events) ++ x ∷ []) n → Adds (before ++ (events ++ x ∷ [])) n
  pushed before events x n h = subst (λ (l : List Event). Adds l n) (append_assoc before events (x ∷ [])) h

  pub part-none : (o : Order) → own_part o 0 ≡ 0
  part-none o = cond-same (is_own o) 0

  -- a trade: both orders are told of it
  pub trade-adds : (before : List Event) (step : StepName) (s lots : ℕ) (m : MatchState) → IsFit (record { before = m; step = step; slot = s; lots = lots }) → IsRight m.book → AddsComing before m → AddsComing before (trade step s lots m)
  trade-adds before step s lots m fit right h =
      let b = m.book in
      let es = b.resting in
      let o = order_of s es in
      let t = m.taker.order in
      let given = filled_by lots o in
      let taken = taken_by lots t in
      let left = own_open (settled s given es) + own_open b.waiting in
      let rested = fit_of b.instruments s es right.rest fit.rests in
      let one = weight-traded is_own (λ x k l n. refl) s lots es (AllDiffer-front es b.waiting right.differ) fit.rests (omega (arith, fit.shown, rested.within)) in
      let part_left = own_part t (t.leaves - lots) in
      let start : book_open b + own_part t t.leaves ≡ left + own_part t t.leaves + own_part o lots = omega (arith, live-open b, one) in
      let between : left + own_part t t.leaves + own_part given 0 ≡ left + own_part t t.leaves = omega (arith, part-none given) in
      let first = pushed before m.events _ (left + own_part t t.leaves + own_part given 0)
      (adds-event (before ++ m.events) (fill lots o.price step (m.desk.trades + 1) _ given) given (left + own_part t t.leaves) lots 0 refl (λ entered filled cancelled is. omega (arith, is))
      (adds-same (before ++ m.events) _ _ start h)) in
      let second = pushed before _ _ (left + own_part taken (t.leaves - lots))
      (adds-event _ (fill lots o.price step (m.desk.trades + 1) _ taken) taken left t.leaves (t.leaves - lots) refl (λ entered filled cancelled is. omega (arith, is, fit.wanted))
      (adds-same _ _ _ between first)) in
      adds-same _ (left + own_part taken (t.leaves - lots)) _ (ap (λ (n : ℕ). n + own_part taken (t.leaves - lots)) (sym (weight-append is_own (settled s given es) b.waiting))) second

  pub note-adds : (before : List Event) (s lots : ℕ) (m : MatchState) → HasSlot s m.book.resting → IsRight m.book → AddsComing before m → AddsComing before (after (notes s lots) m)
  note-adds before s lots m has right h =
      let b = m.book in
      let es = b.resting in
      let now : Order = record (order_of s es) { prorated = lots } in
      let one = weight-marked is_own (λ x k. refl) s lots es (AllDiffer-front es b.waiting right.differ) has in
      let other : Book = record b { resting = with_order s now es } in
      adds-same (before ++ m.events) _ _ (omega (arith, live-open b, live-open other, one)) h

  -- what is left of it is cancelled
  pub cancel-adds : (before : List Event) (why : Cause) (m : MatchState) → AddsComing before m → AddsIn before (taker_cancelled why m)
  cancel-adds before why m h =
      let o = m.taker.order in
      let b = book_open m.book in
      adds-same _ (b + own_part (closed o) 0) b (omega (arith, part-none (closed o)))
      (pushed before m.events _ (b + own_part (closed o) 0)
      (adds-event (before ++ m.events) (cancel_event why _ o) (closed o) b o.leaves 0 refl (λ entered filled cancelled is. omega (arith, is)) h))

  -- or comes to rest
  pub rest-adds : (before : List Event) (name : ℕ) (steps : List Step) (m : MatchState) → AddsComing before m → AddsIn before (taker_rested name steps m)
  rest-adds before name steps m h =
      let b = m.book in
      let es = b.resting in
      let o = as_limit m.taker.order in
      let N = λ (top : Bool). let x : Entry = record { slot = name; order = record o { shown = first_shown o }; is_top = top } in x in
      let marked = with_top o.instrument o.side None es in
      let kept : own_open marked ≡ own_open es = weight-map is_own (topped o.instrument o.side None) (λ e. refl) es in
      let list : (best : Bool) → own_open (cond best marked es) ≡ own_open es = elim [ true ↦ kept | false ↦ refl ] in
      let best = is_new_best o es in
      let n = N (best && makes_top (top_min_of steps) o.leaves) in
      let now : Book = record b { resting = placed n (cond best marked es) } in
      adds-same (before ++ m.events) _ _ (omega (arith, live-open b, live-open now, weight-placed is_own n (cond best marked es), list best)) h

  -- or waits
  pub wait-adds : (before : List Event) (name : ℕ) (m : MatchState) → AddsComing before m → AddsIn before (taker_waiting name m)
  wait-adds before name m h =
      let b = m.book in
      let n : Entry = record { slot = name; order = record m.taker.order { shown = 0 }; is_top = false } in
      let now : Book = record b { waiting = lined_up n b.waiting } in
      adds-same (before ++ m.events) _ _ (omega (arith, live-open b, live-open now, weight-lined is_own n b.waiting)) h

  -- a live order leaves the book
  pub open-without : (s : ℕ) (b : Book) → AllDiffer (live_orders b) → HasSlot s (live_orders b) → book_open (book_without s b) + own_part (order_of s (live_orders b)) (order_of s (live_orders b)).leaves ≡ book_open b
  open-without s b differ has = ap (λ (l : List Entry). own_open l + own_part (order_of s (live_orders b)) (order_of s (live_orders b)).leaves) (live-without s b) ∙ weight-without is_own s (live_orders b) differ has

  -- a stop is triggered
  pub trigger-adds : (before : List Event) (e : Entry) (m : MatchState) → StandsIn e m.book.waiting → AllDiffer (live_orders m.book) → AddsIn before m → AddsComing before (stop_triggered e m)
  trigger-adds before e m stands differ h =
      let b = m.book in
      let s = e.slot in
      let o = as_triggered e.order in
      let left = book_open (book_without s b) in
      let has = HasSlot-right s b.resting b.waiting stands.has in
      let is : order_of s (live_orders b) ≡ e.order = order_of-right s b.resting b.waiting (λ k. slots-apart s b.resting b.waiting differ k stands.has) ∙ stands.is in
      let all : left + own_part e.order e.order.leaves ≡ book_open b = ap (λ (q : Order). left + own_part q q.leaves) (sym is) ∙ open-without s b differ has in
      pushed before m.events _ (left + own_part o o.leaves)
      (adds-event (before ++ m.events) (Triggered _ o) o left o.leaves o.leaves refl (λ entered filled cancelled q. omega (arith, q)) (adds-same (before ++ m.events) _ _ (sym all) h))

  -- ---- messages

  pub adds-nothing : (told : List Event) (n : ℕ) → Adds told n → Adds (told ++ []) n
  adds-nothing told n h = subst (λ (l : List Event). Adds l n) (sym (append-nil told)) h

  -- a new order comes in
  pub accepted-adds : (told : List Event) (b : Book) (head : Head) (o : Order) → o.leaves ≡ o.quantity → Adds told (book_open b) → Adds (told ++ Accepted head o ∷ []) (book_open b + own_part o o.leaves)
  accepted-adds told b head o whole h =
      let start : book_open b ≡ book_open b + own_part o 0 = omega (arith, part-none o) in
      adds-event told (Accepted head o) o (book_open b) 0 o.leaves refl (λ entered filled cancelled is. omega (arith, is, whole)) (adds-same told _ _ start h)

  -- an order is replaced
  pub replaced-adds : (told : List Event) (rest : ℕ) (head : Head) (old : List ℕ) (was now : Order) → now.firm ≡ was.firm → was.filled + was.leaves ≡ was.quantity → now.leaves + was.filled ≡ now.quantity
      → Adds told (rest + own_part was was.leaves) → Adds (told ++ Replaced head now old was.quantity ∷ []) (rest + own_part now now.leaves)
  replaced-adds told rest head old was now same whole left h =
      let start : rest + own_part was was.leaves ≡ rest + own_part now was.leaves = ap (λ (f : ℕ). rest + cond (f == firm) was.leaves 0) (sym same) in
      adds-event told (Replaced head now old was.quantity) now rest was.leaves now.leaves refl (λ entered filled cancelled is. omega (arith, is, whole, left)) (adds-same told _ _ start h)

  -- where it stands
  pub open-with : (s : ℕ) (o : Order) (b : Book) → AllDiffer (live_orders b) → HasSlot s (live_orders b)
      → own_open (with_order s o b.resting ++ with_order s o b.waiting) ≡ book_open (book_without s b) + own_part o o.leaves
  open-with s o b differ has =
      let now = own_open (with_order s o b.resting ++ with_order s o b.waiting) in
      let live : now ≡ own_open (with_order s o (live_orders b)) = ap own_open (sym (map-append (reordered s o) b.resting b.waiting)) in
      omega (arith, live, weight-with is_own s o (live_orders b) differ has, open-without s b differ has)

  -- an order is cancelled on demand
  pub cancelled-adds : (told : List Event) (rest : ℕ) (head : Head) (o : Order) (by : Option (List ℕ)) (why : Cause) → Adds told (rest + own_part o o.leaves) → Adds (told ++ Cancelled head (closed o) o.leaves by why ∷ []) rest
  cancelled-adds told rest head o by why h =
      adds-same _ (rest + own_part (closed o) 0) rest (omega (arith, part-none (closed o)))
      (adds-event told (Cancelled head (closed o) o.leaves by why) (closed o) rest o.leaves 0 refl (λ entered filled cancelled is. omega (arith, is)) h)

  -- orders expire
  expiries-adds : (told : List Event) (time : List ℕ) (es : List Entry) (desk : Desk) (rest : ℕ) → Adds told (own_open es + rest) → Adds (told ++ (expiry_reports time es desk).1) rest
  expiries-adds told time [] desk rest h = adds-nothing told rest (adds-same told (0 + rest) rest (omega arith) h)
  expiries-adds told time (e ∷ es) desk rest h =
      let o = e.order in
      let x = expired (next_head desk o.firm time) o in
      let after = report_counted desk o.firm in
      let others = own_open es + rest in
      let start : own_open (e ∷ es) + rest ≡ others + own_part o o.leaves = omega (arith, sum_by-cons (weight is_own) e es) in
      let one : Adds (told ++ x ∷ []) others = adds-same _ (others + own_part (closed o) 0) others (omega (arith, part-none (closed o)))
      (adds-event told x (closed o) others o.leaves 0 refl (λ entered filled cancelled is. omega (arith, is)) (adds-same told _ _ start h)) in
      subst (λ (l : List Event). Adds l rest) (append_assoc told (x ∷ []) (expiry_reports time es after).1) (expiries-adds (told ++ x ∷ []) time es after rest one)

  pub close-adds : (told : List Event) (time : List ℕ) (b : Book) (desk : Desk) → Adds told (book_open b) → Adds (told ++ (expiry_reports time (expiring b) desk).1) (book_open (book_closed b))
  close-adds told time b desk h =
      let left : book_open (book_closed b) ≡ own_open (filter stays (live_orders b)) = ap own_open (live-closed b) in
      expiries-adds told time (expiring b) desk (book_open (book_closed b)) (adds-same told _ _ (omega (arith, left, halves is_own stays (live_orders b))) h)

  -- an amendment changes no quantity
  pub amended-open : (product : ProductLists) (b : Book) → own_open (map (untopped product) b.resting ++ b.waiting) ≡ book_open b
  amended-open product b = omega (arith, weight-append is_own (map (untopped product) b.resting) b.waiting, live-open b, weight-map is_own (untopped product) (λ e. refl) b.resting)
