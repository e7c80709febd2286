-- An order that comes in keeps what has been told of the open orders: it is matched, and then rests, waits or is cancelled, and
-- so is each stop that it triggers.
use Rattle.std.proofs.Common.{◌≡◌, ◌≢◌, ℕ, ◌+◌, min, Bool, true, false, cond, not, List, [], ◌∷◌, ◌++◌, filter, Option, Some, None, refl, sym, ap, subst, ◌∙◌, arith, inl, inr, append_assoc, length}
use Prim.Native.Nat.{zero, suc}
use Rattle.std.proofs.lemmas.List.Sorted.{IsPermutation-sym}
use Rattle.std.proofs.lemmas.Bool.Decides.{eqb_tells}
use Rattle.std.specs.Prelude.{◌==◌, ◌&&◌, nat_lt}
use Rattle.std.specs.List.{AllByRecursion}
use Rattle.gx_base.specs.declared.price.Price.{Price}
use Rattle.gx_base.specs.declared.order.Kind.{Kind}
use Rattle.gx_base.specs.declared.order.Kind.TheVariants.{Limit, Market, StopLimit}
use Rattle.gx_base.specs.declared.order.Order.{Order}
use Rattle.gx_base.specs.declared.event.Head.{Head}
use Rattle.gx_base.specs.declared.event.Cause.{Cause}
use Rattle.gx_base.specs.declared.event.Cause.TheVariants as cause
use Rattle.gx_base.specs.declared.event.Event.{Event}
use Rattle.gx_base.specs.declared.event.Event.TheVariants.{Cancelled, Triggered}
use Rattle.step_config.specs.declared.step.Step.{Step}
use Rattle.step_config.specs.RightSteps.{IsRightStep}
use Rattle.plain_book.specs.declared.entry.Entry.{Entry}
use Rattle.plain_book.specs.Orders.{HasSlot, order_of, is_of, stops_of, without, placed, lined_up, with_top, topped, is_new_best, is_at_earlier_level, is_of_earlier_instrument}
use Rattle.plain_book.specs.Book.{Book, live_orders, AllDiffer, first_shown, makes_top, book_without}
use Rattle.plain_book.specs.Match.{MatchState, next_head}
use Rattle.plain_book.proofs.Levels.{AllDiffer-filter, AllDiffer-back, HasSlot-filter, HasSlot-right, order_of-filter, order_of-right, slots-apart, same}
use Rattle.plain_book.proofs.Pairs.{all-filter, all-append, all-map}
use Rattle.plain_book.proofs.Right.{live-without}
use Rattle.level_sweep.specs.Sweep.{sweep}
use Rattle.level_sweep.proofs.Swept.{sweep-order}
use Rattle.order_kinds.specs.Balance.{ArePaired}
use Rattle.order_kinds.specs.NewOrders.{may_rest}
use Rattle.order_kinds.specs.Entering.{closed, taker_cancelled, top_min_of, as_limit, taker_rested, finished, open_for, entered}
use Rattle.order_kinds.specs.Stops.{Naming, fill_range, is_reached_by, first_entry, first_reached, next_stop, as_triggered, stop_triggered, stop_entered, stop_rounds, entered_with_stops, taker_waiting, come_in_as, come_in}
use Rattle.engine_laws.proofs.Events.{paired-append}
use Rattle.engine_laws.proofs.Told.{Account, account, IsTold, told-shuffled, told-closed, told-after}
use Rattle.engine_laws.proofs.Books.{accounts, AreSame, IsByNumber, placed-same, lined-same, topped-same, taken-same, same-front, same-back, numbered-differ}
use Rattle.engine_laws.proofs.Trades.{Shows, Rests, IsSound, InMatch, live-by-number}
use Rattle.engine_laws.proofs.Sweeps.{sweep-kept}

-- after these events, where no order comes in: only live orders are open
abbrev pub AtRest : List Event → MatchState → Type 0
AtRest before m = IsSound (before ++ m.events) [] m.book m.desk.orders m.desk.trades

pub rest-differ : (events : List Event) (b : Book) (orders trades : ℕ) → IsSound events [] b orders trades → AllDiffer (live_orders b)
rest-differ events b orders trades h = numbered-differ (live_orders b) (live-by-number b h.rest h.wait) h.told.single

-- ---- what is open is cancelled

pub told-cancelled : {events : List Event} {orders : ℕ} (head : Head) (o : Order) (by : Option (List ℕ)) (why : Cause) (xs : List Account)
    → IsTold events orders (account o ∷ xs) → IsTold (events ++ Cancelled head (closed o) o.leaves by why ∷ []) orders xs
told-cancelled head o by why xs h =
    let y : Account = record { number = o.number; quantity = o.filled; filled = o.filled; leaves = 0 } in
    told-closed y xs refl (told-after (Cancelled head (closed o) o.leaves by why) (closed o) (account o) y xs
    (record {
      is = refl;
      number = refl;
      same = refl;
      whole = omega arith;
      filled = omega arith;
      tells = refl;
      left = refl;
      adds = omega (arith, h.whole.0);
      spent = tt;
      enters = λ total all others gone within t. omega (arith, t);
    }) h)

cancelled-kept : (before : List Event) (why : Cause) (m : MatchState) → InMatch before m → AtRest before (taker_cancelled why m)
cancelled-kept before why m h =
    let o = m.taker.order in
    let events = before ++ m.events in
    let head = next_head m.desk o.firm m.taker.time in
    let event : Event = Cancelled head (closed o) o.leaves None why in
    let joined : events ++ event ∷ [] ≡ before ++ (m.events ++ event ∷ []) = append_assoc before m.events (event ∷ []) in
    record {
      told = subst (λ (l : List Event). IsTold l m.desk.orders (accounts (live_orders m.book))) joined (told-cancelled head o None why (accounts (live_orders m.book)) h.told);
      paired = subst (ArePaired 1 m.desk.trades) joined (paired-append 1 m.desk.trades m.desk.trades events (event ∷ []) h.paired refl);
      rest = h.rest;
      wait = h.wait;
    }

-- ---- coming to rest

first-shows : (o : Order) → o.leaves ≢ 0 → Shows (record o { shown = first_shown o })
first-shows o some = elim (eqb_tells o.show 0) [
  | inl t ↦
      let shown : first_shown o ≡ o.leaves = ap (λ (b : Bool). cond b o.leaves (min o.show o.leaves)) t.0 in
      record { some = omega (arith, shown, some); within = omega (arith, shown); unhidden = λ e. shown }
  | inr t ↦
      let shown : first_shown o ≡ min o.show o.leaves = ap (λ (b : Bool). cond b o.leaves (min o.show o.leaves)) t.0 in
      record { some = omega (arith, shown, some, t.1); within = omega (arith, shown); unhidden = λ e. absurd (t.1 e) }
]

rested-kept : (before : List Event) (name : ℕ) (steps : List Step) (m : MatchState) → name ≡ m.taker.order.number → m.taker.order.leaves ≢ 0 → InMatch before m → AtRest before (taker_rested name steps m)
rested-kept before name steps m named some h =
    let o = as_limit m.taker.order in
    let best = is_new_best o m.book.resting in
    let rests : Order = record o { shown = first_shown o } in
    let n : Entry = record { slot = name; order = rests; is_top = best && makes_top (top_min_of steps) o.leaves } in
    let marked = with_top o.instrument o.side None m.book.resting in
    let T = account m.taker.order in
    let here : Rests n = (named, first-shows o some) in
    let same_at : (b : Bool) → AreSame (accounts (placed n (cond b marked m.book.resting))) (T ∷ accounts m.book.resting) = elim [
      | true ↦ subst (λ (xs : List Account). AreSame (accounts (placed n marked)) (T ∷ xs)) (topped-same o.instrument o.side None m.book.resting) (placed-same n marked)
      | false ↦ placed-same n m.book.resting
    ] in
    let all_at : (b : Bool) → AllByRecursion Rests (cond b marked m.book.resting) = elim [
      | true ↦ all-map Rests Rests (topped o.instrument o.side None) (λ x r. r) m.book.resting h.rest
      | false ↦ h.rest
    ] in
    let es = cond best marked m.book.resting in
    let now = placed n es ++ m.book.waiting in
    let p = is_at_earlier_level n in
    record {
      told = told-shuffled (T ∷ accounts (live_orders m.book)) (accounts now)
          (IsPermutation-sym (accounts now) (T ∷ accounts (live_orders m.book)) (same-front (placed n es) m.book.resting T m.book.waiting (same_at best))) h.told;
      paired = h.paired;
      rest = all-append Rests (filter (λ e. not (p e)) es) (n ∷ filter p es) (all-filter Rests (λ e. not (p e)) es (all_at best)) (here, all-filter Rests p es (all_at best));
      wait = h.wait;
    }

waited-kept : (before : List Event) (name : ℕ) (m : MatchState) → name ≡ m.taker.order.number → InMatch before m → AtRest before (taker_waiting name m)
waited-kept before name m named h =
    let o = m.taker.order in
    let waits : Order = record o { shown = 0 } in
    let n : Entry = record { slot = name; order = waits; is_top = false } in
    let T = account o in
    let es = m.book.waiting in
    let now = m.book.resting ++ lined_up n es in
    let p = is_of_earlier_instrument n in
    record {
      told = told-shuffled (T ∷ accounts (live_orders m.book)) (accounts now)
          (IsPermutation-sym (accounts now) (T ∷ accounts (live_orders m.book)) (same-back (lined_up n es) es T m.book.resting (lined-same n es))) h.told;
      paired = h.paired;
      rest = h.rest;
      wait = all-append IsByNumber (filter (λ e. not (p e)) es) (n ∷ filter p es) (all-filter IsByNumber (λ e. not (p e)) es h.wait) (named, all-filter IsByNumber p es h.wait);
    }

-- ---- entering

module _ (before : List Event) (steps : List Step) (right : AllByRecursion IsRightStep steps) where
  finished-kept : (name : ℕ) (m : MatchState) → name ≡ m.taker.order.number → InMatch before m → AtRest before (finished name steps m)
  finished-kept name m named h =
      let T = account m.taker.order in
      let all_filled : m.taker.order.leaves ≡ 0 → AtRest before m = λ none. record { told = told-closed T (accounts (live_orders m.book)) none h.told; paired = h.paired; rest = h.rest; wait = h.wait } in
      let By = λ (a b : Bool). AtRest before (cond a m (cond b (taker_rested name steps m) (taker_cancelled cause.Fak m))) in
      elim (eqb_tells m.taker.order.leaves 0) [
        | inl t ↦ subst (λ (a : Bool). By a (may_rest m.taker.order.life)) (sym t.0) (all_filled t.1)
        | inr t ↦ subst (λ (a : Bool). By a (may_rest m.taker.order.life)) (sym t.0)
            (elim (may_rest m.taker.order.life) as (λ b. By false b) [ true ↦ rested-kept before name steps m named t.1 h | false ↦ cancelled-kept before cause.Fak m h ])
      ]

  pub entered-kept : (name : ℕ) (m : MatchState) → name ≡ m.taker.order.number → InMatch before m → AtRest before (entered name steps m)
  entered-kept name m named h =
      let swept = sweep steps m.taker.order.price m in
      let number = ap (λ (o : Order). o.number) (sweep-order steps m.taker.order.price m) in
      let go : (c : Bool) → AtRest before (cond c (taker_cancelled cause.MinQty m) (finished name steps swept)) = elim [
        | true ↦ cancelled-kept before cause.MinQty m h
        | false ↦ finished-kept name swept (named ∙ sym number) (sweep-kept before steps m.taker.order.price right m h)
      ] in go (nat_lt (open_for m) m.taker.order.min)

-- ---- a stop is triggered

-- an entry that stands in a list, by its slot
pub record StandsIn (e : Entry) (es : List Entry) : Type 0 where
  pub has : HasSlot e.slot es
  pub is : order_of e.slot es ≡ e.order

first-stands : (e : Entry) (es : List Entry) → first_entry es ≡ Some e → StandsIn e es
first-stands e [] h = absurd (let k : None ≡ Some e = h in cc)
first-stands e (x ∷ es) h =
    let k : Some x ≡ Some e = h in
    let here : x ≡ e = cc in
    subst (λ (y : Entry). StandsIn y (x ∷ es)) here (record { has = inl refl; is = ap (λ (b : Bool). cond b x.order (order_of x.slot es)) (same x.slot) })

filter-stands : (p : Entry → Bool) (e : Entry) (es : List Entry) → AllDiffer es → StandsIn e (filter p es) → StandsIn e es
filter-stands p e es d h = record { has = HasSlot-filter p e.slot es h.has; is = sym (order_of-filter p e.slot es d h.has) ∙ h.is }

pub marked-stands : (instrument : ℕ) (range : Option (Price × Price)) (es : List Entry) (e : Entry) → AllDiffer es → first_reached instrument range es ≡ Some e → StandsIn e es
marked-stands instrument None es e d h = absurd (let k : None ≡ Some e = h in cc)
marked-stands instrument (Some range) es e d h =
    filter-stands (is_of instrument) e es d (filter-stands (is_reached_by range) e (stops_of instrument es) (AllDiffer-filter (is_of instrument) es d) (first-stands e (filter (is_reached_by range) (stops_of instrument es)) h))

-- ---- an order leaves

-- a live order is open besides the others
pub told-out : {events : List Event} {orders : ℕ} (s : ℕ) (b : Book) → AllDiffer (live_orders b) → HasSlot s (live_orders b) → IsTold events orders (accounts (live_orders b))
    → IsTold events orders (account (order_of s (live_orders b)) ∷ accounts (live_orders (book_without s b)))
told-out {events} {orders} s b d has h =
    let es = live_orders b in
    let R = account (order_of s es) in
    subst (λ (l : List Entry). IsTold events orders (R ∷ accounts l)) (sym (live-without s b)) (told-shuffled (accounts es) (R ∷ accounts (without s es)) (taken-same s es d has) h)

told-triggered : {events : List Event} {orders : ℕ} (head : Head) (o : Order) (xs : List Account) → IsTold events orders (account o ∷ xs) → IsTold (events ++ Triggered head (as_triggered o) ∷ []) orders (account o ∷ xs)
told-triggered head o xs h =
    told-after (Triggered head (as_triggered o)) (as_triggered o) (account o) (account o) xs
    (record {
      is = refl;
      number = refl;
      same = refl;
      whole = h.whole.0;
      filled = omega arith;
      tells = refl;
      left = refl;
      adds = omega (arith, h.whole.0);
      spent = tt;
      enters = λ total all others gone within t. omega (arith, t);
    }) h

triggered-kept : (before : List Event) (e : Entry) (m : MatchState) → StandsIn e m.book.waiting → AtRest before m → InMatch before (stop_triggered e m)
triggered-kept before e m stands h =
    let b = m.book in
    let s = e.slot in
    let events = before ++ m.events in
    let differ = rest-differ events b m.desk.orders m.desk.trades h in
    let has : HasSlot s (live_orders b) = HasSlot-right s b.resting b.waiting stands.has in
    let is : order_of s (live_orders b) ≡ e.order = order_of-right s b.resting b.waiting (λ k. slots-apart s b.resting b.waiting differ k stands.has) ∙ stands.is in
    let o = as_triggered e.order in
    let head = next_head m.desk o.firm m.taker.time in
    let event : Event = Triggered head o in
    let left = accounts (live_orders (book_without s b)) in
    let out : IsTold events m.desk.orders (account e.order ∷ left) = subst (λ (x : Order). IsTold events m.desk.orders (account x ∷ left)) is (told-out s b differ has h.told) in
    let joined : events ++ event ∷ [] ≡ before ++ (m.events ++ event ∷ []) = append_assoc before m.events (event ∷ []) in
    record {
      told = subst (λ (l : List Event). IsTold l m.desk.orders (account e.order ∷ left)) joined (told-triggered head e.order left out);
      paired = subst (ArePaired 1 m.desk.trades) joined (paired-append 1 m.desk.trades m.desk.trades events (event ∷ []) h.paired refl);
      rest = all-filter Rests (λ x. not (x.slot == s)) b.resting h.rest;
      wait = all-filter IsByNumber (λ x. not (x.slot == s)) b.waiting h.wait;
    }

-- ---- an order comes in

-- each order is named by its number
abbrev pub NamesByNumber : Naming → Type 0
NamesByNumber naming = (before number : ℕ) → naming before number ≡ number

module _ (before : List Event) (steps : List Step) (right : AllByRecursion IsRightStep steps) where
  stop-kept : (name : ℕ → ℕ) (m : MatchState) → ((number : ℕ) → name number ≡ number) → (next : Option Entry) → next_stop m ≡ next → AtRest before m → AtRest before (stop_entered next name steps m)
  stop-kept name m named None is h = h
  stop-kept name m named (Some e) is h =
      let differ = AllDiffer-back m.book.resting m.book.waiting (rest-differ (before ++ m.events) m.book m.desk.orders m.desk.trades h) in
      let stands = marked-stands m.taker.order.instrument (fill_range m.events) m.book.waiting e differ is in
      entered-kept before steps right (name e.order.number) (stop_triggered e m) (named e.order.number) (triggered-kept before e m stands h)

  rounds-kept : (n : ℕ) (naming : Naming) (m : MatchState) → NamesByNumber naming → AtRest before m → AtRest before (stop_rounds n naming steps m)
  rounds-kept zero naming m named h = h
  rounds-kept (suc n) naming m named h =
      let k = stop_rounds n naming steps m in stop-kept (naming n) k (λ number. named n number) (next_stop k) refl (rounds-kept n naming m named h)

  with-stops-kept : (naming : Naming) (m : MatchState) → NamesByNumber naming → InMatch before m → AtRest before (entered_with_stops naming steps m)
  with-stops-kept naming m named h =
      let o = m.taker.order in
      let k = entered (naming 0 o.number) steps m in
      rounds-kept (length k.book.waiting) (λ n. naming (n + 1)) k (λ n number. named (n + 1) number) (entered-kept before steps right (naming 0 o.number) m (named 0 o.number) h)

  come-in-as-kept : (kind : Kind) (naming : Naming) (m : MatchState) → NamesByNumber naming → InMatch before m → AtRest before (come_in_as kind naming steps m)
  come-in-as-kept StopLimit naming m named h = waited-kept before (naming 0 m.taker.order.number) m (named 0 m.taker.order.number) h
  come-in-as-kept Limit naming m named h = with-stops-kept naming m named h
  come-in-as-kept Market naming m named h = with-stops-kept naming m named h

  pub come-in-kept : (naming : Naming) (m : MatchState) → NamesByNumber naming → InMatch before m → AtRest before (come_in naming steps m)
  come-in-kept naming m named h = come-in-as-kept m.taker.order.kind naming m named h
