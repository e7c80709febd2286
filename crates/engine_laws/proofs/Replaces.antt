-- Replaces keep what has been told of the open orders.
use Rattle.std.proofs.Common.{◌≡◌, ℕ, ◌+◌, ◌-◌, ◌<◌, ◌≤◌, Bool, true, false, cond, not, List, [], ◌∷◌, ◌++◌, Option, Some, None, Result, Ok, Err, refl, sym, ap, subst, ◌∙◌, arith, inl, inr}
use Rattle.std.proofs.lemmas.List.Sorted.{IsPermutation-sym}
use Rattle.std.proofs.lemmas.Bool.Decides.{eqb_tells, nat_tests}
use Rattle.std.specs.Prelude.{◌==◌, nat_le}
use Rattle.std.specs.List.{AllByRecursion}
use Rattle.gx_base.specs.declared.order.Order.{Order}
use Rattle.gx_base.specs.declared.event.Head.{Head}
use Rattle.gx_base.specs.declared.event.Event.{Event}
use Rattle.gx_base.specs.declared.event.ChangeFault.{ChangeFault}
use Rattle.gx_base.specs.declared.event.ChangeFault.TheVariants as fault
use Rattle.step_config.specs.RightSteps.{AreRightSteps}
use Rattle.product_file.specs.Products.{ProductLists, IsRightProduct}
use Rattle.fix_request.specs.declared.request.ReplaceOrder.{ReplaceOrder}
use Rattle.plain_book.specs.declared.entry.Entry.{Entry}
use Rattle.plain_book.specs.Orders.{HasSlot, order_of, slot_named, without, with_order, reordered}
use Rattle.plain_book.specs.Book.{live_orders, AllDiffer, book_without, changed_to}
use Rattle.plain_book.specs.Match.{next_head}
use Rattle.plain_book.proofs.Levels.{renewed}
use Rattle.plain_book.proofs.Pairs.{all-filter, all-front, all-back, all-both, all-map}
use Rattle.plain_book.proofs.Tops.{at-slot}
use Rattle.plain_book.proofs.Right.{live-without, live-reordered}
use Rattle.order_kinds.specs.State.{State}
use Rattle.order_kinds.specs.Instruments.{ListedInstrument}
use Rattle.order_kinds.specs.Replaces.{replace_terms, least_after, keeps_place, replaced_order, replace_event, replaced_in_place, replaced_start, replaced_anew, replaced, replaced_or_refused, replace_at, replace_step}
use Rattle.order_kinds.specs.Stops.{by_number}
use Rattle.order_kinds.proofs.Refusals.{replace-passes}
use Rattle.engine_laws.proofs.Events.{paired-append}
use Rattle.engine_laws.proofs.Told.{Account, account, IsTold, told-shuffled, told-after}
use Rattle.engine_laws.proofs.Books.{accounts, IsByNumber, changed-same}
use Rattle.engine_laws.proofs.Trades.{Shows, Rests, InMatch}
use Rattle.engine_laws.proofs.Entered.{rest-differ, told-out, come-in-kept}
use Rattle.engine_laws.proofs.BalancedRequests.{TellsState, TellsStep, unchanged-kept, instrument-right, named-has, place-fewer}

-- ---- rules that refuse

above : (a b : ℕ) → nat_le a b ≡ false → b < a
above a b h = grind (arith, nat_tests)

-- a replace that no rule refuses has steps that are right, and wants more than is filled
record IsReplaced (instrument : ListedInstrument) (request : ReplaceOrder) (o : Order) : Type 0 where
  right : AreRightSteps instrument.rule.steps
  more : o.filled < request.quantity

terms-replaced : (product : ProductLists) (request : ReplaceOrder) (o : Order) (state : State) (instrument : ListedInstrument) → IsRightProduct product → replace_terms product request o state ≡ Ok instrument → IsReplaced instrument request o
terms-replaced product request o state instrument right h =
    let passes = replace-passes product request o state instrument h in
    record { right = instrument-right product request.named instrument right passes.named; more = above request.quantity o.filled passes.filled }

-- ---- what is told

told-replaced : {events : List Event} {orders : ℕ} (head : Head) (o : Order) (before : Order) (xs : List Account)
    → o.number ≡ before.number → o.filled ≡ before.filled → o.leaves ≡ o.quantity - before.filled → before.filled ≤ o.quantity → IsTold events orders (account before ∷ xs)
    → IsTold (events ++ replace_event before head o ∷ []) orders (account o ∷ xs)
told-replaced head o before xs number filled leaves le h =
    let was : before.quantity ≡ before.filled + before.leaves = h.whole.0 in
    let whole : o.quantity ≡ o.filled + o.leaves = omega (arith, filled, leaves, le) in
    told-after (replace_event before head o) o (account before) (account o) xs
    (record {
      is = refl;
      number = number;
      same = number;
      whole = whole;
      filled = omega (arith, filled);
      tells = refl;
      left = refl;
      adds = omega (arith, whole);
      spent = tt;
      enters = λ total all others gone most t. omega (arith, t, most, was, leaves, le);
    }) h

-- ---- in its place

module _ (request : ReplaceOrder) (slot : ℕ) (state : State) where
  abbrev was : Order
  was = order_of slot (live_orders state.book)

  abbrev now : Order
  now = changed_to request.id request.quantity (least_after request was) was

  now-shows : was.filled < request.quantity → request.quantity ≤ was.quantity → was.quantity ≡ was.filled + was.leaves → Shows was → Shows now
  now-shows more fewer whole h = record {
    some = omega (arith, more, h.some);
    within = omega arith;
    unhidden = λ e. (let all = h.unhidden e in omega (arith, all, fewer, whole));
  }

  -- the order of the slot, wherever it stands
  abbrev IsWas : Entry → Type 0
  IsWas e = e.slot ≡ slot → e.order ≡ was

  all-was : AllDiffer (live_orders state.book) → AllByRecursion IsWas (live_orders state.book)
  all-was d = at-slot (λ (o : Order). o ≡ was) slot (live_orders state.book) d refl

  number-kept : (e : Entry) → IsWas e → IsByNumber e → IsByNumber (reordered slot now e)
  number-kept e is n = elim (eqb_tells e.slot slot) [
    | inl t ↦ subst (λ (b : Bool). IsByNumber (cond b (renewed e now) e)) (sym t.0) (n ∙ ap (λ (o : Order). o.number) (is t.1))
    | inr t ↦ subst (λ (b : Bool). IsByNumber (cond b (renewed e now) e)) (sym t.0) n
  ]

  rests-kept : (Shows was → Shows now) → (e : Entry) → IsWas e → Rests e → Rests (reordered slot now e)
  rests-kept shows e is r =
      let number : IsByNumber (reordered slot now e) = number-kept e is r.0 in
      let shown : Shows (reordered slot now e).order = elim (eqb_tells e.slot slot) [
        | inl t ↦ subst (λ (b : Bool). Shows (cond b (renewed e now) e).order) (sym t.0) (shows (subst Shows (is t.1) r.1))
        | inr t ↦ subst (λ (b : Bool). Shows (cond b (renewed e now) e).order) (sym t.0) r.1
      ] in (number, shown)

  in-place-kept : (events : List Event) → HasSlot slot (live_orders state.book) → was.filled < request.quantity → request.quantity ≤ was.quantity → TellsState events state → TellsStep events (replaced_in_place request slot state)
  in-place-kept events has more fewer h =
      let b = state.book in
      let es = live_orders b in
      let differ = rest-differ events b state.desk.orders state.desk.trades h in
      let head = next_head state.desk was.firm request.sender.time in
      let out = told-out slot b differ has h.told in
      let left = accounts (live_orders (book_without slot b)) in
      let whole : was.quantity ≡ was.filled + was.leaves = out.whole.0 in
      let told = told-replaced head now was left refl refl refl (omega (arith, more)) out in
      let event : Event = replace_event was head now in
      let after : IsTold (events ++ event ∷ []) state.desk.orders (account now ∷ accounts (without slot es)) =
      subst (λ (l : List Entry). IsTold (events ++ event ∷ []) state.desk.orders (account now ∷ accounts l)) (live-without slot b) told in
      let standing = accounts (with_order slot now es) in
      let other = account now ∷ accounts (without slot es) in
      let turned = told-shuffled other standing (IsPermutation-sym standing other (changed-same slot now es differ has)) after in
      let each = all-was differ in
      record {
        told = subst (λ (l : List Entry). IsTold (events ++ event ∷ []) state.desk.orders (accounts l)) (sym (live-reordered slot now b)) turned;
        paired = paired-append 1 state.desk.trades state.desk.trades events (event ∷ []) h.paired refl;
        rest = all-map (λ (e : Entry). IsWas e × Rests e) Rests (reordered slot now) (λ e p. rests-kept (now-shows more fewer whole) e p.0 p.1) b.resting
            (all-both IsWas Rests b.resting (all-front IsWas b.resting b.waiting each) h.rest);
        wait = all-map (λ (e : Entry). IsWas e × IsByNumber e) IsByNumber (reordered slot now) (λ e p. number-kept e p.0 p.1) b.waiting
            (all-both IsWas IsByNumber b.waiting (all-back IsWas b.resting b.waiting each) h.wait);
      }

  -- ---- and anew

  start-kept : (events : List Event) → HasSlot slot (live_orders state.book) → was.filled < request.quantity → TellsState events state → InMatch events (replaced_start request slot state)
  start-kept events has more h =
      let b = state.book in
      let differ = rest-differ events b state.desk.orders state.desk.trades h in
      let after = replaced_order request was in
      let head = next_head state.desk after.firm request.sender.time in
      let event : Event = replace_event was head after in
      record {
        told = told-replaced head after was (accounts (live_orders (book_without slot b))) refl refl refl (omega (arith, more)) (told-out slot b differ has h.told);
        paired = paired-append 1 state.desk.trades state.desk.trades events (event ∷ []) h.paired refl;
        rest = all-filter Rests (λ e. not (e.slot == slot)) b.resting h.rest;
        wait = all-filter IsByNumber (λ e. not (e.slot == slot)) b.waiting h.wait;
      }

  anew-kept : (events : List Event) (instrument : ListedInstrument) → AreRightSteps instrument.rule.steps → HasSlot slot (live_orders state.book) → was.filled < request.quantity → TellsState events state
      → TellsStep events (replaced_anew by_number instrument request slot state)
  anew-kept events instrument right has more h =
      let end = come-in-kept events instrument.rule.steps right.each by_number (replaced_start request slot state) (λ before number. refl) (start-kept events has more h) in
      record { told = end.told; paired = end.paired; rest = end.rest; wait = end.wait }

  replaced-kept : (events : List Event) (instrument : ListedInstrument) → IsReplaced instrument request was → HasSlot slot (live_orders state.book) → TellsState events state → TellsStep events (replaced by_number instrument request slot state)
  replaced-kept events instrument is has h =
      let go : (c : Bool) → keeps_place request was ≡ c → TellsStep events (cond c (replaced_in_place request slot state) (replaced_anew by_number instrument request slot state)) = elim [
        | true ↦ λ stays. in-place-kept events has is.more (place-fewer request was stays) h
        | false ↦ λ leaves. anew-kept events instrument is.right has is.more h
      ] in go (keeps_place request was) refl

pub replace-kept : (product : ProductLists) (events : List Event) (request : ReplaceOrder) (state : State) → IsRightProduct product → TellsState events state → TellsStep events (replace_step by_number product request state)
replace-kept product events request state right h =
    let es = live_orders state.book in
    let by : (slot : ℕ) → HasSlot slot es → (r : Result ListedInstrument ChangeFault) → replace_terms product request (order_of slot es) state ≡ r → TellsStep events (replaced_or_refused r by_number request slot state) = λ slot has. elim [
      | Ok instrument ↦ λ is. replaced-kept request slot state events instrument (terms-replaced product request (order_of slot es) state instrument right is) has h
      | Err f ↦ λ is. unchanged-kept events request.sender request.id request.old (order_of slot es).number (order_of slot es).filled true f state h
    ] in
    let go : (slot : Option ℕ) → slot_named request.sender.firm request.old es ≡ slot → TellsStep events (replace_at slot by_number product request state) = elim [
      | None ↦ λ is. unchanged-kept events request.sender request.id request.old 0 0 true fault.Unknown state h
      | Some slot ↦ λ is. by slot (named-has request.sender.firm request.old es slot is) (replace_terms product request (order_of slot es) state) refl
    ] in go (slot_named request.sender.firm request.old es) refl
