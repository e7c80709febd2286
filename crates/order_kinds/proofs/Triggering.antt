-- An order was entered, and some of the stops that its trades reach: what holds after each turn, and at the end.
use Rattle.std.proofs.Common.{◌≡◌, ◌≢◌, ℕ, ◌+◌, ◌*◌, ◌≤◌, Bool, false, cond, List, length, Option, Some, None, refl, sym, ap, subst, ◌∙◌, arith, inl, inr, ◌⊎◌}
use Prim.Native.Nat.{suc}
use Rattle.std.specs.Prelude.{◌==◌}
use Rattle.std.proofs.lemmas.Bool.{ne_eqb}
use Rattle.std.proofs.lemmas.Bool.Decides.{eqb_tells, leb_tells}
use Rattle.gx_base.specs.declared.price.Price.{Price}
use Rattle.gx_base.specs.declared.order.Order.{Order}
use Rattle.gx_base.specs.declared.order.Taker.{Taker}
use Rattle.gx_base.specs.Emits.{EmitMeanings, Emits}
use Rattle.step_config.specs.declared.step.Step.{Step}
use Rattle.step_config.specs.RightSteps.{AreRightSteps}
use Rattle.plain_book.specs.declared.entry.Entry.{Entry}
use Rattle.plain_book.specs.Orders.{HasSlot, order_of, without}
use Rattle.plain_book.specs.Book.{Book, IsRight, AllDiffer, live_orders, book_without}
use Rattle.plain_book.specs.Match.{MatchState}
use Rattle.plain_book.specs.Matches.{MatchAt, start_at, IsNow, CanTrade}
use Rattle.plain_book.proofs.Levels.{AllDiffer-back, same}
use Rattle.plain_book.proofs.Right.{right-without, length-without}
use Rattle.order_kinds.specs.Entering.{entered, last_fill}
use Rattle.order_kinds.specs.Stops.{Naming, fill_range, first_reached, next_stop, stop_triggered, stop_entered, entered_with_stops}
use Rattle.order_kinds.specs.Inner.Apart.{EnterApart}
use Rattle.order_kinds.specs.Inner.Taking.{TakesPart, CountsRose, last_in_range}
use Rattle.order_kinds.specs.Inner.Triggering.{joined, later_price, ComesIn, HasRoomToComeIn, HasRoomToTrigger, slot_entered}
use Rattle.order_kinds.proofs.Counts.{rose-both, rose-within}
use Rattle.order_kinds.proofs.FillRanges.{range-entered}
use Rattle.order_kinds.proofs.LastPrices.{last-entered}
use Rattle.order_kinds.proofs.Triggered.{Stands, stands-then, slot-live}
use Rattle.order_kinds.proofs.FirstReached.{IsFirstReached, found-waits, found-order, found-instrument}
use Rattle.order_kinds.proofs.Cascade.{rest-entered, entered-instrument, entry_in, slot-ignores, slot-range, slot-last, rounds, rounds-same, rounds-done}

-- the same names, but for the order before which so many came in: it has this one
named_at : ℕ → ℕ → Naming → Naming
named_at turn name naming = λ k n. cond (k == turn) name (naming k n)

named-here : (turn name : ℕ) (naming : Naming) (n : ℕ) → named_at turn name naming turn n ≡ name
unfolding named_at
named-here turn name naming n = ap (λ (b : Bool). cond b name (naming turn n)) (same turn)

named-other : (turn name : ℕ) (naming : Naming) (k n : ℕ) → k ≢ turn → named_at turn name naming k n ≡ naming k n
unfolding named_at
named-other turn name naming k n other = ap (λ (b : Bool). cond b name (naming k n)) (ne_eqb k turn other)

le-or-more : (a b : ℕ) → (a ≤ b) ⊎ (b ≤ a)
le-or-more a b = elim (leb_tells a b) [ inl t ↦ inl t.1 | inr t ↦ inr (omega (arith, t.1)) ]

module _ {E : Type 0} (m : EmitMeanings E) (steps : List Step) (before : MatchAt E) where
  abbrev instrument : ℕ
  instrument = before.taker.order.instrument

  -- The order was entered, and so many stops, under some names with which slots stayed apart. The range and the last price
  -- are those of all fills so far.
  pub record HasTriggered (range : Option (Price × Price)) (last : Option Price) (now : MatchAt E) : Type 0 where
    pub turns : ℕ
    pub naming : Naming
    pub stands : Stands m before.out (rounds turns naming steps (start_at before)) now
    pub apart : (turn : ℕ) → turn ≤ turns → AllDiffer (live_orders (rounds turn naming steps (start_at before)).book)
    pub is_range : range ≡ fill_range (rounds turns naming steps (start_at before)).events
    pub is_last : last ≡ last_fill (rounds turns naming steps (start_at before)).events
    pub left : turns + length now.book.waiting ≡ length before.book.waiting
    pub listed : now.book.instruments ≡ before.book.instruments
    pub same_instrument : now.taker.order.instrument ≡ before.taker.order.instrument
    pub rose : CountsRose (2 * before.taker.order.leaves + 1 + 2000000 * turns) before.desk now.desk

  -- the first order was entered
  pub triggered-none : (now : MatchAt E) → IsRight before.book → IsRight now.book → AreRightSteps steps → before.taker.range ≡ None
      → TakesPart m (λ name. entered name steps) before now → CountsRose (2 * before.taker.order.leaves + 1) before.desk now.desk
      → HasTriggered now.taker.range (last_in_range now.taker.order.side now.taker.range) now
  triggered-none now right-before right steps-right no-range done rose =
      let start = start_at before in
      let name = done.name in
      let naming : Naming = λ k n. name in
      let x = entered name steps start in
      let is = done.now in
      let rest : now.book.waiting ≡ before.book.waiting = ap (λ (b : Book). b.waiting) (is.book ∙ rest-entered name steps start) in
      record {
        turns = 0;
        naming = naming;
        stands = record { now = done.now; emits = done.emits };
        apart = λ turn le.
            let first : 0 ≡ turn = omega arith in
            subst (λ (n : ℕ). AllDiffer (live_orders (rounds n naming steps start).book)) first (subst (λ (b : Book). AllDiffer (live_orders b)) is.book right.differ);
        is_range = ap (λ (t : Taker). t.range) is.taker ∙ sym (range-entered name steps start refl no-range);
        is_last = ap (λ (t : Taker). last_in_range t.order.side t.range) is.taker ∙ sym (last-entered name steps start right-before steps-right refl no-range);
        left = omega (arith, ap (λ (es : List Entry). length es) rest);
        listed = ap (λ (b : Book). b.instruments) (is.book ∙ rest-entered name steps start);
        same_instrument = ap (λ (t : Taker). t.order.instrument) is.taker ∙ entered-instrument name steps start;
        rose = rose-within (2 * before.taker.order.leaves + 1) (2 * before.taker.order.leaves + 1 + 2000000 * 0) before.desk now.desk (omega arith) rose;
      }

  module _ (range : Option (Price × Price)) (last : Option Price) (now : MatchAt E) (has : HasTriggered range last now) where
    abbrev state : MatchState
    state = rounds has.turns has.naming steps (start_at before)

    -- what is reached next
    next-is : (next : Option Entry) → first_reached instrument range now.book.waiting ≡ next → next_stop state ≡ next
    next-is next first =
        let is = has.stands.now in
        let x = state in
        ap (λ (t : Taker). first_reached t.order.instrument (fill_range x.events) x.book.waiting) (sym is.taker)
        ∙ ap (λ (i : ℕ). first_reached i (fill_range x.events) x.book.waiting) has.same_instrument
        ∙ ap (λ (r : Option (Price × Price)). first_reached instrument r x.book.waiting) (sym has.is_range)
        ∙ ap (λ (b : Book). first_reached instrument range b.waiting) (sym is.book)
        ∙ first

    -- ---- one stop more

    module _ (right : IsRight now.book) (slot : ℕ) (found : IsFirstReached instrument range now.book.waiting slot) where
      has-slot : HasSlot slot now.book.waiting
      has-slot = found-waits instrument range now.book right slot found

      module _ (after : MatchAt E) (done : TakesPart m (λ name. slot_entered slot name steps) now after) where
        abbrev naming : Naming
        naming = named_at (has.turns + 1) done.name has.naming

        -- the stop has left, and is the incoming order
        abbrev left_first : MatchState
        left_first = stop_triggered (entry_in slot state) state

        abbrev ended : MatchState
        ended = slot_entered slot done.name steps state

        as-before : (turn : ℕ) → turn ≤ has.turns → rounds turn naming steps (start_at before) ≡ rounds turn has.naming steps (start_at before)
        as-before turn le = rounds-same turn naming has.naming steps (start_at before) (λ k few n. let other : k ≢ has.turns + 1 = omega arith in named-other (has.turns + 1) done.name has.naming k n other)

        one-more : rounds (suc has.turns) naming steps (start_at before) ≡ ended
        one-more =
            let x = state in
            let stop = found.stop in
            let name = naming (has.turns + 1) in
            let enter : ℕ → Order → MatchState = λ n o. entered done.name steps (stop_triggered (record { slot = n; order = o; is_top = false }) x) in
            ap (λ (y : MatchState). stop_entered (next_stop y) name steps y) (as-before has.turns (omega arith))
            ∙ ap (λ (next : Option Entry). stop_entered next name steps x) (next-is (Some stop) found.first)
            ∙ ap (λ (n : ℕ). entered n steps (stop_triggered stop x)) (named-here (has.turns + 1) done.name has.naming stop.order.number)
            ∙ ap (λ (n : ℕ). enter n stop.order) found.has
            ∙ ap (enter slot) (sym (found-order instrument range now.book right slot found) ∙ ap (λ (b : Book). order_of slot b.waiting) has.stands.now.book)

        stands-more : Stands m before.out ended after
        stands-more = stands-then m before.out state now after (λ name. slot_entered slot name steps) (λ name. slot-ignores slot name steps) has.stands done

        -- of the book, the stop has left
        pub waiting-after : after.book.waiting ≡ without slot now.book.waiting
        waiting-after =
            ap (λ (b : Book). b.waiting) (stands-more.now.book ∙ rest-entered done.name steps left_first) ∙ ap (λ (b : Book). without slot b.waiting) (sym has.stands.now.book)

        pub fewer-wait : suc (length after.book.waiting) ≡ length now.book.waiting
        fewer-wait = ap (λ (es : List Entry). suc (length es)) waiting-after ∙ length-without slot now.book.waiting (AllDiffer-back now.book.resting now.book.waiting right.differ) has-slot

        pub triggered-more : IsRight after.book → AreRightSteps steps → CountsRose 2000000 now.desk after.desk → (more : Option (Price × Price)) (later : Option Price)
            → more ≡ joined range after.taker.range → later ≡ later_price last (last_in_range after.taker.order.side after.taker.range) → HasTriggered more later after
        triggered-more right-after steps-right rose more later is-more is-later =
            let start = start_at before in
            let turns = has.turns in
            let x = state in
            let y = ended in
            let step = one-more in
            let stands = stands-more in
            let gone : IsRight (book_without slot x.book) = subst (λ (b : Book). IsRight (book_without slot b)) has.stands.now.book (right-without now.book slot right (slot-live now.book right slot has-slot)) in
            let most = 2 * before.taker.order.leaves + 1 in
            record {
              turns = suc turns;
              naming = naming;
              stands = subst (λ (s : MatchState). Stands m before.out s after) (sym step) stands;
              apart = λ turn le. elim (eqb_tells turn (suc turns)) [
                | inl t ↦
                    subst (λ (n : ℕ). AllDiffer (live_orders (rounds n naming steps start).book)) (sym t.1)
                    (subst (λ (b : Book). AllDiffer (live_orders b)) (stands.now.book ∙ ap (λ (s : MatchState). s.book) (sym step)) right-after.differ)
                | inr t ↦
                    let other : turn ≢ suc turns = t.1 in
                    let few : turn ≤ turns = omega arith in
                    subst (λ (s : MatchState). AllDiffer (live_orders s.book)) (sym (as-before turn few)) (has.apart turn few)
              ];
              is_range = is-more ∙ ap (λ (r : Option (Price × Price)). joined r after.taker.range) has.is_range ∙ ap (λ (t : Taker). joined (fill_range x.events) t.range) stands.now.taker
                  ∙ sym (slot-range slot done.name steps x) ∙ ap (λ (s : MatchState). fill_range s.events) (sym step);
              is_last = is-later
                  ∙ ap (λ (p : Option Price). later_price p (last_in_range after.taker.order.side after.taker.range)) has.is_last
                  ∙ ap (λ (t : Taker). later_price (last_fill x.events) (last_in_range t.order.side t.range)) stands.now.taker
                  ∙ sym (slot-last slot done.name steps x gone steps-right)
                  ∙ ap (λ (s : MatchState). last_fill s.events) (sym step);
              left = omega (arith, fewer-wait, has.left);
              listed = ap (λ (b : Book). b.instruments) (stands.now.book ∙ rest-entered done.name steps left_first) ∙ ap (λ (b : Book). b.instruments) (sym has.stands.now.book) ∙ has.listed;
              same_instrument = ap (λ (t : Taker). t.order.instrument) stands.now.taker
                  ∙ entered-instrument done.name steps left_first
                  ∙ ap (λ (b : Book). (order_of slot b.waiting).instrument) (sym has.stands.now.book)
                  ∙ ap (λ (o : Order). o.instrument) (found-order instrument range now.book right slot found)
                  ∙ found-instrument instrument range now.book right slot found;
              rose = rose-within (most + 2000000 * turns + 2000000) (most + 2000000 * suc turns) before.desk after.desk (omega arith)
                  (rose-both (most + 2000000 * turns) 2000000 before.desk now.desk after.desk has.rose rose);
            }

    -- ---- the end

    pub triggered-rose : CountsRose (2 * before.taker.order.leaves + 1 + 2000000 * length before.book.waiting) before.desk now.desk
    triggered-rose =
        rose-within (2 * before.taker.order.leaves + 1 + 2000000 * has.turns) (2 * before.taker.order.leaves + 1 + 2000000 * length before.book.waiting) before.desk now.desk
        (omega (arith, has.left)) has.rose

    -- each counter has room for one stop more
    pub triggered-room : CanTrade before.book before.desk before.taker → HasRoomToComeIn before.book before.desk → HasRoomToTrigger now.desk
    triggered-room can room = record {
      messages = omega (arith, triggered-rose.messages, room.messages);
      orders = omega (arith, triggered-rose.orders, room.orders);
      counts = record {
        trades = omega (arith, triggered-rose.trades, room.counts.trades, room.few, can.whole, can.small);
        reports = omega (arith, triggered-rose.reports, room.counts.reports, room.few, can.whole, can.small);
        lines = λ i. omega (arith, triggered-rose.lines i, room.counts.lines i, room.few, can.whole, can.small);
      };
    }

    -- no stop that waits is reached
    pub triggered-all : first_reached instrument range now.book.waiting ≡ None
        → ComesIn m (λ naming. EnterApart naming steps) (λ naming. entered_with_stops naming steps) before now last
    triggered-all none =
        let start = start_at before in
        let naming = has.naming in
        let first = entered (naming 0 before.taker.order.number) steps start in
        let most = length first.book.waiting in
        let long : most ≡ length before.book.waiting = ap (λ (b : Book). length b.waiting) (rest-entered (naming 0 before.taker.order.number) steps start) in
        let done : (more : ℕ) → has.turns ≤ more → rounds more naming steps start ≡ state = rounds-done has.turns naming steps start (next-is None none) in
        let end : rounds most naming steps start ≡ state = done most (omega (arith, long, has.left)) in
        record {
          naming = naming;
          apart = λ turn.
              elim (le-or-more turn has.turns) [
                | inl le ↦ has.apart turn le
                | inr more ↦ subst (λ (s : MatchState). AllDiffer (live_orders s.book)) (sym (done turn more)) (has.apart has.turns (omega arith))
              ];
          now = subst (λ (s : MatchState). IsNow s now.book now.desk now.taker) (sym end) has.stands.now;
          emits = subst (λ (s : MatchState). Emits m before.out now.out s.events) (sym end) has.stands.emits;
          last = has.is_last ∙ ap (λ (s : MatchState). last_fill s.events) (sym end);
        }
