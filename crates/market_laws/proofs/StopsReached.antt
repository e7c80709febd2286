-- When a message ends, no trade of it has reached a stop that waits.
use Rattle.std.proofs.Common.{◌≡◌, ℕ, ◌+◌, ◌≤◌, Bool, true, false, cond, not, List, [], ◌∷◌, filter, length, Option, Some, None, refl, sym, ap, subst, ◌∙◌, arith, inl, inr, ◌⊎◌}
use Prim.Native.Nat.{zero, suc}
use Rattle.std.specs.Prelude.{◌==◌, nat_lt, ℤ, int_lt, IfSome}
use Rattle.std.specs.List.{AllByRecursion}
use Rattle.std.proofs.lemmas.Bool.Decides.{eqb_tells, Decides-eqb}
use Rattle.std.proofs.lemmas.Int.{ints}
use Rattle.gx_base.specs.declared.price.Price.{Price}
use Rattle.gx_base.specs.declared.order.Side.{Side}
use Rattle.gx_base.specs.declared.order.Side.TheVariants.{Buy, Sell}
use Rattle.gx_base.specs.declared.order.Order.{Order}
use Rattle.gx_base.specs.declared.event.Event.{Event}
use Rattle.gx_base.specs.declared.event.Event.TheVariants.{Accepted, Triggered, Fill, Cancelled, Expired, Replaced, RefusedNew, RefusedChange, RefusedSession}
use Rattle.gx_base.specs.declared.event.Cause.TheVariants as cause
use Rattle.step_config.specs.declared.step.Step.{Step}
use Rattle.plain_book.specs.declared.entry.Entry.{Entry}
use Rattle.plain_book.specs.Orders.{is_of, stops_of, HasSlot, without}
use Rattle.plain_book.specs.Book.{Book}
use Rattle.plain_book.specs.Match.{MatchState, lengthened, lower, higher}
use Rattle.plain_book.proofs.Levels.{HasSlot-filter}
use Rattle.plain_book.proofs.Pairs.{all-from, all-with, all-both, all-filter}
use Rattle.level_sweep.specs.Sweep.{sweep}
use Rattle.level_sweep.proofs.Resting.{rest-sweep}
use Rattle.level_sweep.proofs.Swept.{sweep-order}
use Rattle.order_kinds.specs.NewOrders.{may_rest}
use Rattle.order_kinds.specs.OrderRules.{is_reached}
use Rattle.order_kinds.specs.Entering.{taker_cancelled, taker_rested, finished, open_for, entered, last_fill_from, last_fill, last_after}
use Rattle.order_kinds.specs.Stops.{Naming, fill_range_from, fill_range, stop_end, is_reached_by, first_entry, first_reached, next_stop, stop_triggered, stop_entered, stop_rounds, entered_with_stops}
use Rattle.image_laws.proofs.Arriving.{marked-on}
use Rattle.image_laws.proofs.Reached.{set-reads}
use Rattle.market_laws.specs.Markets.{IsReportOn, IsUnreached, ReachesNone}

-- ---- the last price lies in the range

abbrev IsWithinRange : Price → Price × Price → Type 0
IsWithinRange p r = (int_lt p.0 r.0.0 ≡ false) × (int_lt r.1.0 p.0 ≡ false)

record IsIn (range : Option (Price × Price)) (p : Price) : Type 0 where
  ends : Price × Price
  is : range ≡ Some ends
  within : IsWithinRange p ends

abbrev LastWithin : Option Price → Option (Price × Price) → Type 0
LastWithin last range = IfSome last (λ p. IsIn range p)

cond-lower : (c : Bool) (a b : Price) → int_lt a.0 b.0 ≡ c → int_lt b.0 (cond c a b).0 ≡ false
cond-lower true a b h = grind (arith, ints)
cond-lower false a b h = grind (arith, ints)

cond-higher : (c : Bool) (a b : Price) → int_lt a.0 b.0 ≡ c → int_lt (cond c b a).0 b.0 ≡ false
cond-higher true a b h = grind (arith, ints)
cond-higher false a b h = h

self-not-less : (z : ℤ) → int_lt z z ≡ false
self-not-less z = grind (arith, ints)

lengthened-has : (price : Price) (range : Option (Price × Price)) → IsIn (lengthened price range) price
lengthened-has price None = record { ends = (price, price); is = refl; within = (self-not-less price.0, self-not-less price.0) }
lengthened-has price (Some range) = record {
  ends = (lower range.0 price, higher range.1 price);
  is = refl;
  within = (cond-lower (int_lt range.0.0 price.0) range.0 price refl, cond-higher (int_lt range.1.0 price.0) range.1 price refl);
}

last-within-from : (last : Option Price) (range : Option (Price × Price)) (events : List Event) → LastWithin last range → LastWithin (last_fill_from last events) (fill_range_from range events)
last-within-from last range [] h = h
last-within-from last range (Fill head o lots price step trade ∷ events) h = last-within-from (Some price) (lengthened price range) events (lengthened-has price range)
last-within-from last range (_ ∷ events) h = last-within-from last range events h

last-within : (events : List Event) → LastWithin (last_fill events) (fill_range events)
last-within events = last-within-from None None events tt

-- ---- a stop that the range does not reach is not reached by a price in it

below : (a b c : ℤ) → int_lt a b ≡ false → not (int_lt a c) ≡ false → not (int_lt b c) ≡ false
below a b c h k = grind (arith, ints)

above : (a b c : ℤ) → int_lt b a ≡ false → not (int_lt c a) ≡ false → not (int_lt c b) ≡ false
above a b c h k = grind (arith, ints)

unmarked-unreached : (side : Side) (trigger p : Price) (r : Price × Price) → IsWithinRange p r → is_reached side trigger (stop_end side r) ≡ false → is_reached side trigger p ≡ false
unmarked-unreached Buy trigger p r within h = below r.1.0 p.0 trigger.0 within.1 h
unmarked-unreached Sell trigger p r within h = above r.0.0 p.0 trigger.0 within.0 h

-- ---- no stop is next

none-first : (p : Entry → Bool) (es : List Entry) → first_entry (filter p es) ≡ None → AllByRecursion (λ (e : Entry). p e ≡ false) es
none-first p [] h = tt
none-first p (e ∷ es) h =
    let go : (b : Bool) → p e ≡ b → first_entry (cond b (e ∷ filter p es) (filter p es)) ≡ None → AllByRecursion (λ (x : Entry). p x ≡ false) (e ∷ es) = elim [
      | true ↦ λ is k. absurd (let f : Some e ≡ None = k in cc)
      | false ↦ λ is k. (is, none-first p es k)
    ] in go (p e) refl h

under-filter : (P : Entry → Type 0) (q : Entry → Bool) (es : List Entry) → AllByRecursion P (filter q es) → AllByRecursion (λ (e : Entry). q e ≡ true → P e) es
under-filter P q [] h = tt
under-filter P q (e ∷ es) h =
    let go : (b : Bool) → q e ≡ b → AllByRecursion P (cond b (e ∷ filter q es) (filter q es)) → AllByRecursion (λ (x : Entry). q x ≡ true → P x) (e ∷ es) = elim [
      | true ↦ λ is k. ((λ _. k.0), under-filter P q es k.1)
      | false ↦ λ is k. ((λ on. absurd (let f : true ≡ false = sym on ∙ is in cc)), under-filter P q es k)
    ] in go (q e) refl h

-- no stop of the instrument is marked
none-marked : (i : ℕ) (r : Price × Price) (es : List Entry) → first_reached i (Some r) es ≡ None → AllByRecursion (λ (e : Entry). is_of i e ≡ true → is_reached_by r e ≡ false) es
none-marked i r es h = under-filter (λ (e : Entry). is_reached_by r e ≡ false) (is_of i) es (none-first (is_reached_by r) (stops_of i es) h)

-- what a match leaves unmarked, its last price leaves unreached
pub left-unreached : (i : ℕ) (events : List Event) (last : List (Option Price)) (es : List Entry) → first_reached i (fill_range events) es ≡ None → AllByRecursion (IsUnreached last) es
    → AllByRecursion (IsUnreached (last_after i (last_fill events) last)) es
left-unreached i events last es none h =
    let go : (price : Option Price) → last_fill events ≡ price → AllByRecursion (IsUnreached (last_after i price last)) es = elim [
      | None ↦ λ is. h
      | Some p ↦ λ is.
          let has : IsIn (fill_range events) p = subst (λ (x : Option Price). LastWithin x (fill_range events)) is (last-within events) in
          let marked = none-marked i has.ends es (ap (λ (r : Option (Price × Price)). first_reached i r es) (sym has.is) ∙ none) in
          let Unmarked = λ (e : Entry). is_of i e ≡ true → is_reached_by has.ends e ≡ false in
          all-with (λ (e : Entry). Unmarked e × IsUnreached last e) (IsUnreached (last_after i (Some p) last)) (λ e k.
          let Goal = λ (x : Option Price). IfSome x (λ q. is_reached e.order.side e.order.trigger q ≡ false) in
          elim (set-reads last i e.order.instrument (Some p)) [
            | inl same ↦ subst Goal (sym same) k.1
            | inr now ↦ subst Goal (sym now.1) (unmarked-unreached e.order.side e.order.trigger p has.ends has.within (k.0 ((Decides-eqb e.order.instrument i).1 (sym now.0))))
          ]) es (all-both Unmarked (IsUnreached last) es marked h)
    ] in go (last_fill events) refl

-- ---- rounds of stops

-- an order that is entered changes no waiting stop, and keeps its instrument
pub record IsEntered (m end : MatchState) : Type 0 where
  pub waiting : end.book.waiting ≡ m.book.waiting
  pub instrument : end.taker.order.instrument ≡ m.taker.order.instrument

pub entered-waits : (name : ℕ) (steps : List Step) (m : MatchState) → IsEntered m (entered name steps m)
entered-waits name steps m =
    let price = m.taker.order.price in
    let swept = sweep steps price m in
    let same : IsEntered m swept = record { waiting = ap (λ (b : Book). b.waiting) (rest-sweep steps price m); instrument = ap (λ (o : Order). o.instrument) (sweep-order steps price m) } in
    let as_same : (end : MatchState) → end.book.waiting ≡ swept.book.waiting → end.taker.order.instrument ≡ swept.taker.order.instrument → IsEntered m end = λ end w i. record { waiting = w ∙ same.waiting; instrument = i ∙ same.instrument } in
    let ended : (c d : Bool) → IsEntered m (cond c swept (cond d (taker_rested name steps swept) (taker_cancelled cause.Fak swept))) = elim [
      | true ↦ λ d. same
      | false ↦ elim [ true ↦ as_same (taker_rested name steps swept) refl refl | false ↦ as_same (taker_cancelled cause.Fak swept) refl refl ]
    ] in
    let go : (c : Bool) → IsEntered m (cond c (taker_cancelled cause.MinQty m) (finished name steps swept)) = elim [
      | true ↦ record { waiting = refl; instrument = refl }
      | false ↦ ended (swept.taker.order.leaves == 0) (may_rest swept.taker.order.life)
    ] in go (nat_lt (open_for m) m.taker.order.min)

shorter : (p : Entry → Bool) (es : List Entry) → length (filter p es) ≤ length es
shorter p [] = omega arith
shorter p (e ∷ es) =
    let go : (b : Bool) → length (cond b (e ∷ filter p es) (filter p es)) ≤ suc (length es) = elim [ true ↦ omega (arith, shorter p es) | false ↦ omega (arith, shorter p es) ] in go (p e)

fewer : (s : ℕ) (es : List Entry) → HasSlot s es → suc (length (without s es)) ≤ length es
fewer s [] h = absurd h
fewer s (e ∷ es) h = elim (eqb_tells e.slot s) [
  | inl t ↦ subst (λ (b : Bool). suc (length (cond (not b) (e ∷ without s es) (without s es))) ≤ suc (length es)) (sym t.0) (omega (arith, shorter (λ x. not (x.slot == s)) es))
  | inr t ↦ elim h [
    | inl a ↦ absurd (t.1 a)
    | inr a ↦ subst (λ (b : Bool). suc (length (cond (not b) (e ∷ without s es) (without s es))) ≤ suc (length es)) (sym t.0) (omega (arith, fewer s es a))
  ]
]

first-has : (e : Entry) (es : List Entry) → first_entry es ≡ Some e → HasSlot e.slot es
first-has e [] h = absurd (let k : None ≡ Some e = h in cc)
first-has e (x ∷ es) h = let k : Some x ≡ Some e = h in let here : x ≡ e = cc in inl (ap (λ (y : Entry). y.slot) here)

next-has : (m : MatchState) (e : Entry) → next_stop m ≡ Some e → HasSlot e.slot m.book.waiting
next-has m e is =
    let i = m.taker.order.instrument in
    let es = m.book.waiting in
    let go : (range : Option (Price × Price)) → first_reached i range es ≡ Some e → HasSlot e.slot es = elim [
      | None ↦ λ k. absurd (let f : None ≡ Some e = k in cc)
      | Some range ↦ λ k. HasSlot-filter (is_of i) e.slot es (HasSlot-filter (is_reached_by range) e.slot (stops_of i es) (first-has e (filter (is_reached_by range) (stops_of i es)) k))
    ] in go (fill_range m.events) is

module _ (P : Entry → Type 0) (steps : List Step) (i : ℕ) where
  -- after so many rounds no stop is next, or so many stops wait no more
  record IsCascade (rounds : ℕ) (a m : MatchState) : Type 0 where
    ended : (next_stop m ≡ None) ⊎ (length m.book.waiting + rounds ≤ length a.book.waiting)
    waiting : AllByRecursion P m.book.waiting
    on : m.taker.order.instrument ≡ i

  cascade-next : (rounds : ℕ) (name : ℕ → ℕ) (a m : MatchState) (next : Option Entry) → next_stop m ≡ next → IsCascade rounds a m → IsCascade (suc rounds) a (stop_entered next name steps m)
  cascade-next rounds name a m None is h = record { ended = inl is; waiting = h.waiting; on = h.on }
  cascade-next rounds name a m (Some e) is h =
      let start = stop_triggered e m in
      let k = entered-waits (name e.order.number) steps start in
      let has = next-has m e is in
      let less : suc (length (without e.slot m.book.waiting)) ≤ length m.book.waiting = fewer e.slot m.book.waiting has in
      let many : length (entered (name e.order.number) steps start).book.waiting ≡ length (without e.slot m.book.waiting) = ap length k.waiting in
      record {
        ended = elim h.ended [
          | inl none ↦ absurd (let f : None ≡ Some e = sym none ∙ is in cc)
          | inr le ↦ inr (omega (arith, le, less, many))
        ];
        waiting = subst (AllByRecursion P) (sym k.waiting) (all-filter P (λ x. not (x.slot == e.slot)) m.book.waiting h.waiting);
        on = k.instrument ∙ marked-on m.taker.order.instrument (fill_range m.events) m.book.waiting e is ∙ h.on;
      }

  cascade : (n : ℕ) (naming : Naming) (m : MatchState) → AllByRecursion P m.book.waiting → m.taker.order.instrument ≡ i → IsCascade n m (stop_rounds n naming steps m)
  cascade zero naming m h on = record { ended = inr (omega arith); waiting = h; on = on }
  cascade (suc n) naming m h on = let k = stop_rounds n naming steps m in cascade-next n (naming n) m k (next_stop k) refl (cascade n naming m h on)

  none-left : (m : MatchState) (es : List Entry) → m.book.waiting ≡ es → length es ≡ 0 → next_stop m ≡ None
  none-left m [] is h =
      let j = m.taker.order.instrument in
      let go : (range : Option (Price × Price)) → first_reached j range [] ≡ None = elim [ None ↦ refl | Some range ↦ refl ] in
      ap (first_reached j (fill_range m.events)) is ∙ go (fill_range m.events)
  none-left m (e ∷ es) is h = absurd (omega (arith, h))

  -- what an order that came in with its stops leaves
  pub record IsSettled (end : MatchState) : Type 0 where
    pub none : next_stop end ≡ None
    pub waiting : AllByRecursion P end.book.waiting
    pub on : end.taker.order.instrument ≡ i

  pub with-stops-settled : (naming : Naming) (m : MatchState) → AllByRecursion P m.book.waiting → m.taker.order.instrument ≡ i → IsSettled (entered_with_stops naming steps m)
  with-stops-settled naming m h on =
      let first = entered (naming 0 m.taker.order.number) steps m in
      let k = entered-waits (naming 0 m.taker.order.number) steps m in
      let c = cascade (length first.book.waiting) (λ before. naming (before + 1)) first (subst (AllByRecursion P) (sym k.waiting) h) (k.instrument ∙ on) in
      let end = entered_with_stops naming steps m in
      record {
        none = elim c.ended [ inl none ↦ none | inr le ↦ none-left end end.book.waiting refl (omega (arith, le)) ];
        waiting = c.waiting;
        on = c.on;
      }

-- ---- each fill lies in the range

-- each price of a range lies in a longer one
abbrev Covers : Option (Price × Price) → Option (Price × Price) → Type 0
Covers range longer = (p : Price) → IsIn range p → IsIn longer p

wider-low : (c : Bool) (a b p : Price) → int_lt a.0 b.0 ≡ c → int_lt p.0 a.0 ≡ false → int_lt p.0 (cond c a b).0 ≡ false
wider-low true a b p h k = k
wider-low false a b p h k = grind (arith, ints)

wider-high : (c : Bool) (a b p : Price) → int_lt a.0 b.0 ≡ c → int_lt a.0 p.0 ≡ false → int_lt (cond c b a).0 p.0 ≡ false
wider-high true a b p h k = grind (arith, ints)
wider-high false a b p h k = k

covers-longer : (price : Price) (range : Option (Price × Price)) → Covers range (lengthened price range)
covers-longer price None p h = absurd (let k : None ≡ Some h.ends = h.is in cc)
covers-longer price (Some range) p h =
    let k : Some range ≡ Some h.ends = h.is in
    let same : range ≡ h.ends = cc in
    let within : IsWithinRange p range = subst (IsWithinRange p) (sym same) h.within in
    record {
      ends = (lower range.0 price, higher range.1 price);
      is = refl;
      within = (wider-low (int_lt range.0.0 price.0) range.0 price p refl within.0, wider-high (int_lt range.1.0 price.0) range.1 price p refl within.1);
    }

covers-from : (range : Option (Price × Price)) (events : List Event) → Covers range (fill_range_from range events)
covers-from range [] p h = h
covers-from range (Fill head o lots price step trade ∷ events) p h = covers-from (lengthened price range) events p (covers-longer price range p h)
covers-from range (_ ∷ events) p h = covers-from range events p h

-- a fill has a price of the range
abbrev IsFillWithin : Option (Price × Price) → Event → Type 0
IsFillWithin range (Fill head o lots price step trade) = IsIn range price
IsFillWithin range _ = Unit {0}

-- the fills of a list lie in a range that covers that of the list
fills-within-from : (whole range : Option (Price × Price)) (events : List Event) → Covers (fill_range_from range events) whole → AllByRecursion (IsFillWithin whole) events
fills-within-from whole range [] h = tt
fills-within-from whole range (Fill head o lots price step trade ∷ events) h =
    let longer = lengthened price range in
    (h price (covers-from longer events price (lengthened-has price range)), fills-within-from whole longer events h)
fills-within-from whole range (Accepted head o ∷ events) h = (tt, fills-within-from whole range events h)
fills-within-from whole range (Triggered head o ∷ events) h = (tt, fills-within-from whole range events h)
fills-within-from whole range (Cancelled head o gone by cause ∷ events) h = (tt, fills-within-from whole range events h)
fills-within-from whole range (Expired head o gone ∷ events) h = (tt, fills-within-from whole range events h)
fills-within-from whole range (Replaced head o old before ∷ events) h = (tt, fills-within-from whole range events h)
fills-within-from whole range (RefusedNew head new fault ∷ events) h = (tt, fills-within-from whole range events h)
fills-within-from whole range (RefusedChange head id old number filled replace fault ∷ events) h = (tt, fills-within-from whole range events h)
fills-within-from whole range (RefusedSession head seq tag reason rule ∷ events) h = (tt, fills-within-from whole range events h)

fills-within : (events : List Event) → AllByRecursion (IsFillWithin (fill_range events)) events
fills-within events = fills-within-from (fill_range events) None events (λ p h. h)

-- after it, the last trade price reaches no stop
pub with-stops-unreached : (steps : List Step) (naming : Naming) (m : MatchState) (last : List (Option Price)) → AllByRecursion (IsUnreached last) m.book.waiting
    → let end = entered_with_stops naming steps m in AllByRecursion (IsUnreached (last_after m.taker.order.instrument (last_fill end.events) last)) end.book.waiting
with-stops-unreached steps naming m last h =
    let i = m.taker.order.instrument in
    let end = entered_with_stops naming steps m in
    let s = with-stops-settled (IsUnreached last) steps i naming m h refl in
    left-unreached i end.events last end.book.waiting (ap (λ (j : ℕ). first_reached j (fill_range end.events) end.book.waiting) (sym s.on) ∙ s.none) s.waiting

-- and no fill of the message reaches a stop of its instrument
reaches-none : (i : ℕ) (range : Option (Price × Price)) (es : List Entry) (event : Event) → first_reached i range es ≡ None → IsFillWithin range event → IsReportOn i event → ReachesNone es event
reaches-none i range es (Fill head o lots price step trade) none within on =
    let unreached = none-marked i within.ends es (ap (λ (r : Option (Price × Price)). first_reached i r es) (sym within.is) ∙ none) in
    all-with (λ (e : Entry). is_of i e ≡ true → is_reached_by within.ends e ≡ false) (λ (e : Entry). e.order.instrument ≡ o.instrument → is_reached e.order.side e.order.trigger price ≡ false)
    (λ e k same. unmarked-unreached e.order.side e.order.trigger price within.ends within.within (k ((Decides-eqb e.order.instrument i).1 (same ∙ on)))) es unreached
reaches-none i range es (Accepted head o) none within on = tt
reaches-none i range es (Triggered head o) none within on = tt
reaches-none i range es (Cancelled head o gone by cause) none within on = tt
reaches-none i range es (Expired head o gone) none within on = tt
reaches-none i range es (Replaced head o old before) none within on = tt
reaches-none i range es (RefusedNew head new fault) none within on = tt
reaches-none i range es (RefusedChange head id old number filled replace fault) none within on = tt
reaches-none i range es (RefusedSession head seq tag reason rule) none within on = tt

all-reach-none : (i : ℕ) (range : Option (Price × Price)) (es : List Entry) (events : List Event) → first_reached i range es ≡ None → AllByRecursion (IsFillWithin range) events → AllByRecursion (IsReportOn i) events → AllByRecursion (ReachesNone es) events
all-reach-none i range es [] none within on = tt
all-reach-none i range es (event ∷ events) none within on = (reaches-none i range es event none within.0 on.0, all-reach-none i range es events none within.1 on.1)

pub with-stops-leave-none : (steps : List Step) (naming : Naming) (m : MatchState) → let end = entered_with_stops naming steps m in AllByRecursion (IsReportOn m.taker.order.instrument) end.events → AllByRecursion (ReachesNone end.book.waiting) end.events
with-stops-leave-none steps naming m on =
    let i = m.taker.order.instrument in
    let end = entered_with_stops naming steps m in
    let Any : Entry → Type 0 = λ e. Unit {0} in
    let s = with-stops-settled Any steps i naming m (all-from Any (λ e. tt) m.book.waiting) refl in
    all-reach-none i (fill_range end.events) end.book.waiting end.events (ap (λ (j : ℕ). first_reached j (fill_range end.events) end.book.waiting) (sym s.on) ∙ s.none) (fills-within end.events) on
