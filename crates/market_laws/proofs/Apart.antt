-- No act changes a market of another instrument than that of the incoming order.
use Rattle.std.proofs.Common.{◌≡◌, ◌≢◌, ℕ, Bool, true, false, cond, not, ◌&&◌, List, [], ◌∷◌, ◌++◌, filter, Option, Some, None, refl, sym, ap, ◌∙◌, inl, inr}
use Rattle.std.specs.Prelude.{◌==◌}
use Rattle.std.specs.List.{AllByRecursion}
use Rattle.std.proofs.lemmas.Bool.Decides.{eqb_tells, Decides-eqb}
use Rattle.std.proofs.lemmas.List.Elements.{filter-append}
use Rattle.gx_base.specs.declared.price.Price.{Price}
use Rattle.gx_base.specs.declared.order.Side.{Side}
use Rattle.gx_base.specs.declared.order.Order.{Order}
use Rattle.gx_base.specs.declared.event.Event.{Event}
use Rattle.plain_book.specs.declared.entry.Entry.{Entry}
use Rattle.plain_book.specs.Orders.{order_of, is_of, is_side, is_slot_in, without, with_order, placed, lined_up, settled, refreshed, filled_by, with_top, topped, is_new_best, is_at_earlier_level, is_of_earlier_instrument}
use Rattle.plain_book.specs.Book.{Book, AllDiffer, EachPair, AreInBookOrder, AreInLine, IsRight, live_orders, first_shown, makes_top}
use Rattle.plain_book.specs.Match.{MatchState}
use Rattle.plain_book.proofs.Levels.{renewed, AllDiffer-front, AllDiffer-back, order_of-right, slots-apart}
use Rattle.plain_book.proofs.Pairs.{all-append, all-front, all-back, pairs-filter}
use Rattle.plain_book.proofs.Sorted.{book-order, line-order, put-in}
use Rattle.plain_book.proofs.Tops.{at-slot}
use Rattle.plain_book.proofs.Right.{ordered-marked}
use Rattle.order_kinds.specs.Entering.{as_limit, top_min_of, last_after}
use Rattle.order_kinds.specs.OrderRules.{last_of}
use Rattle.order_kinds.specs.Stops.{fill_range}
use Rattle.engine_laws.proofs.Entered.{marked-stands}
use Rattle.image_laws.proofs.Arriving.{marked-on}
use Rattle.image_laws.proofs.Reached.{set-reads}
use Rattle.market_laws.specs.Acts.{Act, after, after_acts, EachAct}
use Rattle.market_laws.specs.Acts.Act.{trades, notes, rests, cancels, waits, triggers}
use Rattle.market_laws.specs.Markets.{IsReportOn}
use Rattle.market_laws.proofs.Sound.{IsSound}

-- ---- lists

module _ (j : ℕ) where
  abbrev pub Of : List Entry → List Entry
  Of es = filter (is_of j) es

  -- an order of this slot is of another instrument
  abbrev pub IsElsewhere : ℕ → Entry → Type 0
  IsElsewhere s e = e.slot ≡ s → (e.order.instrument == j) ≡ false

  off : (e : Entry) (es : List Entry) → (e.order.instrument == j) ≡ false → Of (e ∷ es) ≡ Of es
  off e es h = ap (λ (b : Bool). cond b (e ∷ Of es) (Of es)) h

  pub of-without : (s : ℕ) (es : List Entry) → AllByRecursion (IsElsewhere s) es → Of (without s es) ≡ Of es
  of-without s [] h = refl
  of-without s (e ∷ es) h = elim (eqb_tells e.slot s) [
    | inl t ↦ ap (λ (b : Bool). Of (cond (not b) (e ∷ without s es) (without s es))) t.0 ∙ of-without s es h.1 ∙ sym (off e es (h.0 t.1))
    | inr t ↦
        ap (λ (b : Bool). Of (cond (not b) (e ∷ without s es) (without s es))) t.0
        ∙ ap (λ (l : List Entry). cond (is_of j e) (e ∷ l) l) (of-without s es h.1)
  ]

  pub of-with : (s : ℕ) (o : Order) (es : List Entry) → (o.instrument == j) ≡ false → AllByRecursion (IsElsewhere s) es → Of (with_order s o es) ≡ Of es
  of-with s o [] k h = refl
  of-with s o (e ∷ es) k h = elim (eqb_tells e.slot s) [
    | inl t ↦
        ap (λ (b : Bool). Of (cond b (renewed e o) e ∷ with_order s o es)) t.0 ∙ off (renewed e o) (with_order s o es) k ∙ of-with s o es k h.1 ∙ sym (off e es (h.0 t.1))
    | inr t ↦
        ap (λ (b : Bool). Of (cond b (renewed e o) e ∷ with_order s o es)) t.0
        ∙ ap (λ (l : List Entry). cond (is_of j e) (e ∷ l) l) (of-with s o es k h.1)
  ]

  of-put : (n : Entry) (xs ys : List Entry) → (n.order.instrument == j) ≡ false → Of (xs ++ n ∷ ys) ≡ Of (xs ++ ys)
  of-put n xs ys k = filter-append (is_of j) xs (n ∷ ys) ∙ ap (λ (l : List Entry). Of xs ++ l) (off n ys k) ∙ sym (filter-append (is_of j) xs ys)

  pub of-placed : (n : Entry) (es : List Entry) → (n.order.instrument == j) ≡ false → EachPair AreInBookOrder es → Of (placed n es) ≡ Of es
  of-placed n es k r = let p = put-in is_at_earlier_level book-order n es r in ap Of p.place ∙ of-put n p.front p.back k ∙ sym (ap Of p.whole)

  pub of-lined : (n : Entry) (es : List Entry) → (n.order.instrument == j) ≡ false → EachPair AreInLine es → Of (lined_up n es) ≡ Of es
  of-lined n es k r = let p = put-in is_of_earlier_instrument line-order n es r in ap Of p.place ∙ of-put n p.front p.back k ∙ sym (ap Of p.whole)

  pub of-settled : (s : ℕ) (o : Order) (es : List Entry) → (o.instrument == j) ≡ false → AllByRecursion (IsElsewhere s) es → EachPair AreInBookOrder es → Of (settled s o es) ≡ Of es
  of-settled s o es k h r =
      let n : Entry = record { slot = s; order = refreshed o; is_top = false } in
      let left = without s es in
      let gone = of-without s es h in
      let go : (x y : Bool) → Of (cond x left (cond y (placed n left) (with_order s o es))) ≡ Of es = elim [
        | true ↦ λ y. gone
        | false ↦ elim [ true ↦ of-placed n left k (pairs-filter AreInBookOrder (λ e. not (e.slot == s)) es r) ∙ gone | false ↦ of-with s o es k h ]
      ] in go (o.leaves == 0) (o.shown == 0)

  topped-same : (i : ℕ) (d : Side) (top : Option ℕ) (e : Entry) → (e.order.instrument == i) ≡ false → topped i d top e ≡ e
  topped-same i d top e h = ap (λ (b : Bool). (let x : Entry = record e { is_top = cond (b && is_side e.order.side d) (is_slot_in top e.slot) e.is_top } in x)) h

  apart-from : (a i : ℕ) → j ≢ i → (a == j) ≡ true → (a == i) ≡ false
  apart-from a i other h = elim (eqb_tells a i) [
    | inl t ↦ absurd (other (sym ((Decides-eqb a j).0 h) ∙ t.1))
    | inr t ↦ t.0
  ]

  pub of-topped : (i : ℕ) (d : Side) (top : Option ℕ) (es : List Entry) → j ≢ i → Of (with_top i d top es) ≡ Of es
  of-topped i d top [] other = refl
  of-topped i d top (e ∷ es) other =
      let F = Of (with_top i d top es) in
      let go : (b : Bool) → (e.order.instrument == j) ≡ b → cond b (topped i d top e ∷ F) F ≡ cond b (e ∷ Of es) (Of es) = elim [
        | true ↦ λ h. ap (λ (x : Entry). x ∷ F) (topped-same i d top e (apart-from e.order.instrument i other h)) ∙ ap (λ (l : List Entry). e ∷ l) (of-topped i d top es other)
        | false ↦ λ h. of-topped i d top es other
      ] in go (e.order.instrument == j) refl

  pub not-here : (a i : ℕ) → j ≢ i → a ≡ i → (a == j) ≡ false
  not-here a i other is = elim (eqb_tells a j) [ inl t ↦ absurd (other (sym t.1 ∙ is)) | inr t ↦ t.0 ]

  -- the last trade price
  pub last-elsewhere : (i : ℕ) (price : Option Price) (last : List (Option Price)) → j ≢ i → last_of j (last_after i price last) ≡ last_of j last
  last-elsewhere i None last other = refl
  last-elsewhere i (Some price) last other = elim (set-reads last i j (Some price)) [ inl is ↦ is | inr is ↦ absurd (other (sym is.0)) ]

-- each order of a slot is of this instrument, where that of the slot is
pub elsewhere : (j i s : ℕ) (es : List Entry) → j ≢ i → AllDiffer es → (order_of s es).instrument ≡ i → AllByRecursion (IsElsewhere j s) es
elsewhere j i s es other differ is = at-slot (λ (o : Order). (o.instrument == j) ≡ false) s es differ (not-here j (order_of s es).instrument i other is)

-- ---- acts

module _ (i : ℕ) where
  -- the incoming order is of the instrument, and so is each order that was reported
  pub record IsHere (m : MatchState) : Type 0 where
    pub incoming : m.taker.order.instrument ≡ i
    pub reports : AllByRecursion (IsReportOn i) m.events

  here-one : (events : List Event) (event : Event) → IsReportOn i event → AllByRecursion (IsReportOn i) events → AllByRecursion (IsReportOn i) (events ++ event ∷ [])
  here-one events event k h = all-append (IsReportOn i) events (event ∷ []) h (k, tt)

  stop-here : (stop : Entry) (m : MatchState) → IsSound (triggers stop) m → IsHere m → stop.order.instrument ≡ i
  stop-here stop m sound h = marked-on m.taker.order.instrument (fill_range m.events) m.book.waiting stop sound.is ∙ h.incoming

  act-here : (act : Act) (m : MatchState) → IsSound act m → IsHere m → IsHere (after act m)
  act-here (trades step s lots) m sound h = record { incoming = h.incoming; reports = here-one _ _ h.incoming (here-one m.events _ (sound.is.fit.instrument ∙ h.incoming) h.reports) }
  act-here (notes s lots) m sound h = record { incoming = h.incoming; reports = h.reports }
  act-here (rests steps) m sound h = record { incoming = h.incoming; reports = h.reports }
  act-here (cancels why) m sound h = record { incoming = h.incoming; reports = here-one m.events _ h.incoming h.reports }
  act-here waits m sound h = record { incoming = h.incoming; reports = h.reports }
  act-here (triggers stop) m sound h = let on = stop-here stop m sound h in record { incoming = on; reports = here-one m.events _ on h.reports }

  pub acts-here : (acts : List Act) (m : MatchState) → EachAct IsSound acts m → IsHere m → IsHere (after_acts acts m)
  acts-here [] m each h = h
  acts-here (act ∷ acts) m each h = acts-here acts (after act m) each.1 (act-here act m each.0 h)

  module _ (j : ℕ) (other : j ≢ i) where
    pub record IsSameBook (old new : Book) : Type 0 where
      pub resting : Of j new.resting ≡ Of j old.resting
      pub waiting : Of j new.waiting ≡ Of j old.waiting

    rest-differ : (b : Book) → IsRight b → AllDiffer b.resting
    rest-differ b r = AllDiffer-front b.resting b.waiting r.differ

    -- a list of orders, none of which has the slot of one of the instrument, or is of another
    pub live-elsewhere : (s : ℕ) (b : Book) → AllDiffer (live_orders b) → (order_of s (live_orders b)).instrument ≡ i → AllByRecursion (IsElsewhere j s) (live_orders b)
    live-elsewhere s b differ is = elsewhere j i s (live_orders b) other differ is

    act-same : (act : Act) (m : MatchState) → IsSound act m → IsHere m → IsSameBook m.book (after act m).book
    act-same (trades step s lots) m sound h =
        let es = m.book.resting in
        let on : (order_of s es).instrument ≡ i = sound.is.fit.instrument ∙ h.incoming in
        record {
          resting = of-settled j s (filled_by lots (order_of s es)) es (not-here j (order_of s es).instrument i other on) (elsewhere j i s es other (rest-differ m.book sound.book.right) on) sound.book.right.ordered;
          waiting = refl;
        }
    act-same (notes s lots) m sound h =
        let es = m.book.resting in
        let on : (order_of s es).instrument ≡ i = sound.is.instrument ∙ h.incoming in
        record {
          resting = of-with j s (record (order_of s es) { prorated = lots }) es (not-here j (order_of s es).instrument i other on) (elsewhere j i s es other (rest-differ m.book sound.book.right) on);
          waiting = refl;
        }
    act-same (rests steps) m sound h =
        let o = as_limit m.taker.order in
        let es = m.book.resting in
        let n = λ (top : Bool). let x : Entry = record { slot = m.taker.order.number; order = record o { shown = first_shown o }; is_top = top } in x in
        let off_it = not-here j m.taker.order.instrument i other h.incoming in
        let not_i : j ≢ o.instrument = λ is. other (is ∙ h.incoming) in
        let ordered = sound.book.right.ordered in
        let go : (best : Bool) → Of j (placed (n (best && makes_top (top_min_of steps) o.leaves)) (cond best (with_top o.instrument o.side None es) es)) ≡ Of j es = elim [
          | true ↦
              of-placed j (n (makes_top (top_min_of steps) o.leaves)) (with_top o.instrument o.side None es) off_it (ordered-marked o.instrument o.side None es ordered)
              ∙ of-topped j o.instrument o.side None es not_i
          | false ↦ of-placed j (n false) es off_it ordered
        ] in
        record { resting = go (is_new_best o es); waiting = refl }
    act-same (cancels why) m sound h = record { resting = refl; waiting = refl }
    act-same waits m sound h =
        let n : Entry = record { slot = m.taker.order.number; order = record m.taker.order { shown = 0 }; is_top = false } in
        record { resting = refl; waiting = of-lined j n m.book.waiting (not-here j m.taker.order.instrument i other h.incoming) sound.book.right.lined }
    act-same (triggers stop) m sound h =
        let b = m.book in
        let s = stop.slot in
        let right = sound.book.right in
        let stands = marked-stands m.taker.order.instrument (fill_range m.events) b.waiting stop (AllDiffer-back b.resting b.waiting right.differ) sound.is in
        let is : order_of s (live_orders b) ≡ stop.order = order_of-right s b.resting b.waiting (λ k. slots-apart s b.resting b.waiting right.differ k stands.has) ∙ stands.is in
        let far = live-elsewhere s b right.differ (ap (λ (o : Order). o.instrument) is ∙ stop-here stop m sound h) in
        record { resting = of-without j s b.resting (all-front (IsElsewhere j s) b.resting b.waiting far); waiting = of-without j s b.waiting (all-back (IsElsewhere j s) b.resting b.waiting far) }

    pub acts-same : (acts : List Act) (m : MatchState) → EachAct IsSound acts m → IsHere m → IsSameBook m.book (after_acts acts m).book
    acts-same [] m each h = record { resting = refl; waiting = refl }
    acts-same (act ∷ acts) m each h =
        let one = act-same act m each.0 h in
        let more = acts-same acts (after act m) each.1 (act-here act m each.0 h) in
        record { resting = more.resting ∙ one.resting; waiting = more.waiting ∙ one.waiting }
