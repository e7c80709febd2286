-- No act lets an order pass another one, but for what is reported of them.
use Rattle.std.proofs.Common.{◌≡◌, ◌≢◌, ℕ, Bool, true, false, cond, not, ◌&&◌, List, [], ◌∷◌, ◌++◌, map, filter, None, refl, sym, ap, subst, ◌∙◌, inl, inr, ◌⊎◌}
use Rattle.std.specs.Prelude.{◌==◌}
use Rattle.std.specs.List.{AllByRecursion}
use Rattle.std.proofs.lemmas.Bool.Decides.{eqb_tells}
use Rattle.gx_base.specs.declared.order.Order.{Order}
use Rattle.gx_base.specs.declared.event.Event.{Event}
use Rattle.gx_base.specs.declared.event.StepName.{StepName}
use Rattle.step_config.specs.declared.step.Step.{Step}
use Rattle.plain_book.specs.declared.entry.Entry.{Entry}
use Rattle.plain_book.specs.Orders.{Level, level_of, HasSlot, order_of, is_before, is_new_best, is_at_earlier_level, without, reordered, with_order, topped, with_top, placed, settled, filled_by}
use Rattle.plain_book.specs.Book.{AllDiffer, EachPair, AreInBookOrder, first_shown, makes_top}
use Rattle.plain_book.specs.Match.{MatchState}
use Rattle.plain_book.proofs.Levels.{AllDiffer-front, AllDiffer-back, HasSlot-middle, HasSlot-filter, slots-apart}
use Rattle.plain_book.proofs.Pairs.{all-front, pairs-filter}
use Rattle.plain_book.proofs.Live.{orders-at}
use Rattle.plain_book.proofs.Right.{ordered-marked, without-gone}
use Rattle.plain_book.proofs.Settled.{back_entry, settled-gone, settled-back, settled-stays}
use Rattle.plain_book.proofs.Sorted.{book-order, put-in}
use Rattle.plain_book.proofs.Walks.{slot-reordered}
use Rattle.order_kinds.specs.Entering.{as_limit, top_min_of}
use Rattle.order_kinds.specs.Stops.{fill_range}
use Rattle.engine_laws.proofs.Entered.{marked-stands}
use Rattle.image_laws.proofs.Orders.{IsOther, others-lack, lacks-others}
use Rattle.market_laws.specs.Acts.{Act, after, after_acts, EachAct}
use Rattle.market_laws.specs.Acts.Act.{trades, notes, rests, cancels, waits, triggers}
use Rattle.market_laws.specs.Lines.{StandsBefore, LetsPass, HasReport}
use Rattle.market_laws.proofs.Sound.{IsByNumber, number-at, IsSound}
use Rattle.market_laws.proofs.Outs.{IsAway, act-away}

-- ---- lists

has-map : (f : Entry → Entry) → ((e : Entry) → (f e).slot ≡ e.slot) → (s : ℕ) (es : List Entry) → HasSlot s es → HasSlot s (map f es)
has-map f same s [] h = h
has-map f same s (e ∷ es) h = elim h [ inl is ↦ inl (same e ∙ is) | inr m ↦ inr (has-map f same s es m) ]

has-inserted : (s : ℕ) (n : Entry) (xs ys : List Entry) → HasSlot s (xs ++ ys) → HasSlot s (xs ++ n ∷ ys)
has-inserted s n [] ys h = inr h
has-inserted s n (x ∷ xs) ys h = elim h [ inl is ↦ inl is | inr m ↦ inr (has-inserted s n xs ys m) ]

has-without : (s t : ℕ) (es : List Entry) → t ≢ s → HasSlot t es → HasSlot t (without s es)
has-without s t [] other h = h
has-without s t (e ∷ es) other h =
    let W = without s es in
    elim (eqb_tells e.slot s) [
      | inl u ↦ subst (λ (c : Bool). HasSlot t (cond (not c) (e ∷ W) W)) (sym u.0) (elim h [ inl is ↦ absurd (other (sym is ∙ u.1)) | inr m ↦ has-without s t es other m ])
      | inr u ↦ subst (λ (c : Bool). HasSlot t (cond (not c) (e ∷ W) W)) (sym u.0) (elim h [ inl is ↦ inl is | inr m ↦ inr (has-without s t es other m) ])
    ]

module _ (a b : ℕ) where
  abbrev Before : List Entry → Type 0
  Before es = StandsBefore a b es

  pub before-map : (f : Entry → Entry) → ((e : Entry) → (f e).slot ≡ e.slot) → (es : List Entry) → Before es → Before (map f es)
  before-map f same [] h = h
  before-map f same (e ∷ es) h = elim h [ inl k ↦ inl (same e ∙ k.0, has-map f same b es k.1) | inr m ↦ inr (before-map f same es m) ]

  pub before-with : (s : ℕ) (o : Order) (es : List Entry) → Before es → Before (with_order s o es)
  before-with s o es h = before-map (reordered s o) (slot-reordered s o) es h

  before-inserted : (n : Entry) (xs ys : List Entry) → Before (xs ++ ys) → Before (xs ++ n ∷ ys)
  before-inserted n [] ys h = inr h
  before-inserted n (x ∷ xs) ys h = elim h [ inl k ↦ inl (k.0, has-inserted b n xs ys k.1) | inr m ↦ inr (before-inserted n xs ys m) ]

  before-placed : (n : Entry) (es : List Entry) → EachPair AreInBookOrder es → Before es → Before (placed n es)
  before-placed n es r h = let p = put-in is_at_earlier_level book-order n es r in subst Before (sym p.place) (before-inserted n p.front p.back (subst Before p.whole h))

  pub before-without : (s : ℕ) (es : List Entry) → a ≢ s → b ≢ s → Before es → Before (without s es)
  before-without s [] first other h = h
  before-without s (e ∷ es) first other h =
      let W = without s es in
      elim (eqb_tells e.slot s) [
        | inl u ↦ subst (λ (c : Bool). Before (cond (not c) (e ∷ W) W)) (sym u.0) (elim h [ inl k ↦ absurd (first (sym k.0 ∙ u.1)) | inr m ↦ before-without s es first other m ])
        | inr u ↦ subst (λ (c : Bool). Before (cond (not c) (e ∷ W) W)) (sym u.0) (elim h [ inl k ↦ inl (k.0, has-without s b es other k.1) | inr m ↦ inr (before-without s es first other m) ])
      ]

  pub has-first : (es : List Entry) → Before es → HasSlot a es
  has-first [] h = h
  has-first (e ∷ es) h = elim h [ inl k ↦ inl k.0 | inr m ↦ inr (has-first es m) ]

  pub has-second : (es : List Entry) → Before es → HasSlot b es
  has-second [] h = h
  has-second (e ∷ es) h = elim h [ inl k ↦ inr k.1 | inr m ↦ inr (has-second es m) ]

  -- some orders leave, these two do not
  pub before-filter : (p : Entry → Bool) (es : List Entry) → AllDiffer es → Before es → HasSlot a (filter p es) → HasSlot b (filter p es) → Before (filter p es)
  before-filter p [] differ h x y = h
  before-filter p (e ∷ es) differ h x y =
      let F = filter p es in
      let here : (s : ℕ) → e.slot ≡ s → HasSlot s es → ⊥ = λ s is k. differ.0 (subst (λ (n : ℕ). HasSlot n es) (sym is) k) in
      let go : (c : Bool) → HasSlot a (cond c (e ∷ F) F) → HasSlot b (cond c (e ∷ F) F) → Before (cond c (e ∷ F) F) = elim [
        | true ↦ λ x y. elim h [
          | inl k ↦ inl (k.0, elim y [ inl is ↦ absurd (here b is k.1) | inr m ↦ m ])
          | inr m ↦ inr (before-filter p es differ.1 m (elim x [ inl is ↦ absurd (here a is (has-first es m)) | inr k ↦ k ]) (elim y [ inl is ↦ absurd (here b is (has-second es m)) | inr k ↦ k ]))
        ]
        | false ↦ λ x y. elim h [
          | inl k ↦ absurd (here a k.0 (HasSlot-filter p a es x))
          | inr m ↦ before-filter p es differ.1 m x y
        ]
      ] in go (p e) x y

  -- what goes to the back of its level stays after what stood before it
  before-put : (n : Entry) (xs ys : List Entry) → n.slot ≡ b → HasSlot a xs → Before (xs ++ n ∷ ys)
  before-put n [] ys is h = absurd h
  before-put n (x ∷ xs) ys is h = elim h [
    | inl k ↦ inl (k, subst (λ (s : ℕ). HasSlot s (xs ++ n ∷ ys)) is (HasSlot-middle xs ys n))
    | inr m ↦ inr (before-put n xs ys is m)
  ]

  stays-ahead : (k : Level) (n : Entry) (es : List Entry) → level_of n.order ≡ k → level_of (order_of b es) ≡ k → AllDiffer es → EachPair AreInBookOrder es → Before es → HasSlot a (filter (λ e. not (is_at_earlier_level n e)) (without b es))
  stays-ahead k n [] nk is differ ordered h = h
  stays-ahead k n (e ∷ es) nk is differ ordered h =
      let q = λ (x : Entry). not (is_at_earlier_level n x) in
      let W = without b es in
      let F = filter q W in
      let more : HasSlot b es = elim h [ inl x ↦ x.1 | inr m ↦ has-second es m ] in
      let Goal = λ (c d : Bool). HasSlot a (filter q (cond (not c) (e ∷ W) W)) in
      elim (eqb_tells e.slot b) [
        | inl t ↦ absurd (differ.0 (subst (λ (s : ℕ). HasSlot s es) (sym t.1) more))
        | inr t ↦
            let here : level_of (order_of b es) ≡ k = sym (ap (λ (c : Bool). level_of (cond c e.order (order_of b es))) t.0) ∙ is in
            let late : is_before (level_of (order_of b es)) (level_of e.order) ≡ false = orders-at (λ (o : Order). is_before (level_of o) (level_of e.order) ≡ false) b es ordered.0 more in
            let ahead : is_at_earlier_level n e ≡ false = ap (λ (l : Level). is_before l (level_of e.order)) (nk ∙ sym here) ∙ late in
            subst (λ (c : Bool). HasSlot a (filter q (cond (not c) (e ∷ W) W))) (sym t.0)
            (subst (λ (c : Bool). HasSlot a (cond (not c) (e ∷ F) F)) (sym ahead)
            (elim h [ inl x ↦ inl x.0 | inr m ↦ inr (stays-ahead k n es nk here differ.1 ordered.1 m) ]))
      ]

  before-back : (n : Entry) (es : List Entry) → n.slot ≡ b → level_of n.order ≡ level_of (order_of b es) → AllDiffer es → EachPair AreInBookOrder es → Before es → Before (placed n (without b es))
  before-back n es is level differ ordered h =
      let W = without b es in before-put n (filter (λ e. not (is_at_earlier_level n e)) W) (filter (is_at_earlier_level n) W) is (stays-ahead (level_of n.order) n es refl (sym level) differ ordered h)

module _ (old : List Entry) (a b : ℕ) where
  abbrev Ahead : List Entry → Type 0
  Ahead es = StandsBefore a b es

  -- ---- acts

  abbrev Passed : List Event → Type 0
  Passed events = HasReport (LetsPass old a b) events

  passed-more : (xs ys : List Event) → Passed xs → Passed (xs ++ ys)
  passed-more [] ys h = absurd h
  passed-more (x ∷ xs) ys h = elim h [ inl k ↦ inl k | inr m ↦ inr (passed-more xs ys m) ]

  passed-last : (xs : List Event) (x : Event) → LetsPass old a b x → Passed (xs ++ x ∷ [])
  passed-last [] x h = inl h
  passed-last (y ∷ xs) x h = inr (passed-last xs x h)

  -- the one stands before the other, or may have been passed, or one of them is gone
  abbrev pub Stands : MatchState → Type 0
  Stands m = Ahead m.book.resting ⊎ (Passed m.events ⊎ (IsAway a m ⊎ IsAway b m))

  -- another order trades
  settled-other : (s : ℕ) (o : Order) (es : List Entry) → a ≢ s → b ≢ s → EachPair AreInBookOrder es → Ahead es → Ahead (settled s o es)
  settled-other s o es first second ordered h =
      let left = before-without a b s es first second h in
      elim (eqb_tells o.leaves 0) [
        | inl t ↦ subst Ahead (sym (settled-gone s o es t.1)) left
        | inr t ↦ elim (eqb_tells o.shown 0) [
          | inl u ↦ subst Ahead (sym (settled-back s o es t.1 u.1)) (before-placed a b (back_entry s o es) (without s es) (pairs-filter AreInBookOrder (λ e. not (e.slot == s)) es ordered) left)
          | inr u ↦ subst Ahead (sym (settled-stays s o es t.1 u.1)) (before-with a b s o es h)
        ]
      ]

  -- the order that stands after trades, and some of it is open
  settled-second : (s : ℕ) (o : Order) (es : List Entry) → s ≡ b → o.leaves ≢ 0 → level_of o ≡ level_of (order_of s es) → AllDiffer es → EachPair AreInBookOrder es → Ahead es → Ahead (settled s o es)
  settled-second s o es is some level differ ordered h = elim (eqb_tells o.shown 0) [
    | inl u ↦ subst Ahead (sym (settled-back s o es some u.1)) (subst (λ (k : ℕ). Ahead (placed (back_entry s o es) (without k es))) (sym is) (before-back a b (back_entry s o es) es is (level ∙ ap (λ (k : ℕ). level_of (order_of k es)) is) differ ordered h))
    | inr u ↦ subst Ahead (sym (settled-stays s o es some u.1)) (before-with a b s o es h)
  ]

  -- an order that is traded whole is gone
  traded-gone : (n s lots : ℕ) (step : StepName) (m : MatchState) → IsSound (trades step s lots) m → s ≡ n → (filled_by lots (order_of s m.book.resting)).leaves ≡ 0 → IsAway n (after (trades step s lots) m)
  traded-gone n s lots step m sound is none =
      let b = m.book in
      let es = b.resting in
      let right = sound.book.right in
      let has = sound.is.fit.rests in
      let now = filled_by lots (order_of s es) in
      let number : (order_of s es).number ≡ s = number-at s es (all-front IsByNumber es b.waiting sound.book.numbered) has in
      record {
        incoming = λ same. sound.is.fit.other (number ∙ is ∙ sym same);
        rest = subst (AllByRecursion (IsOther n)) (sym (settled-gone s now es none)) (lacks-others n (without s es) (λ k. without-gone s es (subst (λ (x : ℕ). HasSlot x (without s es)) (sym is) k)));
        wait = lacks-others n b.waiting (λ k. slots-apart s es b.waiting right.differ has (subst (λ (x : ℕ). HasSlot x b.waiting) (sym is) k));
      }

  trade-stands : (step : StepName) (s lots : ℕ) (m : MatchState) → IsSound (trades step s lots) m → Ahead m.book.resting → Stands (after (trades step s lots) m)
  trade-stands step s lots m sound h =
      let b_ = m.book in
      let es = b_.resting in
      let now = filled_by lots (order_of s es) in
      let number : (order_of s es).number ≡ s = number-at s es (all-front IsByNumber es b_.waiting sound.book.numbered) sound.is.fit.rests in
      let differ = AllDiffer-front es b_.waiting sound.book.right.differ in
      let ordered = sound.book.right.ordered in
      elim (eqb_tells s a) [
        | inl first ↦ elim (eqb_tells now.leaves 0) [
          | inl none ↦ inr (inr (inl (traded-gone a s lots step m sound first.1 none.1)))
          | inr some ↦ elim (eqb_tells now.shown 0) [
            | inl used ↦ inr (inl (passed-more _ _ (passed-last m.events _ (number ∙ first.1, used.1))))
            | inr left ↦ inl (subst Ahead (sym (settled-stays s now es some.1 left.1)) (before-with a b s now es h))
          ]
        ]
        | inr not_first ↦ elim (eqb_tells s b) [
          | inl second ↦ elim (eqb_tells now.leaves 0) [
            | inl none ↦ inr (inr (inr (traded-gone b s lots step m sound second.1 none.1)))
            | inr some ↦ inl (settled-second s now es second.1 some.1 refl differ ordered h)
          ]
          | inr not_second ↦ inl (settled-other s now es (λ is. not_first.1 (sym is)) (λ is. not_second.1 (sym is)) ordered h)
        ]
      ]

  rest-stands : (steps : List Step) (m : MatchState) → IsSound (rests steps) m → Ahead m.book.resting → Ahead (after (rests steps) m).book.resting
  rest-stands steps m sound h =
      let o = as_limit m.taker.order in
      let es = m.book.resting in
      let ordered = sound.book.right.ordered in
      let N = λ (top : Bool). let x : Entry = record { slot = m.taker.order.number; order = record o { shown = first_shown o }; is_top = top } in x in
      let go : (best : Bool) → Ahead (placed (N (best && makes_top (top_min_of steps) o.leaves)) (cond best (with_top o.instrument o.side None es) es)) = elim [
        | true ↦ before-placed a b (N (makes_top (top_min_of steps) o.leaves)) (with_top o.instrument o.side None es) (ordered-marked o.instrument o.side None es ordered) (before-map a b (topped o.instrument o.side None) (λ e. refl) es h)
        | false ↦ before-placed a b (N false) es ordered h
      ] in go (is_new_best o es)

  trigger-stands : (stop : Entry) (m : MatchState) → IsSound (triggers stop) m → Ahead m.book.resting → Ahead (after (triggers stop) m).book.resting
  trigger-stands stop m sound h =
      let b_ = m.book in
      let differ = sound.book.right.differ in
      let stands = marked-stands m.taker.order.instrument (fill_range m.events) b_.waiting stop (AllDiffer-back b_.resting b_.waiting differ) sound.is in
      let other : (n : ℕ) → HasSlot n b_.resting → n ≢ stop.slot = λ n rests is. slots-apart stop.slot b_.resting b_.waiting differ (subst (λ (k : ℕ). HasSlot k b_.resting) is rests) stands.has in
      before-without a b stop.slot b_.resting (other a (has-first a b b_.resting h)) (other b (has-second a b b_.resting h)) h

  -- while it stands before the other one
  ahead-stands : (act : Act) (m : MatchState) → IsSound act m → Ahead m.book.resting → Stands (after act m)
  ahead-stands (trades step s lots) m sound h = trade-stands step s lots m sound h
  ahead-stands (notes s lots) m sound h = inl (before-with a b s (record (order_of s m.book.resting) { prorated = lots }) m.book.resting h)
  ahead-stands (rests steps) m sound h = inl (rest-stands steps m sound h)
  ahead-stands (cancels why) m sound h = inl h
  ahead-stands waits m sound h = inl h
  ahead-stands (triggers stop) m sound h = inl (trigger-stands stop m sound h)

  -- no report is taken back
  passed-stays : (act : Act) (m : MatchState) → Passed m.events → Passed (after act m).events
  passed-stays (trades step s lots) m h = passed-more _ _ (passed-more m.events _ h)
  passed-stays (notes s lots) m h = h
  passed-stays (rests steps) m h = h
  passed-stays (cancels why) m h = passed-more m.events _ h
  passed-stays waits m h = h
  passed-stays (triggers stop) m h = passed-more m.events _ h

  act-stands : (act : Act) (m : MatchState) → IsSound act m → Stands m → Stands (after act m)
  act-stands act m sound h = elim h [
    | inl ahead ↦ ahead-stands act m sound ahead
    | inr other ↦ elim other [
      | inl passed ↦ inr (inl (passed-stays act m passed))
      | inr gone ↦ elim gone [
        | inl first ↦ inr (inr (inl (act-away a act m sound first)))
        | inr second ↦ inr (inr (inr (act-away b act m sound second)))
      ]
    ]
  ]

  pub acts-stand : (acts : List Act) (m : MatchState) → EachAct IsSound acts m → Stands m → Stands (after_acts acts m)
  acts-stand [] m each h = h
  acts-stand (act ∷ acts) m each h = acts-stand acts (after act m) each.1 (act-stands act m each.0 h)

  -- two orders that rest at the end are not gone
  pub stands-end : (m : MatchState) → HasSlot a m.book.resting → HasSlot b m.book.resting → Stands m → Ahead m.book.resting ⊎ Passed m.events
  stands-end m x y h = elim h [
    | inl ahead ↦ inl ahead
    | inr other ↦ elim other [
      | inl passed ↦ inr passed
      | inr gone ↦ elim gone [
        | inl first ↦ absurd (others-lack a m.book.resting first.rest x)
        | inr second ↦ absurd (others-lack b m.book.resting second.rest y)
      ]
    ]
  ]
