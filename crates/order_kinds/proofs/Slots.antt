-- How often a slot stands in a list: where slots differ, they still do after a sweep, and when an order comes to rest, waits or
-- leaves.
use Rattle.std.proofs.Common.{◌≡◌, ℕ, ◌+◌, ◌≤◌, Bool, true, false, cond, not, List, [], ◌∷◌, ◌++◌, filter, Option, None, refl, sym, ap, subst, ◌∙◌, arith, inl, inr, ◌⊎◌}
use Rattle.std.specs.Prelude.{◌==◌, ◌&&◌}
use Rattle.std.proofs.lemmas.Bool.Decides.{eqb_tells}
use Rattle.gx_base.specs.declared.price.Price.{Price}
use Rattle.gx_base.specs.declared.order.Side.{Side}
use Rattle.gx_base.specs.declared.order.Order.{Order}
use Rattle.step_config.specs.declared.step.Step.{Step}
use Rattle.plain_book.specs.declared.entry.Entry.{Entry}
use Rattle.plain_book.specs.Orders.{HasSlot, order_of, no_order, without, with_order, placed, lined_up, settled, traded, refreshed, filled_by, is_at_earlier_level, is_of_earlier_instrument, is_new_best, with_top}
use Rattle.plain_book.specs.Book.{Book, AllDiffer, live_orders, first_shown, makes_top, book_placed, book_waited, book_without}
use Rattle.plain_book.specs.Match.{MatchState}
use Rattle.plain_book.proofs.Levels.{AllDiffer-filter}
use Rattle.plain_book.proofs.Right.{live-without}
use Rattle.plain_book.proofs.Walks.{slot-reordered}
use Rattle.level_sweep.specs.Sweep.{sweep}
use Rattle.level_sweep.proofs.EachTrade.{Relation, IsKept, each-sweep}
use Rattle.level_sweep.proofs.EachOrder.{none-traded}
use Rattle.level_sweep.proofs.Resting.{rest-sweep}

-- 1 where the slots are the same
abbrev pub once_of : ℕ → ℕ → ℕ
once_of slot s = cond (slot == s) 1 0

-- once where an entry has the slot
abbrev pub once : ℕ → Entry → ℕ
once s e = once_of e.slot s

-- how often a slot stands in a list
abbrev pub times : ℕ → List Entry → ℕ
times s [] = 0
times s (e ∷ es) = once s e + times s es

once-here : (s : ℕ) (e : Entry) → e.slot ≡ s → once s e ≡ 1
once-here s e is = elim (eqb_tells e.slot s) [ inl t ↦ ap (λ (b : Bool). cond b 1 0) t.0 | inr t ↦ absurd (t.1 is) ]

times-append : (s : ℕ) (xs ys : List Entry) → times s (xs ++ ys) ≡ times s xs + times s ys
times-append s [] ys = omega arith
times-append s (x ∷ xs) ys = omega (arith, times-append s xs ys)

times-filter : (s : ℕ) (p : Entry → Bool) (es : List Entry) → times s (filter p es) ≤ times s es
times-filter s p [] = omega arith
times-filter s p (e ∷ es) =
    let go : (b : Bool) → times s (cond b (e ∷ filter p es) (filter p es)) ≤ once s e + times s es = elim [
      | true ↦ omega (arith, times-filter s p es)
      | false ↦ omega (arith, times-filter s p es)
    ] in go (p e)

times-halves : (s : ℕ) (p : Entry → Bool) (es : List Entry) → times s (filter (λ e. not (p e)) es) + times s (filter p es) ≡ times s es
times-halves s p [] = refl
times-halves s p (e ∷ es) =
    let f = filter (λ x. not (p x)) es in
    let g = filter p es in
    let go : (b : Bool) → times s (cond (not b) (e ∷ f) f) + times s (cond b (e ∷ g) g) ≡ once s e + times s es = elim [
      | true ↦ omega (arith, times-halves s p es)
      | false ↦ omega (arith, times-halves s p es)
    ] in go (p e)

-- an entry is put in before those that a test tells
times-put : (s : ℕ) (behind : Entry → Bool) (n : Entry) (es : List Entry) → times s (filter (λ e. not (behind e)) es ++ n ∷ filter behind es) ≡ once s n + times s es
times-put s behind n es = omega (arith, times-append s (filter (λ e. not (behind e)) es) (n ∷ filter behind es), times-halves s behind es)

times-placed : (s : ℕ) (n : Entry) (es : List Entry) → times s (placed n es) ≡ once s n + times s es
times-placed s n es = times-put s (is_at_earlier_level n) n es

times-gone : (s : ℕ) (es : List Entry) → times s (without s es) ≡ 0
times-gone s [] = refl
times-gone s (e ∷ es) = elim (eqb_tells e.slot s) [
  | inl t ↦ ap (λ (b : Bool). times s (cond (not b) (e ∷ without s es) (without s es))) t.0 ∙ times-gone s es
  | inr t ↦
      let none : once s e ≡ 0 = ap (λ (b : Bool). cond b 1 0) t.0 in
      ap (λ (b : Bool). times s (cond (not b) (e ∷ without s es) (without s es))) t.0 ∙ omega (arith, none, times-gone s es)
]

times-with_order : (s t : ℕ) (o : Order) (es : List Entry) → times s (with_order t o es) ≡ times s es
times-with_order s t o [] = refl
times-with_order s t o (e ∷ es) =
    ap (λ (n : ℕ). cond (n == s) 1 0 + times s (with_order t o es)) (slot-reordered t o e) ∙ ap (λ (n : ℕ). once s e + n) (times-with_order s t o es)

times-topped : (s i : ℕ) (d : Side) (top : Option ℕ) (es : List Entry) → times s (with_top i d top es) ≡ times s es
times-topped s i d top [] = refl
times-topped s i d top (e ∷ es) = ap (λ (n : ℕ). once s e + n) (times-topped s i d top es)

-- ---- slots that differ

some-times : (s : ℕ) (es : List Entry) → HasSlot s es → 1 ≤ times s es
some-times s [] h = absurd h
some-times s (e ∷ es) h = elim h [ inl a ↦ omega (arith, once-here s e a) | inr a ↦ omega (arith, some-times s es a) ]

no-times : (s : ℕ) (es : List Entry) → (HasSlot s es → ⊥) → times s es ≡ 0
no-times s [] h = refl
no-times s (e ∷ es) h = elim (eqb_tells e.slot s) [
  | inl t ↦ absurd (h (inl t.1))
  | inr t ↦
      let none : once s e ≡ 0 = ap (λ (b : Bool). cond b 1 0) t.0 in
      omega (arith, none, no-times s es (λ k. h (inr k)))
]

differ-once : (s : ℕ) (es : List Entry) → AllDiffer es → times s es ≤ 1
differ-once s [] d = omega arith
differ-once s (e ∷ es) d = elim (eqb_tells e.slot s) [
  | inl t ↦ omega (arith, once-here s e t.1, no-times s es (subst (λ (n : ℕ). HasSlot n es → ⊥) t.1 d.0))
  | inr t ↦ subst (λ (b : Bool). cond b 1 0 + times s es ≤ 1) (sym t.0) (omega (arith, differ-once s es d.1))
]

once-differ : (es : List Entry) → ((s : ℕ) → times s es ≤ 1) → AllDiffer es
once-differ [] h = tt
once-differ (e ∷ es) h = (
  (λ k. omega (arith, h e.slot, once-here e.slot e refl, some-times e.slot es k)),
  once-differ es (λ s. omega (arith, h s)),
)

-- no slot stands more often in the second list
abbrev pub NoMoreOften : List Entry → List Entry → Type 0
NoMoreOften es fs = (s : ℕ) → times s fs ≤ times s es

pub still-differ : (es fs : List Entry) → NoMoreOften es fs → AllDiffer es → AllDiffer fs
still-differ es fs fewer d = once-differ fs (λ s. omega (arith, fewer s, differ-once s es d))

-- ---- a trade

some-or-none : (s : ℕ) (es : List Entry) → (1 ≤ times s es) ⊎ (order_of s es ≡ no_order)
some-or-none s [] = inr refl
some-or-none s (e ∷ es) = elim (eqb_tells e.slot s) [
  | inl t ↦ inl (omega (arith, once-here s e t.1))
  | inr t ↦ elim (some-or-none s es) [
    | inl h ↦ inl (omega (arith, h))
    | inr z ↦ inr (ap (λ (b : Bool). cond b e.order (order_of s es)) t.0 ∙ z)
  ]
]

often-behind : (s : ℕ) (n : Entry) (es : List Entry) → 1 ≤ times n.slot es → NoMoreOften es (placed n (without n.slot es))
often-behind s n es some t = elim (eqb_tells n.slot t) [
  | inl h ↦
      subst (λ (k : ℕ). times k (placed n (without n.slot es)) ≤ times k es) h.1
      (omega (arith, times-placed n.slot n (without n.slot es), times-gone n.slot es, once-here n.slot n refl, some))
  | inr h ↦
      let none : once t n ≡ 0 = ap (λ (b : Bool). cond b 1 0) h.0 in
      omega (arith, times-placed t n (without n.slot es), none, times-filter t (λ e. not (e.slot == n.slot)) es)
]

often-settled : (s : ℕ) (o : Order) (es : List Entry) → 1 ≤ times s es → NoMoreOften es (settled s o es)
often-settled s o es some t =
    let left = without s es in
    let n : Entry = record { slot = s; order = refreshed o; is_top = false } in
    let go : (x y : Bool) → times t (cond x left (cond y (placed n left) (with_order s o es))) ≤ times t es = elim [
      | true ↦ λ y. times-filter t (λ e. not (e.slot == s)) es
      | false ↦ elim [
        | true ↦ often-behind s n es some t
        | false ↦ omega (arith, times-with_order t s o es)
      ]
    ] in go (o.leaves == 0) (o.shown == 0)

often-traded : (s n : ℕ) (es : List Entry) → NoMoreOften es (traded s n es)
often-traded s n es t = elim (some-or-none s es) [
  | inl h ↦ often-settled s (filled_by n (order_of s es)) es h t
  | inr z ↦ subst (λ (l : List Entry). times t l ≤ times t es) (sym (none-traded s s n es es z)) (times-filter t (λ e. not (e.slot == s)) es)
]

-- ---- a sweep

abbrev Often : Relation
Often a b = NoMoreOften a.book.resting b.book.resting

often : IsKept Often
often = record {
  same = λ m s. omega arith;
  both = λ a b c h k s. omega (arith, h s, k s);
  trades = λ step s n m. often-traded s n m.book.resting;
  marks = λ s n m t. omega (arith, times-with_order t s (record (order_of s m.book.resting) { prorated = n }) m.book.resting);
}

often-live : (a b : Book) → NoMoreOften a.resting b.resting → b.waiting ≡ a.waiting → NoMoreOften (live_orders a) (live_orders b)
often-live a b h w s = omega (arith, h s, times-append s a.resting a.waiting, times-append s b.resting b.waiting, ap (times s) w)

fewer-swept : (steps : List Step) (limit : Price) (m : MatchState) → NoMoreOften (live_orders m.book) (live_orders (sweep steps limit m).book)
fewer-swept steps limit m = often-live m.book (sweep steps limit m).book (each-sweep Often often steps limit m) (ap (λ (b : Book). b.waiting) (rest-sweep steps limit m))

-- slots differ after a sweep, where they did before it
pub sweep-differ : (steps : List Step) (limit : Price) (m : MatchState) → AllDiffer (live_orders m.book) → AllDiffer (live_orders (sweep steps limit m).book)
sweep-differ steps limit m d = still-differ (live_orders m.book) (live_orders (sweep steps limit m).book) (fewer-swept steps limit m) d

-- a slot that no order had before a sweep, none has after it
pub sweep-lacks : (s : ℕ) (steps : List Step) (limit : Price) (m : MatchState) → (HasSlot s (live_orders m.book) → ⊥) → HasSlot s (live_orders (sweep steps limit m).book) → ⊥
sweep-lacks s steps limit m none has =
    omega (arith, fewer-swept steps limit m s, no-times s (live_orders m.book) none, some-times s (live_orders (sweep steps limit m).book) has)

-- ---- an order comes, and has a slot that none has

-- each slot stands as often as before, and that of the newcomer once more
abbrev HasOneMore : ℕ → List Entry → List Entry → Type 0
HasOneMore slot es fs = (s : ℕ) → times s fs ≡ once_of slot s + times s es

one-more-differ : (slot : ℕ) (es fs : List Entry) → HasOneMore slot es fs → AllDiffer es → (HasSlot slot es → ⊥) → AllDiffer fs
one-more-differ slot es fs more d fresh = once-differ fs (λ s.
    elim (eqb_tells slot s) [
      | inl t ↦
          let none : times s es ≡ 0 = no-times s es (subst (λ (n : ℕ). HasSlot n es → ⊥) t.1 fresh) in
          let one : once_of slot s ≡ 1 = ap (λ (c : Bool). cond c 1 0) t.0 in
          omega (arith, more s, none, one)
      | inr t ↦
          let one : once_of slot s ≡ 0 = ap (λ (c : Bool). cond c 1 0) t.0 in
          omega (arith, more s, one, differ-once s es d)
    ])

abbrev new_entry : ℕ → Order → Option ℕ → Book → Entry
new_entry slot o top_min b = record { slot = slot; order = record o { shown = first_shown o }; is_top = is_new_best o b.resting && makes_top top_min o.leaves }

-- it comes to rest
pub placed-differ : (slot : ℕ) (o : Order) (top_min : Option ℕ) (b : Book) → AllDiffer (live_orders b) → (HasSlot slot (live_orders b) → ⊥) → AllDiffer (live_orders (book_placed slot o top_min b))
placed-differ slot o top_min b d fresh =
    let es = b.resting in
    let cleared : Bool → List Entry = λ c. cond c (with_top o.instrument o.side None es) es in
    let rests = cleared (is_new_best o es) in
    let n = new_entry slot o top_min b in
    let kept : (s : ℕ) (c : Bool) → times s (cleared c) ≡ times s es = λ s. elim [ true ↦ times-topped s o.instrument o.side None es | false ↦ refl ] in
    one-more-differ slot (live_orders b) (live_orders (book_placed slot o top_min b))
    (λ s. omega (arith, times-append s (placed n rests) b.waiting, times-placed s n rests, kept s (is_new_best o es), times-append s es b.waiting)) d fresh

-- it waits
pub waited-differ : (slot : ℕ) (o : Order) (b : Book) → AllDiffer (live_orders b) → (HasSlot slot (live_orders b) → ⊥) → AllDiffer (live_orders (book_waited slot o b))
waited-differ slot o b d fresh =
    let n : Entry = record { slot = slot; order = record o { shown = 0 }; is_top = false } in
    one-more-differ slot (live_orders b) (live_orders (book_waited slot o b))
    (λ s. omega (arith, times-append s b.resting (lined_up n b.waiting), times-put s (is_of_earlier_instrument n) n b.waiting, times-append s b.resting b.waiting)) d fresh

-- ---- an order leaves

pub left-differ : (slot : ℕ) (b : Book) → AllDiffer (live_orders b) → AllDiffer (live_orders (book_without slot b))
left-differ slot b d = subst AllDiffer (sym (live-without slot b)) (AllDiffer-filter (λ (e : Entry). not (e.slot == slot)) (live_orders b) d)
