-- Where the TOP order stands, and what it trades there.
use Rattle.std.proofs.Common.{◌≡◌, ℕ, min, Bool, true, false, cond, ◌&&◌, List, [], ◌∷◌, map, filter, refl, sym, ap, subst, ◌∙◌, inl, inr, Option, Some, None}
use Rattle.std.specs.Prelude.{◌==◌, option_map}
use Rattle.std.specs.Ordering.{int_eq}
use Rattle.std.proofs.lemmas.Bool.Decides.{eqb_tells}
use Rattle.gx_base.specs.declared.order.Order.{Order}
use Rattle.gx_base.specs.declared.price.Price.{Price}
use Rattle.gx_base.specs.declared.order.Side.{Side}
use Rattle.gx_base.specs.declared.order.Slot.{Slot}
use Rattle.gx_base.specs.declared.order.Taker.{Taker}
use Rattle.gx_base.specs.declared.order.TopRule.{TopRule}
use Rattle.gx_base.specs.declared.event.StepName.TheVariants.{Top}
use Rattle.plain_book.specs.declared.entry.Entry.{Entry}
use Rattle.plain_book.specs.Orders.{Level, level_of, is_level, is_at, is_on, is_side, is_slot, orders_at, side_of, slot_of, top_of, HasSlot, order_of, opposite}
use Rattle.plain_book.specs.Book.{AllDiffer, Book, IsRight, live_orders, slot_number}
use Rattle.plain_book.specs.Match.{MatchState, Share, trade_share, trade_shares}
use Rattle.plain_book.specs.Steps.{top_shares, top, level_now, facing}
use Rattle.plain_book.proofs.Levels.{AllDiffer-front, HasSlot-left, order_of-left}

-- the shares of the entries of one slot
abbrev shares : ℕ → ℕ → List Entry → List Share
shares most q es = map (λ (e : Entry). (e.slot, min q (min e.order.shown most))) es

none-of : (k : Level) (s : ℕ) (es : List Entry) → (HasSlot s es → ⊥) → filter (is_slot s) (orders_at k es) ≡ []
none-of k s [] h = refl
none-of k s (e ∷ es) h =
    let t = none-of k s es (λ a. h (inr a)) in
    let n : is_slot s e ≡ false = elim (eqb_tells e.slot s) [ inl u ↦ absurd (h (inl u.1)) | inr u ↦ u.0 ] in
    let go : (b : Bool) → filter (is_slot s) (cond b (e ∷ orders_at k es) (orders_at k es)) ≡ [] = elim [
      | true ↦ ap (λ (c : Bool). cond c (e ∷ filter (is_slot s) (orders_at k es)) (filter (is_slot s) (orders_at k es))) n ∙ t
      | false ↦ t
    ] in go (is_at k e)

-- the order of a slot is the only one of it in its level
pub shares_at : (k : Level) (s most q : ℕ) (es : List Entry) → AllDiffer es → HasSlot s es
    → shares most q (filter (is_slot s) (orders_at k es)) ≡ cond (is_level (level_of (order_of s es)) k) ((s, min q (min (order_of s es).shown most)) ∷ []) []
shares_at k s most q [] d h = absurd h
shares_at k s most q (e ∷ es) d h =
    let F = filter (is_slot s) (orders_at k es) in
    elim (eqb_tells e.slot s) [
      | inl t ↦
          let none : F ≡ [] = none-of k s es (λ a. d.0 (subst (λ (n : ℕ). HasSlot n es) (sym t.1) a)) in
          let is : e.order ≡ order_of s (e ∷ es) = sym (ap (λ (c : Bool). cond c e.order (order_of s es)) t.0) in
          let go : (b : Bool) → shares most q (filter (is_slot s) (cond b (e ∷ orders_at k es) (orders_at k es))) ≡ cond b ((s, min q (min e.order.shown most)) ∷ []) [] = elim [
            | true ↦
                ap (λ (c : Bool). shares most q (cond c (e ∷ F) F)) t.0
                ∙ ap (λ (x : List Entry). (e.slot, min q (min e.order.shown most)) ∷ shares most q x) none
                ∙ ap (λ (n : ℕ). (n, min q (min e.order.shown most)) ∷ []) t.1
            | false ↦ ap (shares most q) none
          ] in
          go (is_at k e) ∙ ap (λ (o : Order). cond (is_level (level_of o) k) ((s, min q (min o.shown most)) ∷ []) []) is
      | inr t ↦
          let rest = shares_at k s most q es d.1 (elim h [ inl a ↦ absurd (t.1 a) | inr a ↦ a ]) in
          let is : order_of s es ≡ order_of s (e ∷ es) = sym (ap (λ (c : Bool). cond c e.order (order_of s es)) t.0) in
          let go : (b : Bool) → shares most q (filter (is_slot s) (cond b (e ∷ orders_at k es) (orders_at k es))) ≡ shares most q F = elim [
            | true ↦ ap (λ (c : Bool). shares most q (cond c (e ∷ F) F)) t.0
            | false ↦ refl
          ] in
          go (is_at k e) ∙ rest ∙ ap (λ (o : Order). cond (is_level (level_of o) k) ((s, min q (min o.shown most)) ∷ []) []) is
    ]

abbrev on_side : ℕ → Side → Order → Bool
on_side i d o = (o.instrument == i) && is_side o.side d

-- the TOP order is an order of its side
pub record IsTopOf (i : ℕ) (d : Side) (es : List Entry) (s : ℕ) : Type 0 where
  pub has : HasSlot s es
  pub on : on_side i d (order_of s es) ≡ true

here : (e : Entry) (es : List Entry) (s : ℕ) → e.slot ≡ s → order_of s (e ∷ es) ≡ e.order
here e es s h = elim (eqb_tells e.slot s) [ inl t ↦ ap (λ (c : Bool). cond c e.order (order_of s es)) t.0 | inr t ↦ absurd (t.1 h) ]

there : (e : Entry) (es : List Entry) (s : ℕ) → AllDiffer (e ∷ es) → HasSlot s es → order_of s (e ∷ es) ≡ order_of s es
there e es s d h = elim (eqb_tells e.slot s) [
  | inl t ↦ absurd (d.0 (subst (λ (n : ℕ). HasSlot n es) (sym t.1) h))
  | inr t ↦ ap (λ (c : Bool). cond c e.order (order_of s es)) t.0
]

pub top_is : (i : ℕ) (d : Side) (es : List Entry) (s : ℕ) → AllDiffer es → Some s ≡ top_of i d es → IsTopOf i d es s
top_is i d [] s differ h = absurd (let k : Some s ≡ None = h in cc)
top_is i d (e ∷ es) s differ h =
    let S = side_of i d es in
    let later : Some s ≡ top_of i d es → IsTopOf i d (e ∷ es) s = λ k.
    let r = top_is i d es s differ.1 k in
    record { has = inr r.has; on = ap (on_side i d) (there e es s differ r.has) ∙ r.on } in
    let first : on_side i d e.order ≡ true → (c : Bool) → Some s ≡ slot_of (cond c (e ∷ filter (λ (x : Entry). x.is_top) S) (filter (λ (x : Entry). x.is_top) S)) → IsTopOf i d (e ∷ es) s = λ on. elim [
      | true ↦ λ k.
          let j : Some s ≡ Some e.slot = k in
          let r : e.slot ≡ s = cc in
          record { has = inl r; on = ap (on_side i d) (here e es s r) ∙ on }
      | false ↦ later
    ] in
    let go : (b : Bool) → is_on i d e ≡ b → Some s ≡ slot_of (filter (λ (x : Entry). x.is_top) (cond b (e ∷ S) S)) → IsTopOf i d (e ∷ es) s = elim [
      | true ↦ λ on k. first on e.is_top k
      | false ↦ λ on k. later k
    ] in go (is_on i d e) refl h

-- of an order of the side, only the price is left to test
at-price : (a b c : Bool) → (a && b) ≡ true → (a && (b && c)) ≡ c
at-price true true c h = refl
at-price true false c h = cc
at-price false b c h = cc

-- the TOP order of the side that an incoming order meets
pub record IsMetTop (t : Taker) (b : Book) (s : ℕ) : Type 0 where
  pub found : Some s ≡ top_of t.order.instrument (opposite t.order.side) b.resting
  pub differ : AllDiffer b.resting
  pub is : IsTopOf t.order.instrument (opposite t.order.side) b.resting s
  pub live : HasSlot s (live_orders b)
  pub live_order : order_of s (live_orders b) ≡ order_of s b.resting

-- a book answers it for that side
pub met_top : (t : Taker) (side : Side) (b : Book) (at : Option Slot) (slot : Slot) → IsRight b → side ≡ opposite t.order.side
    → option_map slot_number at ≡ top_of t.order.instrument side b.resting → at ≡ Some slot → IsMetTop t b slot.0
met_top t side b at slot right met top is =
    let found : Some slot.0 ≡ top_of t.order.instrument (opposite t.order.side) b.resting = sym (ap (option_map slot_number) is) ∙ top ∙ ap (λ (d : Side). top_of t.order.instrument d b.resting) met in
    let differ = AllDiffer-front b.resting b.waiting right.differ in
    let top = top_is t.order.instrument (opposite t.order.side) b.resting slot.0 differ found in
    record {
      found = found;
      differ = differ;
      is = top;
      live = HasSlot-left slot.0 b.resting b.waiting top.has;
      live_order = order_of-left slot.0 b.resting b.waiting top.has;
    }

module _ (rule : TopRule) (price : Price) (m : MatchState) (s : ℕ) (met : IsMetTop m.taker m.book s) where
  abbrev the_order : Order
  the_order = order_of s m.book.resting

  abbrev the_lots : ℕ
  the_lots = min m.taker.order.leaves (min the_order.shown rule.max)

  by_price : top rule price m ≡ trade_shares Top (cond (int_eq the_order.price.0 price.0) ((s, the_lots) ∷ []) []) m
  by_price =
      ap (λ (t : Option ℕ). trade_shares Top (top_shares rule.max t m.taker.order.leaves (level_now price m)) m) (sym met.found)
      ∙ ap (λ (x : List Share). trade_shares Top x m) (shares_at (facing price m.taker) s rule.max m.taker.order.leaves m.book.resting met.differ met.is.has
      ∙ ap (λ (c : Bool). cond c ((s, the_lots) ∷ []) []) (at-price _ _ (int_eq the_order.price.0 price.0) met.is.on))

  -- at this price, the order trades its share
  pub top_here : (o : Order) (n : ℕ) (same : Bool) → o ≡ order_of s (live_orders m.book) → same ≡ int_eq o.price.0 price.0 → same ≡ true → n ≡ min m.taker.order.leaves (min o.shown rule.max)
      → trade_share Top s n m ≡ top rule price m
  top_here o n same is test h share =
      let o_is : o ≡ the_order = is ∙ met.live_order in
      ap (λ (x : ℕ). trade_share Top s x m) (share ∙ ap (λ (x : Order). min m.taker.order.leaves (min x.shown rule.max)) o_is)
      ∙ sym (by_price ∙ ap (λ (c : Bool). trade_shares Top (cond c ((s, the_lots) ∷ []) []) m) (sym (ap (λ (x : Order). int_eq x.price.0 price.0) o_is) ∙ sym test ∙ h))

  -- at another price, nothing is done
  pub top_away : (o : Order) (same : Bool) → o ≡ order_of s (live_orders m.book) → same ≡ int_eq o.price.0 price.0 → same ≡ false → m ≡ top rule price m
  top_away o same is test h =
      sym (by_price ∙ ap (λ (c : Bool). trade_shares Top (cond c ((s, the_lots) ∷ []) []) m) (sym (ap (λ (x : Order). int_eq x.price.0 price.0) (is ∙ met.live_order)) ∙ sym test ∙ h))
