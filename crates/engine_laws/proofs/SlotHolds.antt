-- The order of a slot, while others trade.
use Rattle.std.proofs.Common.{◌≡◌, ◌≢◌, ℕ, Bool, true, false, cond, not, List, [], ◌∷◌, filter, sym, subst, ◌∙◌, inl, inr}
use Rattle.std.specs.Prelude.{◌==◌}
use Rattle.std.specs.List.{AllByRecursion}
use Rattle.std.proofs.lemmas.Bool.Decides.{eqb_tells}
use Rattle.gx_base.specs.declared.order.Order.{Order}
use Rattle.gx_base.specs.declared.event.StepName.{StepName}
use Rattle.plain_book.specs.declared.entry.Entry.{Entry}
use Rattle.plain_book.specs.Orders.{HasSlot, order_of, without, with_order, placed, settled, refreshed, filled_by, is_at_earlier_level}
use Rattle.plain_book.specs.Match.{MatchState, trade, is_prorata, book_share_noted, share_noted, trade_share}
use Rattle.plain_book.proofs.Levels.{renewed}
use Rattle.plain_book.proofs.Pairs.{all-filter, all-append}
use Rattle.plain_book.proofs.Walks.{HasSlot-with_order}
use Rattle.level_sweep.proofs.SlotsKept.{HasSlot-settled}

module _ (P : Order → Type 0) where
  abbrev pub HoldsOf : ℕ → Entry → Type 0
  HoldsOf t e = e.slot ≡ t → P e.order

  -- there is an order of this slot, of which P holds
  pub record HoldsAt (t : ℕ) (es : List Entry) : Type 0 where
    pub has : HasSlot t es
    pub each : AllByRecursion (HoldsOf t) es

  pub holds-order : (t : ℕ) (es : List Entry) → HasSlot t es → AllByRecursion (HoldsOf t) es → P (order_of t es)
  holds-order t [] h a = absurd h
  holds-order t (e ∷ es) h a = elim (eqb_tells e.slot t) [
    | inl u ↦ subst (λ (b : Bool). P (cond b e.order (order_of t es))) (sym u.0) (a.0 u.1)
    | inr u ↦ subst (λ (b : Bool). P (cond b e.order (order_of t es))) (sym u.0) (holds-order t es (elim h [ inl is ↦ absurd (u.1 is) | inr m ↦ m ]) a.1)
  ]

  holds-changed : (t s : ℕ) (o : Order) (es : List Entry) → (s ≡ t → P o) → AllByRecursion (HoldsOf t) es → AllByRecursion (HoldsOf t) (with_order s o es)
  holds-changed t s o [] h a = tt
  holds-changed t s o (e ∷ es) h a = (
    elim (eqb_tells e.slot s) [
      | inl u ↦ subst (λ (b : Bool). HoldsOf t (cond b (renewed e o) e)) (sym u.0) (λ is. h (sym u.1 ∙ is))
      | inr u ↦ subst (λ (b : Bool). HoldsOf t (cond b (renewed e o) e)) (sym u.0) a.0
    ],
    holds-changed t s o es h a.1,
  )

  holds-placed : (t : ℕ) (n : Entry) (es : List Entry) → HoldsOf t n → AllByRecursion (HoldsOf t) es → AllByRecursion (HoldsOf t) (placed n es)
  holds-placed t n es h a =
      let p = is_at_earlier_level n in
      all-append (HoldsOf t) (filter (λ e. not (p e)) es) (n ∷ filter p es) (all-filter (HoldsOf t) (λ e. not (p e)) es a) (h, all-filter (HoldsOf t) p es a)

  holds-settled : (t s : ℕ) (o : Order) (es : List Entry) → t ≢ s → AllByRecursion (HoldsOf t) es → AllByRecursion (HoldsOf t) (settled s o es)
  holds-settled t s o es other a =
      let n : Entry = record { slot = s; order = refreshed o; is_top = false } in
      let left = all-filter (HoldsOf t) (λ e. not (e.slot == s)) es a in
      let go : (x y : Bool) → AllByRecursion (HoldsOf t) (cond x (without s es) (cond y (placed n (without s es)) (with_order s o es))) = elim [
        | true ↦ λ y. left
        | false ↦ elim [ true ↦ holds-placed t n (without s es) (λ is. absurd (other (sym is))) left | false ↦ holds-changed t s o es (λ is. absurd (other (sym is))) a ]
      ] in go (o.leaves == 0) (o.shown == 0)

  -- a noted share is not what P speaks of
  pub holds-marked : ((o : Order) (k : ℕ) → P o → P (record o { prorated = k })) → (step : StepName) (t s n : ℕ) (m : MatchState) → HoldsAt t m.book.resting → HoldsAt t (share_noted step s n m).book.resting
  holds-marked mark step t s n m h =
      let es = m.book.resting in
      let now : Order = record (order_of s es) { prorated = n } in
      let go : (c : Bool) → HoldsAt t (cond c (book_share_noted s n m.book) m.book).resting = elim [
        | true ↦ record {
          has = HasSlot-with_order s t now es h.has;
          each = holds-changed t s now es (λ is. subst (λ (k : ℕ). P (record (order_of k es) { prorated = n })) (sym is) (mark (order_of t es) n (holds-order t es h.has h.each))) h.each;
        }
        | false ↦ h
      ] in go (is_prorata step)

  -- another order trades its share
  pub holds-share : ((o : Order) (k : ℕ) → P o → P (record o { prorated = k })) → (step : StepName) (t s n : ℕ) (m : MatchState) → t ≢ s → HoldsAt t m.book.resting → HoldsAt t (trade_share step s n m).book.resting
  holds-share mark step t s n m other h =
      let k = share_noted step s n m in
      let here = holds-marked mark step t s n m h in
      let o : Order = filled_by n (order_of s k.book.resting) in
      let go : (c : Bool) → HoldsAt t (cond c k (trade step s n k)).book.resting = elim [
        | true ↦ here
        | false ↦ record { has = HasSlot-settled t s o k.book.resting other here.has; each = holds-settled t s o k.book.resting other here.each }
      ] in go (n == 0)
