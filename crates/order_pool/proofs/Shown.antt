-- What a contract sees when an order changes, and which slots it sees.
use Rattle.std.proofs.Common.{◌≡◌, ◌≢◌, ℕ, ◌+◌, ◌<◌, ◌≤◌, cond, eqb, List, [], ◌∷◌, length, map, refl, sym, ap, subst, ◌∙◌, arith, inl, inr, nat_lt}
use Rattle.std.specs.Prelude.{IsTrue}
use Rattle.std.proofs.lemmas.Bool.{ltb-true, lt-ltb}
use Rattle.std.proofs.lemmas.List.{length-set, get_or-set_same, get_or-set_other}
use Rattle.std.proofs.lemmas.Bool.Decides.{eqb_tells}
use Rattle.gx_base.specs.declared.order.Order.{Order}
use Rattle.order_pool.specs.Inner.Block.{Cell, cell_at, no_cell, with_order}
use Rattle.order_pool.specs.Inner.Rings.{order_at, queue_at, next_at, prev_at, Each, In, Path, AreWholeRings, IsPoolWith, ring_at, rings_of, entry, queues_with, queues_of, AllDiffer}
use Rattle.order_pool.specs.Queues.{Queues, with_entry, HasSlot, IsLive, NoRepeat, SlotsDiffer}
use Rattle.order_pool.proofs.CellsAt.{kept}
use Rattle.order_pool.proofs.WholeRings.{rings_of-is}
use Rattle.order_pool.proofs.Views.{in-entries, has_slot-entries, entries_at-qs, length-qs}
use Rattle.order_pool.proofs.Paths.{each-in}
use Rattle.order_pool.proofs.Pools.{seen, with-rings}

-- only the links and the tags count
AreWholeRings-same : (cs ds : List Cell) (slots queues : ℕ) {lent : ℕ} {free : List ℕ} (L : List (List ℕ)) → length ds ≡ length cs → next_at ds ≡ next_at cs → prev_at ds ≡ prev_at cs → queue_at ds ≡ queue_at cs
    → AreWholeRings cs slots queues lent free L → AreWholeRings ds slots queues lent free L
AreWholeRings-same cs ds slots queues {free = free} L len nx pv tg whole = record {
  are = record {
    cells = len ∙ whole.are.cells;
    count = whole.are.count;
    each = λ q lq.
        let ring = whole.are.each q lq in
        let ks = ring_at L q in
        let s = slots + q in
        record {
          path = subst (λ (f : ℕ → ℕ). Path f (prev_at ds) s ks s) (sym nx) (subst (λ (f : ℕ → ℕ). Path (next_at cs) f s ks s) (sym pv) ring.path);
          slot = ring.slot;
          tag = subst (λ (f : ℕ → ℕ). Each (λ k. f k ≡ q) ks) (sym tg) ring.tag;
          differ = ring.differ;
        };
    heads = λ q lq. ap (λ (f : ℕ → ℕ). f (slots + q)) tg ∙ whole.are.heads q lq;
  };
  room = whole.room;
  covers = λ k lk. subst (λ (f : ℕ → ℕ). f k < queues → In k (ring_at L (f k))) (sym tg) (whole.covers k lk);
  unlent = λ k le lk. ap (λ (f : ℕ → ℕ). f k) tg ∙ whole.unlent k le lk;
  within = whole.within;
  tags = subst (λ (f : ℕ → ℕ). Each (λ k. f k ≡ queues) free) (sym tg) whole.tags;
  differ = whole.differ;
  total = whole.total;
}

module _ (cs : List Cell) (i : ℕ) (o : Order) (wi : i < length cs) where
  abbrev ds : List Cell
  ds = with_order cs i o

  abbrev mine : Cell
  mine = record (cell_at cs i) { order = o }

  changed : (k : ℕ) → entry ds k ≡ (k, cond (eqb k i) o (order_at cs k))
  changed k =
      elim (eqb_tells k i) [
        | inl t ↦
            (λ j. (k, (ap (λ (d : Cell). d.order) (ap (cell_at ds) t.1 ∙ get_or-set_same cs i mine no_cell wi)) j))
            ∙ (λ j. (k, cond (sym t.0 j) o (order_at cs k)))
        | inr t ↦
            (λ j. (k, (ap (λ (d : Cell). d.order) (get_or-set_other cs i k mine no_cell t.1)) j))
            ∙ (λ j. (k, cond (sym t.0 j) o (order_at cs k)))
      ]

  changed_all : (ks : List ℕ) → map (entry ds) ks ≡ with_entry i o (map (entry cs) ks)
  changed_all [] = refl
  changed_all (k ∷ ks) = λ j. changed k j ∷ changed_all ks j

  changed_rings : (X : List (List ℕ)) → map (map (entry ds)) X ≡ map (with_entry i o) (map (map (entry cs)) X)
  changed_rings [] = refl
  changed_rings (ks ∷ X) = λ j. changed_all ks j ∷ changed_rings X j

module _ (cs : List Cell) (slots queues : ℕ) {lent : ℕ} {free : List ℕ} (counts : List ℕ) (L : List (List ℕ)) (pool : IsPoolWith cs slots queues lent free counts L) (i : ℕ) (o : Order) (li : i < lent) where
  abbrev es : List Cell
  es = with_order cs i o

  wi : i < length cs
  wi = omega (arith, pool.whole.are.cells, pool.whole.room)

  whole₀ : AreWholeRings es slots queues lent free L
  whole₀ =
      let c : Cell = record (cell_at cs i) { order = o } in
      AreWholeRings-same cs es slots queues L (length-set cs i c) (λ j y. kept (λ c. c.next) cs i c wi refl y j) (λ j y. kept (λ c. c.prev) cs i c wi refl y j) (λ j y. kept (λ c. c.queue) cs i c wi refl y j) pool.whole

  pub IsPool-ordered : IsPoolWith es slots queues lent free counts (rings_of es slots queues)
  IsPool-ordered = with-rings es slots queues L (record { whole = whole₀; fits = pool.fits; counted = pool.counted })

  pub view-ordered : (b : Queues) → queues_with cs slots queues L ≡ b → queues_of es slots queues ≡ record b { queues = map (with_entry i o) b.queues }
  view-ordered b shown =
      subst (λ (c : Queues). queues_of es slots queues ≡ record c { queues = map (with_entry i o) c.queues }) shown
      (ap (queues_with es slots queues) (rings_of-is es slots queues L whole₀)
      ∙ (λ j. record { capacity = slots; queues = changed_rings cs i o wi L j }))

module _ (cs : List Cell) (slots queues : ℕ) {lent : ℕ} {free : List ℕ} (L : List (List ℕ)) (whole : AreWholeRings cs slots queues lent free L) (b : Queues) (shown : queues_with cs slots queues L ≡ b) (i : ℕ) where
  pub is_live : i < lent → queue_at cs i < queues → IsLive b i
  is_live li lq =
      subst (λ (c : Queues). IsLive c i) shown (
        queue_at cs i,
        (
          omega (arith, length-qs cs slots queues L whole),
          subst (HasSlot i) (sym (entries_at-qs cs slots queues L whole (queue_at cs i) lq)) (has_slot-entries cs i (ring_at L (queue_at cs i)) (whole.covers i li lq)),
        ),
      )

  pub live_slot : IsLive b i → i < lent
  live_slot h = (seen cs slots queues L whole b i h.0 shown h.1).slot

  pub live_queue : IsLive b i → queue_at cs i < queues
  live_queue h = let s = seen cs slots queues L whole b i h.0 shown h.1 in omega (arith, s.tag, s.queue)

  pub is_live_tested : (q : ℕ) → q ≡ queue_at cs i → i < lent → (IsTrue (nat_lt q queues) → IsLive b i) × (IsLive b i → IsTrue (nat_lt q queues))
  is_live_tested q e li =
      (λ t. let below = ltb-true q queues t in is_live li (omega (arith, below)), λ h. let below = live_queue h in lt-ltb q queues (omega (arith, below)))

  pub not_lent : lent ≤ i → (IsTrue (nat_lt i lent) → IsLive b i) × (IsLive b i → IsTrue (nat_lt i lent))
  not_lent le = (λ t. let below = ltb-true i lent t in absurd (omega (arith, below)), λ h. lt-ltb i lent (live_slot h))

no_repeat : (cs : List Cell) (ks : List ℕ) → AllDiffer ks → NoRepeat (map (entry cs) ks)
no_repeat cs [] d = tt
no_repeat cs (k ∷ ks) d = (λ h. each-in (λ j. j ≢ k) k ks (in-entries cs k ks h) d.0 refl, no_repeat cs ks d.1)

pub rules : (cs : List Cell) (slots queues : ℕ) {lent : ℕ} {free : List ℕ} (L : List (List ℕ)) (whole : AreWholeRings cs slots queues lent free L) (b : Queues) → queues_with cs slots queues L ≡ b → SlotsDiffer b
rules cs slots queues L whole b shown =
    subst SlotsDiffer shown
    (record {
      across = λ i q r h k.
          let c = queues_with cs slots queues L in
          sym (seen cs slots queues L whole c i q refl h).tag ∙ (seen cs slots queues L whole c i r refl k).tag;
      within = λ q h.
          let lq : q < queues = omega (arith, length-qs cs slots queues L whole) in
          subst NoRepeat (sym (entries_at-qs cs slots queues L whole q lq)) (no_repeat cs (ring_at L q) (whole.are.each q (omega arith)).differ);
      below = λ i h. let s = seen cs slots queues L whole (queues_with cs slots queues L) i h.0 refl h.1 in omega (arith, s.slot, whole.room);
    })
