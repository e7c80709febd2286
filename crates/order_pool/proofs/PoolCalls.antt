-- The first slot of a queue, and the next one.
use Rattle.std.proofs.Common.{◌≡◌, ℕ, ◌+◌, ◌<◌, ◌≤◌, Bool, cond, List, [], ◌∷◌, length, map, refl, sym, ap, subst, ◌∙◌, arith, inl, inr, Some, None}
use Rattle.std.proofs.lemmas.Bool.Decides.{eqb_tells}
use Rattle.order_pool.specs.Inner.Block.{Cell}
use Rattle.order_pool.specs.Inner.Rings.{prev_at, next_at, Each, In, Path, AreWholeRings, ring_at, entry, queues_with}
use Rattle.order_pool.specs.Queues.{Queues, entries_at, first_slot, next_slot, HasSlot, IsIn}
use Rattle.order_pool.proofs.Views.{has_slot-entries, entries_at-qs, length-qs}
use Rattle.order_pool.proofs.Pools.{seen}

module _ (cs : List Cell) (slots q : ℕ) where
  abbrev N : ℕ → ℕ
  N = next_at cs

  first_some : (a : ℕ) (ks : List ℕ) → Path N (prev_at cs) a ks (slots + q) → N a < slots → first_slot (map (entry cs) ks) ≡ Some (N a)
  first_some a [] h lt = absurd (omega (arith, h.0))
  first_some a (k ∷ ks) h lt = ap (λ (n : ℕ). Some n) (sym h.0)

  first_none : (a : ℕ) (ks : List ℕ) → Path N (prev_at cs) a ks (slots + q) → Each (λ k. k < slots) ks → slots ≤ N a → first_slot (map (entry cs) ks) ≡ None
  first_none a [] h low le = refl
  first_none a (k ∷ ks) h low le = absurd (omega (arith, h.0, low.0))

  first_in : (a : ℕ) (ks : List ℕ) → Path N (prev_at cs) a ks (slots + q) → N a < slots → In (N a) ks
  first_in a [] h lt = absurd (omega (arith, h.0))
  first_in a (k ∷ ks) h lt = inl h.0

  next_in : (i a : ℕ) (ks : List ℕ) → Path N (prev_at cs) a ks (slots + q) → In i ks → N i < slots → In (N i) ks
  next_in i a [] h m lt = absurd m
  next_in i a (k ∷ ks) h (inl e) lt = inr (subst (λ (j : ℕ). In (N j) ks) (sym e) (first_in k ks h.2 (subst (λ (j : ℕ). N j < slots) e lt)))
  next_in i a (k ∷ ks) h (inr m) lt = inr (next_in i k ks h.2 m lt)

  next_some : (i a : ℕ) (ks : List ℕ) → Path N (prev_at cs) a ks (slots + q) → In i ks → N i < slots → next_slot i (map (entry cs) ks) ≡ Some (N i)
  next_some i a [] h m lt = absurd m
  next_some i a (k ∷ ks) h m lt =
      elim (eqb_tells k i) [
        | inl t ↦
            ap (λ (b : Bool). cond b (first_slot (map (entry cs) ks)) (next_slot i (map (entry cs) ks))) t.0
            ∙ first_some k ks h.2 (subst (λ (j : ℕ). N j < slots) (sym t.1) lt) ∙ ap (λ (j : ℕ). Some (N j)) t.1
        | inr t ↦
            ap (λ (b : Bool). cond b (first_slot (map (entry cs) ks)) (next_slot i (map (entry cs) ks))) t.0
            ∙ next_some i k ks h.2 (elim m [ inl e ↦ absurd (t.1 (sym e)) | inr n ↦ n ]) lt
      ]

  next_none : (i a : ℕ) (ks : List ℕ) → Path N (prev_at cs) a ks (slots + q) → Each (λ k. k < slots) ks → In i ks → slots ≤ N i → next_slot i (map (entry cs) ks) ≡ None
  next_none i a [] h low m le = absurd m
  next_none i a (k ∷ ks) h low m le =
      elim (eqb_tells k i) [
        | inl t ↦
            ap (λ (b : Bool). cond b (first_slot (map (entry cs) ks)) (next_slot i (map (entry cs) ks))) t.0
            ∙ first_none k ks h.2 low.1 (subst (λ (j : ℕ). slots ≤ N j) (sym t.1) le)
        | inr t ↦
            ap (λ (b : Bool). cond b (first_slot (map (entry cs) ks)) (next_slot i (map (entry cs) ks))) t.0
            ∙ next_none i k ks h.2 low.1 (elim m [ inl e ↦ absurd (t.1 (sym e)) | inr n ↦ n ]) le
      ]

module _ (cs : List Cell) (slots queues : ℕ) {lent : ℕ} {free : List ℕ} (L : List (List ℕ)) (whole : AreWholeRings cs slots queues lent free L) (b : Queues) (shown : queues_with cs slots queues L ≡ b) where
  entries : (q : ℕ) → q < queues → entries_at b.queues q ≡ map (entry cs) (ring_at L q)
  entries q lq = ap (λ (c : Queues). entries_at c.queues q) (sym shown) ∙ entries_at-qs cs slots queues L whole q lq

  pub below : (q : ℕ) → q < length b.queues → q < queues
  below q lq = let l = length-qs cs slots queues L whole in omega (arith, l, ap (λ (c : Queues). length c.queues) shown)

  pub first_is_some : (q : ℕ) → q < queues → next_at cs (slots + q) < slots → first_slot (entries_at b.queues q) ≡ Some (next_at cs (slots + q))
  first_is_some q lq lt = ap first_slot (entries q lq) ∙ first_some cs slots q (slots + q) (ring_at L q) (whole.are.each q (omega arith)).path lt

  pub first_is_none : (q : ℕ) → q < queues → slots ≤ next_at cs (slots + q) → first_slot (entries_at b.queues q) ≡ None
  first_is_none q lq le = ap first_slot (entries q lq) ∙ first_none cs slots q (slots + q) (ring_at L q) (whole.are.each q (omega arith)).path (whole.are.each q (omega arith)).slot le

  placed : (i q : ℕ) → q < queues → In i (ring_at L q) → IsIn b i q
  placed i q lq m = (
    omega (arith, length-qs cs slots queues L whole, ap (λ (c : Queues). length c.queues) shown),
    subst (HasSlot i) (sym (entries q lq)) (has_slot-entries cs i (ring_at L q) m),
  )

  pub first_is_in : (q : ℕ) → q < queues → next_at cs (slots + q) < slots → IsIn b (next_at cs (slots + q)) q
  first_is_in q lq lt = placed (next_at cs (slots + q)) q lq (first_in cs slots q (slots + q) (ring_at L q) (whole.are.each q (omega arith)).path lt)

  pub next_is_in : (i q : ℕ) → IsIn b i q → next_at cs i < slots → IsIn b (next_at cs i) q
  next_is_in i q h lt =
      let s = seen cs slots queues L whole b i q shown h in
      placed (next_at cs i) q s.queue (next_in cs slots q i (slots + q) (ring_at L q) (whole.are.each q (omega (arith, s.queue))).path s.ring lt)

  pub next_is_some : (i q : ℕ) → IsIn b i q → next_at cs i < slots → next_slot i (entries_at b.queues q) ≡ Some (next_at cs i)
  next_is_some i q h lt =
      let s = seen cs slots queues L whole b i q shown h in
      ap (next_slot i) (entries q s.queue) ∙ next_some cs slots q i (slots + q) (ring_at L q) (whole.are.each q (omega (arith, s.queue))).path s.ring lt

  pub next_is_none : (i q : ℕ) → IsIn b i q → slots ≤ next_at cs i → next_slot i (entries_at b.queues q) ≡ None
  next_is_none i q h le =
      let s = seen cs slots queues L whole b i q shown h in
      let ring = whole.are.each q (omega (arith, s.queue)) in
      ap (next_slot i) (entries q s.queue) ∙ next_none cs slots q i (slots + q) (ring_at L q) ring.path ring.slot s.ring le
