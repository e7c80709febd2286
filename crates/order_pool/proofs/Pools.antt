-- A pool's fields, with its rings, while a slot moves.
use Rattle.std.proofs.Common.{◌≡◌, ◌≢◌, ℕ, ◌+◌, ◌<◌, ◌≤◌, Bool, cond, List, [], ◌∷◌, ◌++◌, length, map, refl, sym, ap, subst, ◌∙◌, arith, inl, inr, slice_set, get_or}
use Rattle.std.proofs.lemmas.List.{length-set, length-map, get_or-set_other}
use Rattle.std.proofs.lemmas.List.Sums.{sum_by-cons}
use Rattle.std.proofs.lemmas.Grind.{get_or-set_at}
use Rattle.std.proofs.lemmas.Bool.{cases_eq}
use Rattle.std.proofs.lemmas.Bool.Decides.{eqb_tells}
use Rattle.std.specs.Prelude.{sum_by}
use Rattle.order_pool.specs.Inner.Block.{Cell, Cells, detached}
use Rattle.order_pool.specs.Inner.Rings.{order_at, queue_at, In, AreWholeRings, IsOut, AreCounts, IsPoolWith, IsPool, AreFree, ring_at, rings_of, without, entry, queues_with}
use Rattle.order_pool.specs.Queues.{Entry, Queues, entries_at, order_of, live_of, HasSlot, IsIn}
use Rattle.order_pool.proofs.Paths.{each-in}
use Rattle.order_pool.proofs.WholeRings.{rings_of-is, lent-in, length-ring-le, out-other, length-left, ring-came_other, length-came, IsOut-detached}
use Rattle.order_pool.proofs.Views.{in-entries, entries_at-qs, length-qs}

-- a slot in a queue, as the fields have it
pub record Seen (cs : List Cell) (slots queues lent : ℕ) (L : List (List ℕ)) (i q : ℕ) : Type 0 where
  pub queue : q < queues
  pub ring : In i (ring_at L q)
  pub slot : i < lent
  pub tag : queue_at cs i ≡ q
  pub cell : i < length cs

order_of-entries : (cs : List Cell) (i : ℕ) (ks : List ℕ) → In i ks → order_of i (map (entry cs) ks) ≡ order_at cs i
order_of-entries cs i [] h = absurd h
order_of-entries cs i (k ∷ ks) h =
    let F = order_of i (map (entry cs) ks) in
    elim (eqb_tells k i) [
      | inl t ↦ ap (λ (b : Bool). cond b (order_at cs k) F) t.0 ∙ ap (order_at cs) t.1
      | inr t ↦
          ap (λ (b : Bool). cond b (order_at cs k) F) t.0
          ∙ order_of-entries cs i ks (elim h [ inl e ↦ absurd (t.1 (sym e)) | inr m ↦ m ])
    ]

module _ (cs : List Cell) (slots queues : ℕ) {lent : ℕ} {free : List ℕ} (L : List (List ℕ)) (whole : AreWholeRings cs slots queues lent free L) where
  pub seen : (b : Queues) (i q : ℕ) → queues_with cs slots queues L ≡ b → IsIn b i q → Seen cs slots queues lent L i q
  seen b i q e h =
      let here : IsIn (queues_with cs slots queues L) i q = subst (λ (c : Queues). IsIn c i q) (sym e) h in
      let lq : q < queues = subst (λ (n : ℕ). q < n) (length-qs cs slots queues L whole) here.0 in
      let m : In i (ring_at L q) = in-entries cs i (ring_at L q) (subst (HasSlot i) (entries_at-qs cs slots queues L whole q lq) here.1) in
      let ring = whole.are.each q (omega arith) in
      let low : i < lent = lent-in cs slots queues L whole i q (omega arith) m in
      record { queue = lq; ring = m; slot = low; tag = each-in (λ k. queue_at cs k ≡ q) i (ring_at L q) m ring.tag; cell = omega (arith, whole.are.cells, whole.room) }

  pub order_of-seen : (b : Queues) (i q : ℕ) → queues_with cs slots queues L ≡ b → Seen cs slots queues lent L i q → order_of i (entries_at b.queues q) ≡ order_at cs i
  order_of-seen b i q e s =
      ap (λ (c : Queues). order_of i (entries_at c.queues q)) (sym e) ∙ ap (order_of i) (entries_at-qs cs slots queues L whole q s.queue) ∙ order_of-entries cs i (ring_at L q) s.ring

pub with-rings : (cs : List Cell) (slots queues : ℕ) {lent : ℕ} {free counts : List ℕ} (L : List (List ℕ)) → IsPoolWith cs slots queues lent free counts L → IsPoolWith cs slots queues lent free counts (rings_of cs slots queues)
with-rings cs slots queues {lent = lent} {free = free} {counts = counts} L h = subst (IsPoolWith cs slots queues lent free counts) (sym (rings_of-is cs slots queues L h.whole)) h

-- a block of which that is true, and of which these are the free slots, is a pool's
pub pool-with : (b : Cells) (free : List ℕ) → AreFree b free → (L : List (List ℕ)) → IsPoolWith b.cells b.slots b.queues b.lent free b.counts L → IsPool b free
pool-with b free chained L h =
    let w = with-rings b.cells b.slots b.queues L h in
    record { whole = w.whole; fits = w.fits; counted = w.counted; chained = chained }

-- ---- how many orders are live

lengths : (f : ℕ → Entry) (X : List (List ℕ)) → sum_by length (map (map f) X) ≡ sum_by length X
lengths f [] = refl
lengths f (ks ∷ X) = omega (arith, sum_by-cons length (map f ks) (map (map f) X), sum_by-cons length ks X, length-map ks f, lengths f X)

pub live_is : (cs : List Cell) (slots queues : ℕ) (L : List (List ℕ)) → live_of (queues_with cs slots queues L) ≡ sum_by length L
live_is cs slots queues L = lengths (entry cs) L

-- ---- counts

-- the count of ring t is set
counts-set : (queues t n : ℕ) (counts : List ℕ) (L M : List (List ℕ)) → t < queues → AreCounts queues counts L → n ≡ length (ring_at M t) → ((k : ℕ) → k < queues → k ≢ t → ring_at M k ≡ ring_at L k) → AreCounts queues (slice_set counts t n) M
counts-set queues t n counts L M low are is others = record {
  many = length-set counts t n ∙ are.many;
  each = λ k lk.
      elim (cases_eq k t) [
        | inl w ↦ get_or-set_at counts t k n 0 w (omega (arith, are.many)) ∙ is ∙ ap (λ (j : ℕ). length (ring_at M j)) (sym w)
        | inr nt ↦ get_or-set_other counts t k n 0 nt ∙ are.each k lk ∙ ap length (sym (others k lk nt))
      ];
}

module _ (cs : List Cell) (slots queues : ℕ) {lent : ℕ} {free : List ℕ} (counts : List ℕ) (L : List (List ℕ)) (whole : AreWholeRings cs slots queues lent free L) (are : AreCounts queues counts L) where
  module _ (i : ℕ) (li : i < lent) (lq : queue_at cs i < queues) where
    abbrev q : ℕ
    q = queue_at cs i

    abbrev L₁ : List (List ℕ)
    L₁ = map (without i) L

    -- a slot in a queue is counted
    pub count_some : 0 < get_or counts q 0
    count_some = let c = are.each q lq in omega (arith, length-left cs slots queues L whole i li lq)

    -- it leaves
    pub counts-out : (n : ℕ) → n + 1 ≡ get_or counts q 0 → AreCounts queues (slice_set counts q n) L₁
    counts-out n e =
        counts-set queues q n counts L L₁ lq are (let c = are.each q lq in omega (arith, length-left cs slots queues L whole i li lq))
        (out-other cs slots queues L whole i li lq)

    -- it goes to the end
    pub counts-back : AreCounts queues counts (slice_set L₁ q (ring_at L₁ q ++ i ∷ []))
    counts-back =
        let out = IsOut-detached cs slots queues L whole i li lq in
        record {
          many = are.many;
          each = λ k lk.
              are.each k lk
              ∙ elim (cases_eq k q) [
                | inl e ↦
                    ap (λ (j : ℕ). length (ring_at L j)) e ∙ sym (length-left cs slots queues L whole i li lq)
                    ∙ sym (length-came (detached cs i) slots queues L₁ i out q lq) ∙ ap (λ (j : ℕ). length (ring_at (slice_set L₁ q (ring_at L₁ q ++ i ∷ [])) j)) (sym e)
                | inr ne ↦ ap length (sym (ring-came_other (detached cs i) slots queues L₁ i out q lq k ne ∙ out-other cs slots queues L whole i li lq k lk ne))
              ];
        }

module _ (cs : List Cell) (slots queues : ℕ) {lent : ℕ} {free : List ℕ} (counts : List ℕ) (L : List (List ℕ)) (i : ℕ) (out : IsOut cs slots queues lent free L i) (are : AreCounts queues counts L) (r : ℕ) (lr : r < queues) where
  -- a slot comes
  pub counts-came : (n : ℕ) → n ≡ get_or counts r 0 + 1 → AreCounts queues (slice_set counts r n) (slice_set L r (ring_at L r ++ i ∷ []))
  counts-came n e =
      counts-set queues r n counts L (slice_set L r (ring_at L r ++ i ∷ [])) lr are
      (let c = are.each r lr in omega (arith, length-came cs slots queues L i out r lr))
      (λ k lk ne. ring-came_other cs slots queues L i out r lr k ne)

  pub count_fits : get_or counts r 0 + 1 ≤ slots
  count_fits = omega (arith, are.each r lr, length-ring-le L r (omega (arith, out.are.count)), out.total, out.room)
