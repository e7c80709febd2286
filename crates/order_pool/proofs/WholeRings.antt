-- A slot leaves its ring, and comes to one.
use Rattle.std.proofs.Common.{◌≡◌, ◌≢◌, ℕ, ◌+◌, ◌<◌, ◌≤◌, List, [], ◌∷◌, ◌++◌, length, map, refl, sym, ap, subst, ◌∙◌, arith, inl, inr, slice_set, length-append}
use Rattle.std.proofs.lemmas.List.{length-set, length-map, get_or-map, get_or-set_other, same_lists}
use Rattle.std.proofs.lemmas.List.FromFn.{get_or-map-range_with_len, length-map-range_with_len}
use Rattle.std.proofs.lemmas.List.Sums.{sum_by-set}
use Rattle.std.proofs.lemmas.Grind.{get_or-set_at}
use Rattle.std.proofs.lemmas.Bool.{cases_eq}
use Rattle.std.proofs.lemmas.Bool.Decides.{leb_tells}
use Rattle.std.proofs.SliceLists.{any-default}
use Rattle.std.specs.List.{range_with_len}
use Rattle.std.specs.Prelude.{sum_by}
use Rattle.order_pool.specs.Inner.Block.{Cell, cell_at, no_cell, detached, attached}
use Rattle.order_pool.specs.Inner.Rings.{queue_at, prev_at, next_at, cells_along, rings_of, Each, AllDiffer, In, IsRing, AreWholeRings, IsOut, ring_at, without}
use Rattle.order_pool.proofs.Paths.{each-from, each-in, each-of, without-none, without-gone, without-in, length-without, in-push, in-push_old, path-same, cells_along-path}
use Rattle.order_pool.proofs.RingMoves.{elsewhere, detached_queue, AreRings-detached, attached_queue, attached_queue_other, AreRings-attached}

pub length-ring-le : (L : List (List ℕ)) (q : ℕ) → q < length L → length (ring_at L q) ≤ sum_by length L
length-ring-le L q lt =
    let e = sum_by-set length L q [] [] lt in
    let z : length {A = ℕ} [] ≡ 0 = refl in
    omega (arith, e, z)

module _ (cs : List Cell) (slots queues : ℕ) {lent : ℕ} {free : List ℕ} (L : List (List ℕ)) (whole : AreWholeRings cs slots queues lent free L) where
  -- the rings are what the links give
  pub rings_of-is : rings_of cs slots queues ≡ L
  unfolding rings_of
  rings_of-is =
      let f : ℕ → List ℕ = λ q. cells_along (next_at cs) slots (slots + q) (slots + q) in
      let len : length (map f (range_with_len 0 queues)) ≡ queues = length-map-range_with_len f 0 queues in
      same_lists (map f (range_with_len 0 queues)) L (len ∙ sym whole.are.count) (λ q d lt.
      let lq : q < queues = omega (arith, len) in
      let lL : q < length L = omega (arith, whole.are.count) in
      let ring = whole.are.each q lq in
      get_or-map-range_with_len f 0 queues q q d lq (omega arith)
      ∙ cells_along-path (next_at cs) (prev_at cs) slots (slots + q) (ring_at L q) (slots + q) ring.path
      (each-from (λ k. k < slots) (λ k. k ≢ slots + q) (λ k h e. omega arith) (ring_at L q) ring.slot)
      (omega (arith, length-ring-le L q lL, whole.total, whole.room))
      ∙ any-default L q [] d lL)

  -- a slot that is in a ring was lent
  pub lent-in : (i q : ℕ) → q < queues → In i (ring_at L q) → i < lent
  lent-in i q lq m =
      let ring = whole.are.each q lq in
      let low : i < slots = each-in (λ k. k < slots) i (ring_at L q) m ring.slot in
      let tag : queue_at cs i ≡ q = each-in (λ k. queue_at cs k ≡ q) i (ring_at L q) m ring.tag in
      elim (leb_tells lent i) [
        | inl t ↦ let u = whole.unlent i t.1 low in absurd (omega arith)
        | inr t ↦ t.1
      ]

  -- a slot whose tag is that of no ring is in none
  pub nowhere : (i : ℕ) → queue_at cs i ≡ queues → (q : ℕ) → q < queues → Each (λ k. k ≢ i) (ring_at L q)
  nowhere i tag q lq =
      each-from (λ k. queue_at cs k ≡ q) (λ k. k ≢ i) (λ k t e. let v : queue_at cs i ≡ q = ap (queue_at cs) (sym e) ∙ t in omega arith) (ring_at L q) (whole.are.each q lq).tag

  -- ---- a slot leaves its ring

  module _ (i : ℕ) (li : i < lent) (lq : queue_at cs i < queues) where
    abbrev q : ℕ
    q = queue_at cs i

    pub member : In i (ring_at L q)
    member = whole.covers i li lq

    abbrev L₁ : List (List ℕ)
    L₁ = map (without i) L

    same_tag : (k : ℕ) → queue_at (detached cs i) k ≡ queue_at cs k
    same_tag k = detached_queue cs slots queues L whole.are q i lq member k

    ring₁ : (k : ℕ) → k < queues → ring_at L₁ k ≡ without i (ring_at L k)
    ring₁ k lk = get_or-map (without i) L k [] [] (omega (arith, whole.are.count))

    -- the other rings stay
    pub without-elsewhere : (k : ℕ) → k < queues → k ≢ q → without i (ring_at L k) ≡ ring_at L k
    without-elsewhere k lk ne = without-none i (ring_at L k) (elsewhere cs slots queues L whole.are q i lq member k lk ne)

    pub out-other : (k : ℕ) → k < queues → k ≢ q → ring_at L₁ k ≡ ring_at L k
    out-other k lk ne = ring₁ k lk ∙ without-elsewhere k lk ne

    pub length-left : length (ring_at L₁ q) + 1 ≡ length (ring_at L q)
    length-left = ap (λ (ks : List ℕ). length ks + 1) (ring₁ q lq) ∙ length-without i (ring_at L q) member (whole.are.each q lq).differ

    taken : L₁ ≡ slice_set L q (ring_at L₁ q)
    taken =
        let m = length-map L (without i) in
        same_lists L₁ (slice_set L q (ring_at L₁ q)) (m ∙ sym (length-set L q _)) (λ k d lt.
        let lk : k < queues = omega (arith, m, whole.are.count) in
        let lL : k < length L = omega (arith, whole.are.count) in
        any-default L₁ k d [] lt
        ∙ elim (cases_eq k q) [
          | inl e ↦ ap (ring_at L₁) e ∙ sym (get_or-set_at L q k _ d e (omega (arith, whole.are.count, lq)))
          | inr ne ↦ out-other k lk ne ∙ any-default L k [] d lL ∙ sym (get_or-set_other L q k _ d ne)
        ])

    out-covers : (k : ℕ) → k < lent → k ≢ i → queue_at (detached cs i) k < queues → In k (ring_at L₁ (queue_at (detached cs i) k))
    out-covers k lk ne lt =
        let t = same_tag k in
        let lu : queue_at cs k < queues = omega (arith, lt, t) in
        subst (λ (j : ℕ). In k (ring_at L₁ j)) (sym t)
        (subst (In k) (sym (ring₁ (queue_at cs k) lu)) (without-in i k (ring_at L (queue_at cs k)) (whole.covers k lk lu) ne))

    pub IsOut-detached : IsOut (detached cs i) slots queues lent free L₁ i
    IsOut-detached = record {
      are = AreRings-detached cs slots queues L whole.are q i lq member;
      room = whole.room;
      slot = li;
      gone = λ k lk. subst (Each (λ j. j ≢ i)) (sym (ring₁ k lk)) (without-gone i (ring_at L k));
      covers = out-covers;
      unlent = λ k le lk. same_tag k ∙ whole.unlent k le lk;
      within = whole.within;
      tags = each-from (λ k. queue_at cs k ≡ queues) (λ k. queue_at (detached cs i) k ≡ queues) (λ k t. same_tag k ∙ t) free whole.tags;
      others = each-from (λ k. queue_at cs k ≡ queues) (λ k. k ≢ i) (λ k t e. let v : queue_at cs i ≡ queues = ap (queue_at cs) (sym e) ∙ t in omega arith) free whole.tags;
      differ = whole.differ;
      total =
          let a : sum_by length L₁ ≡ sum_by length (slice_set L q (ring_at L₁ q)) = ap (sum_by length) taken in
          let b = sum_by-set length L q (ring_at L₁ q) [] (omega (arith, whole.are.count, lq)) in
          omega (arith, a, b, length-left, whole.total);
    }

  -- ---- a slot that is lent

  pub IsOut-lent : lent < slots → IsOut cs slots queues (lent + 1) free L lent
  IsOut-lent some = record {
    are = whole.are;
    room = omega arith;
    slot = omega arith;
    gone = nowhere lent (whole.unlent lent (omega arith) some);
    covers = λ k lk ne lt. whole.covers k (omega arith) lt;
    unlent = λ k le lk. whole.unlent k (omega arith) lk;
    within = each-from (λ k. k < lent) (λ k. k < lent + 1) (λ k lt. omega arith) free whole.within;
    tags = whole.tags;
    others = each-from (λ k. k < lent) (λ k. k ≢ lent) (λ k lt e. omega arith) free whole.within;
    differ = whole.differ;
    total = omega (arith, whole.total);
  }

  -- ---- a slot that was free

  pub IsOut-popped : (rest : List ℕ) (i : ℕ) → free ≡ i ∷ rest → IsOut cs slots queues lent rest L i
  IsOut-popped rest i e =
      let within = subst (Each (λ k. k < lent)) e whole.within in
      let tags = subst (Each (λ k. queue_at cs k ≡ queues)) e whole.tags in
      let differ = subst AllDiffer e whole.differ in
      record {
        are = whole.are;
        room = whole.room;
        slot = within.0;
        gone = nowhere i tags.0;
        covers = λ k lk ne lt. whole.covers k lk lt;
        unlent = whole.unlent;
        within = within.1;
        tags = tags.1;
        others = differ.0;
        differ = differ.1;
        total = let l = ap length e in let o : length (i ∷ rest) ≡ length rest + 1 = omega arith in omega (arith, whole.total, l, o);
      }

-- ---- a slot that is out

module _ (cs : List Cell) (slots queues : ℕ) {lent : ℕ} {free : List ℕ} (L : List (List ℕ)) (i : ℕ) (out : IsOut cs slots queues lent free L i) where
  -- its cell is set
  module _ (c : Cell) where
    abbrev ds : List Cell
    ds = slice_set cs i c

    pub set_other : (k : ℕ) → k ≢ i → cell_at ds k ≡ cell_at cs k
    set_other k ne = get_or-set_other cs i k c no_cell ne

    ring-set : (q : ℕ) → q < queues → IsRing ds slots q (ring_at L q)
    ring-set q lq =
        let ring = out.are.each q lq in
        let ks = ring_at L q in
        let gone = out.gone q lq in
        let head : slots + q ≢ i = (λ e. omega (arith, out.slot, out.room)) in
        let next : (k : ℕ) → k ≢ i → next_at ds k ≡ next_at cs k = (λ k ne. ap (λ (d : Cell). d.next) (set_other k ne)) in
        let prev : (k : ℕ) → k ≢ i → prev_at ds k ≡ prev_at cs k = (λ k ne. ap (λ (d : Cell). d.prev) (set_other k ne)) in
        record {
          path = path-same (next_at cs) (prev_at cs) (next_at ds) (prev_at ds) (slots + q) ks (slots + q) (next (slots + q) head)
              (each-from (λ k. k ≢ i) (λ k. next_at ds k ≡ next_at cs k) next ks gone)
              (each-from (λ k. k ≢ i) (λ k. prev_at ds k ≡ prev_at cs k) prev ks gone) (prev (slots + q) head) ring.path;
          slot = ring.slot;
          tag = each-of (λ k. queue_at ds k ≡ q) ks (λ k m. ap (λ (d : Cell). d.queue) (set_other k (each-in (λ j. j ≢ i) k ks m gone)) ∙ each-in (λ j. queue_at cs j ≡ q) k ks m ring.tag);
          differ = ring.differ;
        }

    pub IsOut-set : IsOut ds slots queues lent free L i
    IsOut-set =
        let tag : (k : ℕ) → k ≢ i → queue_at ds k ≡ queue_at cs k = (λ k ne. ap (λ (d : Cell). d.queue) (set_other k ne)) in
        record {
          are = record {
            cells = length-set cs i c ∙ out.are.cells;
            count = out.are.count;
            each = ring-set;
            heads = λ q lq. tag (slots + q) (λ e. omega (arith, out.slot, out.room)) ∙ out.are.heads q lq;
          };
          room = out.room;
          slot = out.slot;
          gone = out.gone;
          covers = λ k lk ne lt.
              let t = tag k ne in
              subst (λ (j : ℕ). In k (ring_at L j)) (sym t) (out.covers k lk ne (omega (arith, t, lt)));
          unlent = λ k le lk. tag k (λ e. omega (arith, out.slot)) ∙ out.unlent k le lk;
          within = out.within;
          tags = each-of (λ k. queue_at ds k ≡ queues) free (λ k m. tag k (each-in (λ j. j ≢ i) k free m out.others) ∙ each-in (λ j. queue_at cs j ≡ queues) k free m out.tags);
          others = out.others;
          differ = out.differ;
          total = out.total;
        }

  -- it is free
  pub AreWholeRings-freed : queue_at cs i ≡ queues → AreWholeRings cs slots queues lent (i ∷ free) L
  AreWholeRings-freed tag = record {
    are = out.are;
    room = out.room;
    covers = λ k lk lt. out.covers k lk (λ e. let v : queue_at cs k ≡ queue_at cs i = ap (queue_at cs) e in omega arith) lt;
    unlent = out.unlent;
    within = (out.slot, out.within);
    tags = (tag, out.tags);
    differ = (out.others, out.differ);
    total = let l : length (i ∷ free) ≡ length free + 1 = omega arith in omega (arith, out.total, l);
  }

  -- it comes to the end of ring r
  module _ (r : ℕ) (lr : r < queues) where
    abbrev new : List Cell
    new = attached cs i (slots + r) r

    abbrev longer : List ℕ
    longer = ring_at L r ++ i ∷ []

    abbrev M : List (List ℕ)
    M = slice_set L r longer

    low : i < slots
    low = omega (arith, out.slot, out.room)

    mine : queue_at new i ≡ r
    mine = attached_queue cs slots queues L out.are r i lr low out.gone

    other : (k : ℕ) → k ≢ i → queue_at new k ≡ queue_at cs k
    other = attached_queue_other cs slots queues L out.are r i lr low out.gone

    pub ring-came : ring_at M r ≡ longer
    ring-came = get_or-set_at L r r longer [] refl (omega (arith, out.are.count))

    pub ring-came_other : (q : ℕ) → q ≢ r → ring_at M q ≡ ring_at L q
    ring-came_other q ne = get_or-set_other L r q longer [] ne

    pub length-came : length (ring_at M r) ≡ length (ring_at L r) + 1
    length-came = ap length ring-came ∙ length-append (ring_at L r) (i ∷ [])

    came-covers : (k : ℕ) → k < lent → queue_at new k < queues → In k (ring_at M (queue_at new k))
    came-covers k lk lt =
        elim (cases_eq k i) [
          | inl e ↦
              let t : queue_at new k ≡ r = ap (queue_at new) e ∙ mine in
              subst (λ (j : ℕ). In k (ring_at M j)) (sym t) (subst (In k) (sym ring-came) (subst (λ (j : ℕ). In j longer) (sym e) (in-push i (ring_at L r))))
          | inr ne ↦
              let t = other k ne in
              let was = out.covers k lk ne (omega (arith, t, lt)) in
              subst (λ (j : ℕ). In k (ring_at M j)) (sym t)
              (elim (cases_eq (queue_at cs k) r) [
                | inl e ↦ subst (λ (j : ℕ). In k (ring_at M j)) (sym e) (subst (In k) (sym ring-came) (in-push_old k i (ring_at L r) (subst (λ (j : ℕ). In k (ring_at L j)) e was)))
                | inr not ↦ subst (In k) (sym (ring-came_other (queue_at cs k) not)) was
              ])
        ]

    pub AreWholeRings-came : AreWholeRings new slots queues lent free M
    AreWholeRings-came = record {
      are = AreRings-attached cs slots queues L out.are r i lr low out.gone;
      room = out.room;
      covers = came-covers;
      unlent = λ k le lk. other k (λ e. omega (arith, out.slot)) ∙ out.unlent k le lk;
      within = out.within;
      tags = each-of (λ k. queue_at new k ≡ queues) free (λ k m. other k (each-in (λ j. j ≢ i) k free m out.others) ∙ each-in (λ j. queue_at cs j ≡ queues) k free m out.tags);
      differ = out.differ;
      total =
          let b = sum_by-set length L r longer [] (omega (arith, out.are.count)) in
          let d : length longer ≡ length (ring_at L r) + length (i ∷ []) = length-append (ring_at L r) (i ∷ []) in
          let e : length (i ∷ []) ≡ 1 = refl in
          omega (arith, b, d, e, out.total);
    }
