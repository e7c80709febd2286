-- Rings when one cell leaves and when one comes.
use Rattle.std.proofs.Common.{◌≡◌, ◌≢◌, ℕ, ◌+◌, ◌<◌, List, [], ◌∷◌, ◌++◌, length, map, sym, ap, subst, ◌∙◌, arith, inl, inr, slice_set}
use Rattle.std.proofs.lemmas.List.{length-set, length-map, get_or-map, get_or-set_other}
use Rattle.std.proofs.lemmas.Grind.{get_or-set_at}
use Rattle.std.proofs.lemmas.Bool.{cases_eq}
use Rattle.order_pool.specs.Inner.Block.{Cell, detached, attached}
use Rattle.order_pool.specs.Inner.Rings.{order_at, prev_at, next_at, queue_at, Each, Path, In, IsRing, AreRings, ring_at, without}
use Rattle.order_pool.proofs.Paths.{each-from, each-in, each-of, each-push, differ-push, without-none, without-each, without-differ, path-last, path-forth, path-back, first-is, next-is, last-is, prev-is, path-same, detached-path, attached-path}
use Rattle.order_pool.proofs.CellsAt.{length-detached, detached-next, detached-next_other, detached-prev, detached-prev_other, detached-queue, detached-order, length-attached, attached-next_last, attached-next_mine, attached-next_other, attached-prev_mine, attached-prev_head, attached-prev_other, attached-queue_mine, attached-queue_other, attached-order}

module _ (cs : List Cell) (slots queues : ℕ) (L : List (List ℕ)) (are : AreRings cs slots queues L) where
  abbrev N : ℕ → ℕ
  N = next_at cs

  abbrev P : ℕ → ℕ
  P = prev_at cs

  abbrev bound : ℕ → Type 0
  bound k = k < length cs

  pub within : (q : ℕ) → q < queues → Each bound (ring_at L q)
  within q lq = each-from (λ k. k < slots) bound (λ k h. omega (arith, are.cells)) (ring_at L q) (are.each q lq).slot

  pub head_within : (q : ℕ) → q < queues → slots + q < length cs
  head_within q lq = omega (arith, are.cells)

  pub prev_within : (q i : ℕ) → q < queues → In i (ring_at L q) → P i < length cs
  prev_within q i lq m = prev-is N P bound i (slots + q) (ring_at L q) (slots + q) (are.each q lq).path (within q lq) (head_within q lq) m

  pub next_within : (q i : ℕ) → q < queues → In i (ring_at L q) → N i < length cs
  next_within q i lq m = next-is N P bound i (slots + q) (ring_at L q) (slots + q) (are.each q lq).path (within q lq) (head_within q lq) m

  pub last_within : (q : ℕ) → q < queues → P (slots + q) < length cs
  last_within q lq = last-is N P bound (slots + q) (ring_at L q) (slots + q) (are.each q lq).path (within q lq) (head_within q lq)

  -- no slot is a head
  not_head : (q : ℕ) → q < queues → Each (λ k. k ≢ slots + q) (ring_at L q)
  not_head q lq = each-from (λ k. k < slots) (λ k. k ≢ slots + q) (λ k h e. omega arith) (ring_at L q) (are.each q lq).slot

  module _ (q i : ℕ) (lq : q < queues) (m : In i (ring_at L q)) where
    tag : queue_at cs i ≡ q
    tag = each-in (λ k. queue_at cs k ≡ q) i (ring_at L q) m (are.each q lq).tag

    abbrev cs' : List Cell
    cs' = detached cs i

    abbrev lp : P i < length cs
    lp = prev_within q i lq m

    abbrev ln : N i < length cs
    ln = next_within q i lq m

    back : N (P i) ≡ i
    back = path-back N P i (slots + q) (ring_at L q) (slots + q) (are.each q lq).path m

    forth : P (N i) ≡ i
    forth = path-forth N P i (slots + q) (ring_at L q) (slots + q) (are.each q lq).path m

    -- i is in no other ring
    pub elsewhere : (r : ℕ) → r < queues → r ≢ q → Each (λ k. k ≢ i) (ring_at L r)
    elsewhere r lr ne = each-from (λ k. queue_at cs k ≡ r) (λ k. k ≢ i) (λ k t e. ne (sym t ∙ ap (queue_at cs) e ∙ tag)) (ring_at L r) (are.each r lr).tag

    other : (r : ℕ) → r < queues → r ≢ q → Path (next_at cs') (prev_at cs') (slots + r) (ring_at L r) (slots + r)
    other r lr ne =
        let ring = are.each r lr in
        let ks = ring_at L r in
        let s = slots + r in
        let T : ℕ → Type 0 = λ y. queue_at cs y ≡ r in
        let head : T s = are.heads r lr in
        let no : T i → ⊥ = λ t. ne (sym t ∙ tag) in
        path-same N P (next_at cs') (prev_at cs') s ks s
        (detached-next_other cs i lp ln s (λ e. no (subst T (ap N e ∙ back) (first-is N P T s ks s ring.path ring.tag head))))
        (each-of (λ k. next_at cs' k ≡ N k) ks (λ k k-in. detached-next_other cs i lp ln k (λ e. no (subst T (ap N e ∙ back) (next-is N P T k s ks s ring.path ring.tag head k-in)))))
        (each-of (λ k. prev_at cs' k ≡ P k) ks (λ k k-in. detached-prev_other cs i lp ln k (λ e. no (subst T (ap P e ∙ forth) (prev-is N P T k s ks s ring.path ring.tag head k-in)))))
        (detached-prev_other cs i lp ln s (λ e. no (subst T (ap P e ∙ forth) (last-is N P T s ks s ring.path ring.tag head))))
        ring.path

    own : Path (next_at cs') (prev_at cs') (slots + q) (without i (ring_at L q)) (slots + q)
    own =
        let ring = are.each q lq in
        detached-path N P (next_at cs') (prev_at cs') i (detached-next cs i lp ln) (detached-next_other cs i lp ln) (detached-prev cs i lp ln) (detached-prev_other cs i lp ln) back forth
        (slots + q) (ring_at L q) (slots + q) ring.path m (not_head q lq) (not_head q lq) ring.differ

    left_path : (r : ℕ) → r < queues → Path (next_at cs') (prev_at cs') (slots + r) (without i (ring_at L r)) (slots + r)
    left_path r lr =
        elim (cases_eq r q) [
          | inl e ↦ subst (λ (k : ℕ). Path (next_at cs') (prev_at cs') (slots + k) (without i (ring_at L k)) (slots + k)) (sym e) own
          | inr ne ↦ subst (λ (ks : List ℕ). Path (next_at cs') (prev_at cs') (slots + r) ks (slots + r)) (sym (without-none i (ring_at L r) (elsewhere r lr ne))) (other r lr ne)
        ]

    pub detached_queue : (y : ℕ) → queue_at cs' y ≡ queue_at cs y
    detached_queue = detached-queue cs i lp ln

    pub detached_order : (y : ℕ) → order_at cs' y ≡ order_at cs y
    detached_order = detached-order cs i lp ln

    -- the link after a slot of no such queue stays
    pub detached_next : (y : ℕ) → queue_at cs y ≢ q → next_at cs' y ≡ N y
    detached_next y ne =
        let ring = are.each q lq in
        let before : queue_at cs (P i) ≡ q = prev-is N P (λ y. queue_at cs y ≡ q) i (slots + q) (ring_at L q) (slots + q) ring.path ring.tag (are.heads q lq) m in
        detached-next_other cs i lp ln y (λ e. ne (ap (queue_at cs) e ∙ before))

    pub AreRings-detached : AreRings cs' slots queues (map (without i) L)
    AreRings-detached = record {
      cells = length-detached cs i lp ln ∙ are.cells;
      count = length-map L (without i) ∙ are.count;
      each = λ r lr.
          let ring = are.each r lr in
          let at : ring_at (map (without i) L) r ≡ without i (ring_at L r) = get_or-map (without i) L r [] [] (omega (arith, are.count)) in
          subst (λ (ks : List ℕ). IsRing cs' slots r ks) (sym at) (record {
            path = left_path r lr;
            slot = without-each (λ k. k < slots) i (ring_at L r) ring.slot;
            tag = each-from (λ k. queue_at cs k ≡ r) (λ k. queue_at cs' k ≡ r) (λ k t. detached-queue cs i lp ln k ∙ t) (without i (ring_at L r)) (without-each (λ k. queue_at cs k ≡ r) i (ring_at L r) ring.tag);
            differ = without-differ i (ring_at L r) ring.differ;
          });
      heads = λ r lr. detached-queue cs i lp ln (slots + r) ∙ are.heads r lr;
    }

  -- i is in no ring, and comes to the end of ring r
  module _ (r i : ℕ) (lr : r < queues) (li : i < slots) (gone : (q : ℕ) → q < queues → Each (λ k. k ≢ i) (ring_at L q)) where
    abbrev s : ℕ
    s = slots + r

    abbrev cs⁺ : List Cell
    cs⁺ = attached cs i s r

    ll : P s < length cs
    ll = last_within r lr

    wi : i < length cs
    wi = omega (arith, are.cells)

    ws : s < length cs
    ws = head_within r lr

    nj : s ≢ i
    nj e = omega arith

    nl : P s ≢ i
    nl = last-is N P (λ y. y ≢ i) s (ring_at L r) s (are.each r lr).path (gone r lr) nj

    last_tag : queue_at cs (P s) ≡ r
    last_tag = last-is N P (λ y. queue_at cs y ≡ r) s (ring_at L r) s (are.each r lr).path (are.each r lr).tag (are.heads r lr)

    came : Path (next_at cs⁺) (prev_at cs⁺) s (ring_at L r ++ i ∷ []) s
    came =
        let ring = are.each r lr in
        attached-path N P (next_at cs⁺) (prev_at cs⁺) i s
        (attached-next_last cs i s r ll wi ws nl nj) (attached-next_other cs i s r ll wi ws nl nj) (attached-next_mine cs i s r ll wi ws nl nj)
        (attached-prev_mine cs i s r ll wi ws nl nj) (attached-prev_other cs i s r ll wi ws nl nj) (attached-prev_head cs i s r ll wi ws nl nj)
        (path-last N P s (ring_at L r) s ring.path) s (ring_at L r) ring.path nj (gone r lr) (not_head r lr)

    stayed : (q : ℕ) → q < queues → q ≢ r → Path (next_at cs⁺) (prev_at cs⁺) (slots + q) (ring_at L q) (slots + q)
    stayed q lq ne =
        let ring = are.each q lq in
        let ks = ring_at L q in
        let a = slots + q in
        let not_last : (y : ℕ) → queue_at cs y ≡ q → y ≢ P s = (λ y t e. ne (sym t ∙ ap (queue_at cs) e ∙ last_tag)) in
        let ai : a ≢ i = (λ e. omega arith) in
        let az : a ≢ s = (λ e. ne (omega arith)) in
        path-same N P (next_at cs⁺) (prev_at cs⁺) a ks a
        (attached-next_other cs i s r ll wi ws nl nj a (not_last a (are.heads q lq)) ai)
        (each-of (λ k. next_at cs⁺ k ≡ N k) ks (λ k k-in. attached-next_other cs i s r ll wi ws nl nj k (not_last k (each-in (λ j. queue_at cs j ≡ q) k ks k-in ring.tag)) (each-in (λ j. j ≢ i) k ks k-in (gone q lq))))
        (each-of (λ k. prev_at cs⁺ k ≡ P k) ks (λ k k-in. attached-prev_other cs i s r ll wi ws nl nj k (each-in (λ j. j ≢ i) k ks k-in (gone q lq)) (λ e. let low : k < slots = each-in (λ j. j < slots) k ks k-in ring.slot in omega arith)))
        (attached-prev_other cs i s r ll wi ws nl nj a ai az)
        ring.path

    tags : (q : ℕ) (ks : List ℕ) → Each (λ k. k ≢ i) ks → Each (λ k. queue_at cs k ≡ q) ks → Each (λ k. queue_at cs⁺ k ≡ q) ks
    tags q ks g t = each-of (λ k. queue_at cs⁺ k ≡ q) ks (λ k k-in. attached-queue_other cs i s r ll wi ws nl nj k (each-in (λ j. j ≢ i) k ks k-in g) ∙ each-in (λ j. queue_at cs j ≡ q) k ks k-in t)

    longer : IsRing cs⁺ slots r (ring_at L r ++ i ∷ [])
    longer =
        let ring = are.each r lr in
        record {
          path = came;
          slot = each-push (λ k. k < slots) (ring_at L r) i ring.slot li;
          tag = each-push (λ k. queue_at cs⁺ k ≡ r) (ring_at L r) i (tags r (ring_at L r) (gone r lr) ring.tag) (attached-queue_mine cs i s r ll wi ws nl nj);
          differ = differ-push (ring_at L r) i ring.differ (gone r lr);
        }

    same : (q : ℕ) → q < queues → q ≢ r → IsRing cs⁺ slots q (ring_at L q)
    same q lq ne =
        let ring = are.each q lq in
        record { path = stayed q lq ne; slot = ring.slot; tag = tags q (ring_at L q) (gone q lq) ring.tag; differ = ring.differ }

    pub attached_queue : queue_at cs⁺ i ≡ r
    attached_queue = attached-queue_mine cs i s r ll wi ws nl nj

    pub attached_queue_other : (y : ℕ) → y ≢ i → queue_at cs⁺ y ≡ queue_at cs y
    attached_queue_other = attached-queue_other cs i s r ll wi ws nl nj

    pub attached_order : (y : ℕ) → order_at cs⁺ y ≡ order_at cs y
    attached_order = attached-order cs i s r ll wi ws nl nj

    pub attached_next : (y : ℕ) → y ≢ i → queue_at cs y ≢ r → next_at cs⁺ y ≡ N y
    attached_next y own ne = attached-next_other cs i s r ll wi ws nl nj y (λ e. ne (ap (queue_at cs) e ∙ last_tag)) own

    pub AreRings-attached : AreRings cs⁺ slots queues (slice_set L r (ring_at L r ++ i ∷ []))
    AreRings-attached = record {
      cells = length-attached cs i s r ll wi ws nl nj ∙ are.cells;
      count = length-set L r _ ∙ are.count;
      each = λ q lq.
          elim (cases_eq q r) [
            | inl e ↦
                subst (λ (ks : List ℕ). IsRing cs⁺ slots q ks) (sym (get_or-set_at L r q (ring_at L r ++ i ∷ []) [] e (omega (arith, are.count))))
                (subst (λ (k : ℕ). IsRing cs⁺ slots k (ring_at L r ++ i ∷ [])) (sym e) longer)
            | inr ne ↦ subst (λ (ks : List ℕ). IsRing cs⁺ slots q ks) (sym (get_or-set_other L r q _ [] ne)) (same q lq ne)
          ];
      heads = λ q lq. attached-queue_other cs i s r ll wi ws nl nj (slots + q) (λ e. omega arith) ∙ are.heads q lq;
    }
