-- Chunks by their numbers: a change of one chunk is seen on one side, at one place.
use Rattle.std.proofs.Common.{◌≡◌, ◌≢◌, ℕ, ◌+◌, ◌<◌, ◌≤◌, Bool, cond, List, [], ◌∷◌, ◌++◌, length, get_or, map, take, drop, set, refl, sym, ap, ◌∙◌, arith, inl, inr, length-append}
use Prim.Native.Nat.{zero, suc}
use Rattle.std.proofs.lemmas.Bool.{cases_lt}
use Rattle.std.proofs.lemmas.Bool.Decides.{eqb_tells}
use Rattle.std.proofs.lemmas.List.{get_or-map, map-set, length-set, set-get_or, get_or-set_same, get_or-set_other, get_or_append_left, get_or_past, get_or_at}
use Rattle.std.specs.List.{insert, remove}
use Rattle.std.proofs.lemmas.List.Edits.{length-insert, length-remove}
use Rattle.std.proofs.lemmas.List.Sums.{sum_by-cons, sum_by-append, sum_by-set, sum_by-insert, sum_by-remove, get_or-le-sum_by}
use Rattle.price_chunks.specs.declared.place.Step.{Step}
use Rattle.price_chunks.specs.Inner.Chunks.{chunk_at}
use Rattle.price_chunks.specs.Inner.Pool.{chunks_at, gather, gather_all, one_if, uses, uses_in, IsPool, IsOther, IsTaken}

-- ---- how often a number is there

pub one-same : (k n : ℕ) → n ≡ k → one_if k n ≡ 1
one-same k n e =
    elim (eqb_tells n k) [
      | inl t ↦ ap (λ (b : Bool). cond b 1 0) t.0
      | inr t ↦ absurd (t.1 e)
    ]

pub one-other : (k n : ℕ) → n ≢ k → one_if k n ≡ 0
one-other k n ne =
    elim (eqb_tells n k) [
      | inl t ↦ absurd (ne t.1)
      | inr t ↦ ap (λ (b : Bool). cond b 1 0) t.0
    ]

pub one-below : (k n : ℕ) → one_if k n ≤ 1
one-below k n =
    elim (eqb_tells n k) [
      | inl t ↦ omega (arith, one-same k n t.1)
      | inr t ↦ omega (arith, one-other k n t.1)
    ]

pub used : (k : ℕ) (ns : List ℕ) (i : ℕ) → i < length ns → get_or ns i 0 ≡ k → 1 ≤ uses k ns
used k ns i lt e = omega (arith, get_or-le-sum_by (one_if k) ns i 0 lt, one-same k (get_or ns i 0) e)

-- ---- one chunk has changed

module _ (old new : List (List Step)) (k : ℕ) (steps : List Step) (h : IsOther old new k steps) where
  pub same-row : (ns : List ℕ) → uses k ns ≡ 0 → gather new ns ≡ gather old ns
  same-row [] z = refl
  same-row (n ∷ ns) z =
      elim (eqb_tells n k) [
        | inl t ↦ absurd (omega (arith, one-same k n t.1, sum_by-cons (one_if k) n ns))
        | inr t ↦
            let rest = same-row ns (omega (arith, sum_by-cons (one_if k) n ns)) in
            (λ i. h.other n t.1 i ∷ rest i)
      ]

  pub set-row : (ns : List ℕ) (i : ℕ) → i < length ns → get_or ns i 0 ≡ k → uses k ns ≤ 1 → gather new ns ≡ set (gather old ns) i steps
  set-row [] i lt e le = absurd (omega arith)
  set-row (n ∷ ns) zero lt e le =
      let rest = same-row ns (omega (arith, one-same k n e, sum_by-cons (one_if k) n ns)) in
      let here : chunk_at new n ≡ steps = ap (chunk_at new) e ∙ h.here in
      (λ i. here i ∷ rest i)
  set-row (n ∷ ns) (suc i) lt e le =
      let u = used k ns i (omega arith) e in
      let c = sum_by-cons (one_if k) n ns in
      let rest = set-row ns i (omega arith) e (omega arith) in
      let ne : n ≢ k = λ is. let o = one-same k n is in absurd (omega arith) in
      (λ t. h.other n ne t ∷ rest t)

  pub same-all : (all : List (List ℕ)) → uses_in k all ≡ 0 → gather_all new all ≡ gather_all old all
  same-all [] z = refl
  same-all (ns ∷ all) z =
      let c = sum_by-cons (uses k) ns all in
      let here = same-row ns (omega arith) in
      let rest = same-all all (omega arith) in
      (λ i. here i ∷ rest i)

  -- a side has these numbers now, and no other side has the one that changed
  pub set-all : (all : List (List ℕ)) (at : ℕ) (row : List ℕ) → at < length all → uses_in k all ≤ uses k (get_or all at []) → gather_all new (set all at row) ≡ set (gather_all old all) at (gather new row)
  set-all [] at row lt le = absurd (omega arith)
  set-all (ns ∷ all) zero row lt le =
      let rest = same-all all (omega (arith, sum_by-cons (uses k) ns all)) in
      (λ i. gather new row ∷ rest i)
  set-all (ns ∷ all) (suc at) row lt le =
      let c = sum_by-cons (uses k) ns all in
      let g = get_or-le-sum_by (uses k) all at [] (omega arith) in
      let here = same-row ns (omega arith) in
      let rest = set-all all at row (omega arith) (omega arith) in
      (λ i. here i ∷ rest i)

pub other-set : (chunks : List (List Step)) (k : ℕ) (steps : List Step) → k < length chunks → IsOther chunks (set chunks k steps) k steps
other-set chunks k steps lt = record { here = get_or-set_same chunks k steps [] lt; other = λ j ne. get_or-set_other chunks k j steps [] ne }

pub other-push : (chunks : List (List Step)) (steps : List Step) → IsOther chunks (chunks ++ steps ∷ []) (length chunks) steps
other-push chunks steps =
    let n = length chunks in
    record {
      here = get_or_at chunks steps [] [] n refl;
      other = λ j ne. elim (cases_lt j n) [
        | inl lt ↦ get_or_append_left chunks (steps ∷ []) [] j lt
        | inr le ↦ get_or_past (chunks ++ steps ∷ []) j [] (omega (arith, length-append chunks (steps ∷ []))) ∙ sym (get_or_past chunks j [] le)
      ];
    }

-- ---- the chunk at a place of a side

module _ (chunks : List (List Step)) (room : ℕ) (all : List (List ℕ)) (rooms free : List ℕ) (r : ℕ) (h : IsPool chunks room all rooms free r) where
  -- a side has a number once, and no other side has it
  pub once : (at i : ℕ) → at < length all → i < length (get_or all at []) → (k : ℕ) → get_or (get_or all at []) i 0 ≡ k → (uses k (get_or all at []) ≤ 1) × (uses_in k all ≤ uses k (get_or all at [])) × (uses k free ≡ 0)
  once at i lt within k e =
      let u = used k (get_or all at []) i within e in
      let a = h.apart k in
      let g = get_or-le-sum_by (uses k) all at [] lt in
      (omega arith, omega arith, omega arith)

  pub number_in : (at i : ℕ) → at < length all → i < length (get_or all at []) → (k : ℕ) → get_or (get_or all at []) i 0 ≡ k → k < length chunks
  number_in at i lt within k e =
      elim (cases_lt k (length chunks)) [
        | inl below ↦ below
        | inr above ↦
            let u = used k (get_or all at []) i within e in
            let a = h.above k above in
            let g = get_or-le-sum_by (uses k) all at [] lt in
            absurd (omega arith)
      ]

  pub row_seen : (at : ℕ) → at < length all → chunks_at (gather_all chunks all) at ≡ gather chunks (get_or all at [])
  row_seen at lt = get_or-map (gather chunks) all at [] [] lt

  pub chunk_seen : (at i : ℕ) → at < length all → i < length (get_or all at []) → (k : ℕ) → get_or (get_or all at []) i 0 ≡ k → chunk_at (chunks_at (gather_all chunks all) at) i ≡ chunk_at chunks k
  chunk_seen at i lt within k e =
      ap (λ (l : List (List Step)). chunk_at l i) (row_seen at lt)
      ∙ get_or-map (chunk_at chunks) (get_or all at []) i 0 [] within
      ∙ ap (chunk_at chunks) e

  pub changed : (at i : ℕ) → at < length all → i < length (get_or all at []) → (k : ℕ) → get_or (get_or all at []) i 0 ≡ k → (new : List (List Step)) (steps : List Step) → IsOther chunks new k steps → gather_all new all ≡ set (gather_all chunks all) at (set (chunks_at (gather_all chunks all) at) i steps)
  changed at i lt within k e new steps o =
      let row = get_or all at [] in
      let u = once at i lt within k e in
      ap (gather_all new) (sym (set-get_or all at []))
      ∙ set-all chunks new k steps o all at row lt u.1
      ∙ ap (set (gather_all chunks all) at) (set-row chunks new k steps o row i within e u.0 ∙ ap (λ (l : List (List Step)). set l i steps) (sym (row_seen at lt)))

  pub kept : (new : List (List Step)) → length new ≡ length chunks → IsPool new room all rooms free r
  kept new e = record {
    fits = h.fits;
    apart = h.apart;
    above = λ k le. h.above k (omega arith);
    count = omega (arith, h.count);
    roomy = h.roomy;
    spared = h.spared;
  }

-- ---- a number is taken

module _ (chunks : List (List Step)) (free : List ℕ) (below : (k : ℕ) → length chunks ≤ k → uses k free ≡ 0) (rest : List ℕ) (n : ℕ) (e : free ≡ rest ++ n ∷ []) where
  uses_free : (j : ℕ) → uses j free ≡ uses j rest + one_if j n
  uses_free j = omega (arith, ap {B = ℕ} (uses j) e, sum_by-append (one_if j) rest (n ∷ []), sum_by-cons (one_if j) n [])

  pub in_free : n < length chunks
  in_free =
      elim (cases_lt n (length chunks)) [
        | inl lt ↦ lt
        | inr le ↦ absurd (omega (arith, below n le, uses_free n, one-same n n refl))
      ]

  pub taken_free : (steps : List Step) → IsTaken chunks (set chunks n steps) free rest n steps
  taken_free steps =
      let l = length-set chunks n steps in
      let lt = in_free in
      record {
        chunks = other-set chunks n steps lt;
        grown = omega arith;
        within = omega arith;
        count = omega (arith, ap {B = ℕ} length e, length-append rest (n ∷ []));
        below = λ j lt. sym (uses_free j);
        above = λ j le. let ne : n ≢ j = omega arith in omega (arith, uses_free j, one-other j n ne);
      }

-- ---- a chunk comes to a side

map-insert : {X Y : Type 0} (f : X → Y) (xs : List X) (i : ℕ) (x : X) → map f (insert xs i x) ≡ insert (map f xs) i (f x)
map-insert f [] zero x = refl
map-insert f [] (suc i) x = refl
map-insert f (y ∷ xs) zero x = refl
map-insert f (y ∷ xs) (suc i) x = ap (λ l. f y ∷ l) (map-insert f xs i x)

map-remove : {X Y : Type 0} (f : X → Y) (xs : List X) (i : ℕ) → map f (remove xs i) ≡ remove (map f xs) i
map-remove f [] zero = refl
map-remove f [] (suc i) = refl
map-remove f (y ∷ xs) zero = refl
map-remove f (y ∷ xs) (suc i) = ap (λ l. f y ∷ l) (map-remove f xs i)

pub set-insert : {X : Type 0} (xs : List X) (i : ℕ) (a b : X) → i < length xs → insert (set xs i a) (suc i) b ≡ take i xs ++ a ∷ (b ∷ drop (suc i) xs)
set-insert [] i a b lt = absurd (omega arith)
set-insert (x ∷ xs) zero a b lt = refl
set-insert (x ∷ xs) (suc i) a b lt = ap (λ l. x ∷ l) (set-insert xs i a b (omega arith))

module _ (chunks : List (List Step)) (room : ℕ) (all : List (List ℕ)) (rooms free : List ℕ) (r : ℕ) (h : IsPool chunks room all rooms free r) (new : List (List Step)) (next : List ℕ) (m : ℕ) (steps : List Step) (t : IsTaken chunks new free next m steps) where
  -- it was on no side
  nowhere : uses_in m all ≡ 0
  nowhere =
      let o = one-same m m refl in
      elim (cases_lt m (length chunks)) [
        | inl lt ↦ omega (arith, h.apart m, t.below m lt)
        | inr le ↦ omega (arith, h.above m le)
      ]

  module _ (at i : ℕ) (lt : at < length all) where
    abbrev row : List ℕ
    row = insert (get_or all at []) i m

    more_uses : (j : ℕ) → uses_in j (set all at row) ≡ uses_in j all + one_if j m
    more_uses j = omega (arith, sum_by-set (uses j) all at row [] lt, sum_by-insert (one_if j) (get_or all at []) i m)

    pub kept_more : i ≤ length (get_or all at []) → IsPool new room (set all at row) rooms next r
    kept_more le = record {
      fits = h.fits;
      apart = λ j. elim (cases_lt j (length chunks)) [
        | inl lt ↦ omega (arith, more_uses j, h.apart j, t.below j lt)
        | inr le ↦ omega (arith, more_uses j, h.above j le, t.above j le, one-below j m)
      ];
      above = λ j le. let ne : m ≢ j = omega (arith, t.within) in omega (arith, more_uses j, one-other j m ne, h.above j (omega (arith, t.grown)), t.above j (omega (arith, t.grown)));
      count = omega (arith, h.count, t.count, sum_by-set length all at row [] lt, length-insert (get_or all at []) i m le);
      roomy = h.roomy;
      spared = h.spared;
    }

    pub seen_more : gather_all new (set all at row) ≡ set (gather_all chunks all) at (insert (chunks_at (gather_all chunks all) at) i steps)
    seen_more =
        let z = nowhere in
        let g = get_or-le-sum_by (uses m) all at [] lt in
        set-all chunks new m steps t.chunks all at row lt (omega arith)
        ∙ ap (set (gather_all chunks all) at) (
        map-insert (chunk_at new) (get_or all at []) i m
        ∙ (λ k. insert (same-row chunks new m steps t.chunks (get_or all at []) (omega arith) k) i (t.chunks.here k))
        ∙ ap (λ l. insert l i steps) (sym (get_or-map (gather chunks) all at [] [] lt))
        )

-- ---- a chunk leaves a side

module _ (chunks : List (List Step)) (room : ℕ) (all : List (List ℕ)) (rooms free : List ℕ) (r : ℕ) (h : IsPool chunks room all rooms free r) (at i : ℕ) (lt : at < length all) (within : i < length (get_or all at [])) (m : ℕ) (is : m ≡ get_or (get_or all at []) i 0) where
  abbrev rest : List ℕ
  rest = remove (get_or all at []) i

  less_uses : (j : ℕ) → uses_in j (set all at rest) + one_if j m ≡ uses_in j all
  less_uses j = omega (arith, sum_by-set (uses j) all at rest [] lt, sum_by-remove (one_if j) (get_or all at []) i 0 within, ap {B = ℕ} (one_if j) is)

  free_uses : (j : ℕ) → uses j (free ++ m ∷ []) ≡ uses j free + one_if j m
  free_uses j = omega (arith, sum_by-append (one_if j) free (m ∷ []), sum_by-cons (one_if j) m [])

  pub kept_less : (new : List (List Step)) → length new ≡ length chunks → IsPool new room (set all at rest) rooms (free ++ m ∷ []) r
  kept_less new e = record {
    fits = h.fits;
    apart = λ j. omega (arith, less_uses j, free_uses j, h.apart j);
    above = λ j le. omega (arith, less_uses j, free_uses j, h.above j (omega arith));
    count = omega (arith, h.count, sum_by-set length all at rest [] lt, length-remove (get_or all at []) i within, length-append free (m ∷ []));
    roomy = h.roomy;
    spared = h.spared;
  }

  pub seen_less : (new : List (List Step)) (steps : List Step) → IsOther chunks new m steps → gather_all new (set all at rest) ≡ set (gather_all chunks all) at (remove (chunks_at (gather_all chunks all) at) i)
  seen_less new steps o =
      let z : uses_in m (set all at rest) ≡ 0 = omega (arith, less_uses m, one-same m m refl, h.apart m) in
      same-all chunks new m steps o (set all at rest) z
      ∙ map-set (gather chunks) all at rest
      ∙ ap (set (gather_all chunks all) at) (map-remove (chunk_at chunks) (get_or all at []) i ∙ ap (λ l. remove l i) (sym (get_or-map (gather chunks) all at [] [] lt)))
