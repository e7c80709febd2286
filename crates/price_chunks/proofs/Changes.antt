-- The chunks of a side, where one changes in its place, is split, or is joined with the next.
use Rattle.std.proofs.Common.{◌≡◌, ℕ, ◌+◌, ◌<◌, ◌≤◌, List, [], ◌∷◌, ◌++◌, length, get_or, set, take, drop, refl, sym, ap, subst, ◌∙◌, arith, append_assoc, length-append, add-one}
use Prim.Native.Nat.{zero, suc}
use Rattle.std.specs.List.{AllByRecursion, remove}
use Rattle.std.proofs.lemmas.List.{set-get_or, set_split, take_more, take-set, drop-set-lt, get_or-set_same, length-set, length-take-le, length-drop, take-append-drop}
use Rattle.book_order.proofs.Each.{all-append, all-front, all-back}
use Rattle.price_chunks.specs.declared.place.Step.{Step}
use Rattle.price_chunks.proofs.Flat.{flat-append, flat-at}
use Rattle.price_chunks.proofs.Linked.{link-more, link-split, link-right, link-left, link-first, link-stay}
use Rattle.price_chunks.specs.Inner.Chunks.{room, half, flat, chunk_at, IsPair, AreLinked, AreChunks, IsSmall, IsLessAt}

abbrev Below : List Step → Type 0
Below p = length p < room

pub around : (chunks : List (List Step)) (j : ℕ) → j < length chunks → chunks ≡ take j chunks ++ chunk_at chunks j ∷ drop (suc j) chunks
around chunks j lt = sym (set-get_or chunks j []) ∙ set_split chunks j (chunk_at chunks j) lt

next_suc : (chunks : List (List Step)) (j : ℕ) → suc j < length chunks → drop (suc j) chunks ≡ chunk_at chunks (suc j) ∷ drop (suc (suc j)) chunks
next_suc [] j lt = absurd (omega arith)
next_suc (p ∷ []) zero lt = absurd (omega arith)
next_suc (p ∷ (q ∷ chunks)) zero lt = refl
next_suc (p ∷ chunks) (suc j) lt = next_suc chunks j (omega arith)

pub next_drop : (chunks : List (List Step)) (j : ℕ) → j + 1 < length chunks → drop (suc j) chunks ≡ chunk_at chunks (j + 1) ∷ drop (suc (suc j)) chunks
next_drop chunks j lt = next_suc chunks j (omega arith) ∙ ap (λ (n : ℕ). chunk_at chunks n ∷ drop (suc (suc j)) chunks) (sym (add-one j))

pub all-set : (P : List Step → Type 0) (xs : List (List Step)) (j : ℕ) (y : List Step) → AllByRecursion P xs → P y → AllByRecursion P (set xs j y)
all-set P [] j y h k = tt
all-set P (x ∷ xs) zero y h k = (k, h.1)
all-set P (x ∷ xs) (suc j) y h k = (h.0, all-set P xs j y h.1 k)

pub all-chunk : (xs : List (List Step)) (j : ℕ) → AllByRecursion Below xs → length (chunk_at xs j) < room
all-chunk [] j h = omega arith
all-chunk (x ∷ xs) zero h = h.0
all-chunk (x ∷ xs) (suc j) h = all-chunk xs j h.1

pub linked_filled : (chunks : List (List Step)) (j : ℕ) → AreLinked chunks → j + 1 < length chunks → 0 < length (chunk_at chunks j)
linked_filled [] j h lt = absurd (omega arith)
linked_filled (p ∷ []) j h lt = absurd (omega arith)
linked_filled (p ∷ (q ∷ chunks)) zero h lt = h.0.first
linked_filled (p ∷ (q ∷ chunks)) (suc j) h lt = linked_filled (q ∷ chunks) j h.1 (omega arith)

-- what stands before a chunk and after it has less than its room
sides_below : (chunks : List (List Step)) (j : ℕ) → j < length chunks → AllByRecursion Below chunks → AllByRecursion Below (take j chunks) × AllByRecursion Below (drop (suc j) chunks)
sides_below chunks j lt h =
    let k = subst (AllByRecursion Below) (around chunks j lt) h in
    (all-front Below (take j chunks) (chunk_at chunks j ∷ drop (suc j) chunks) k, (all-back Below (take j chunks) (chunk_at chunks j ∷ drop (suc j) chunks) k).1)

some_among : (P S : List (List Step)) (x : List Step) → 0 < length (P ++ x ∷ S)
some_among P S x = omega (arith, length-append P (x ∷ S))

-- ---- a level comes

module _ (chunks : List (List Step)) (j : ℕ) (x : List Step) (lt : j < length chunks) (h : AreChunks chunks) (le : length (chunk_at chunks j) ≤ length x) where
  linked_more : AreLinked (take j chunks ++ x ∷ drop (suc j) chunks)
  linked_more = link-more (take j chunks) (drop (suc j) chunks) (chunk_at chunks j) x le (subst AreLinked (around chunks j lt) h.linked)

  pub put_kept : length x < room → AreChunks (set chunks j x)
  put_kept below = record {
    some = omega (arith, length-set chunks j x, h.some);
    below = all-set Below chunks j x h.below below;
    linked = subst AreLinked (sym (set_split chunks j x lt)) linked_more;
  }

  pub split_kept : length x ≡ room → AreChunks (take j (set chunks j x) ++ take half (chunk_at (set chunks j x) j) ∷ (drop half (chunk_at (set chunks j x) j) ∷ drop (suc j) (set chunks j x)))
  split_kept full =
      let P = take j chunks in
      let S = drop (suc j) chunks in
      let a = take half x in
      let b = drop half x in
      let la = length-take-le half x (omega arith) in
      let lb = length-drop half x in
      let s = sides_below chunks j lt h.below in
      let k : AreChunks (P ++ a ∷ (b ∷ S)) = record {
        some = some_among P (b ∷ S) a;
        below = all-append Below P (a ∷ (b ∷ S)) s.0 (omega arith, (omega arith, s.1));
        linked = link-split P S x a b (omega arith) (omega arith) linked_more;
      } in
      let e = get_or-set_same chunks j x [] lt in
      subst AreChunks (λ i. sym (take-set chunks j x) i ++ take half (sym e i) ∷ (drop half (sym e i) ∷ sym (drop-set-lt (suc j) chunks j x (omega arith)) i)) k

pub flat_halves : (q : List (List Step)) (j : ℕ) → j < length q → flat (take j q ++ take half (chunk_at q j) ∷ (drop half (chunk_at q j) ∷ drop (suc j) q)) ≡ flat q
flat_halves q j lt =
    let x = chunk_at q j in
    let s = flat (drop (suc j) q) in
    flat-append (take j q) (take half x ∷ (drop half x ∷ drop (suc j) q))
    ∙ ap (λ (l : List Step). flat (take j q) ++ l) (sym (append_assoc (take half x) (drop half x) s) ∙ ap (λ (l : List Step). l ++ s) (take-append-drop half x))
    ∙ sym (flat-at q j lt)

-- ---- a level leaves

pub flat_joined : (q : List (List Step)) (j : ℕ) → j + 1 < length q → flat (take j q ++ (chunk_at q j ++ chunk_at q (j + 1)) ∷ drop (suc (suc j)) q) ≡ flat q
flat_joined q j lt =
    let x = chunk_at q j in
    let y = chunk_at q (j + 1) in
    let s = drop (suc (suc j)) q in
    flat-append (take j q) ((x ++ y) ∷ s)
    ∙ ap (λ (l : List Step). flat (take j q) ++ l) (append_assoc x y (flat s) ∙ ap (λ (l : List (List Step)). x ++ flat l) (sym (next_drop q j lt)))
    ∙ sym (flat-at q j (omega arith))

joined_suc : (chunks : List (List Step)) (j : ℕ) (a : List Step) → suc j < length chunks → set (remove chunks (suc j)) j a ≡ take j chunks ++ a ∷ drop (suc (suc j)) chunks
joined_suc [] j a lt = absurd (omega arith)
joined_suc (p ∷ []) zero a lt = absurd (omega arith)
joined_suc (p ∷ (q ∷ chunks)) zero a lt = refl
joined_suc (p ∷ chunks) (suc j) a lt = ap (λ (l : List (List Step)). p ∷ l) (joined_suc chunks j a (omega arith))

pub joined : (chunks : List (List Step)) (j : ℕ) (a : List Step) → j + 1 < length chunks → set (remove chunks (j + 1)) j a ≡ take j chunks ++ a ∷ drop (suc (suc j)) chunks
joined chunks j a lt = ap (λ (n : ℕ). set (remove chunks n) j a) (add-one j) ∙ joined_suc chunks j a (omega arith)

-- a chunk has the next one after it
next_is : (chunks : List (List Step)) (j : ℕ) (s : List Step) (T : List (List Step)) → drop (suc j) chunks ≡ s ∷ T → (j + 1 < length chunks) × (chunk_at chunks (j + 1) ≡ s)
next_is chunks j s T e =
    let n = ap {B = ℕ} length e in
    let lt : j + 1 < length chunks = omega (arith, n, length-drop (suc j) chunks) in
    (lt, ap (λ (l : List (List Step)). get_or l 0 []) (sym (next_drop chunks j lt) ∙ e))

pub less_from : (chunks : List (List Step)) (j : ℕ) (x : List Step) → j < length chunks → AreChunks chunks → length (chunk_at chunks j) ≤ length x + 1 → length x ≤ length (chunk_at chunks j) → IsLessAt (set chunks j x) j
less_from chunks j x lt h le fits =
    let e = get_or-set_same chunks j x [] lt in
    let a = all-chunk chunks j h.below in
    record {
      within = omega (arith, length-set chunks j x);
      below = all-set Below chunks j x h.below (omega arith);
      was = chunk_at chunks j;
      less = subst (λ (l : List Step). length (chunk_at chunks j) ≤ length l + 1) (sym e) le;
      linked = subst AreLinked (set_split chunks j (chunk_at chunks j) lt ∙ sym (ap (λ (p : List (List Step) × List (List Step)). p.0 ++ chunk_at chunks j ∷ p.1) (λ i. (take-set chunks j x i, drop-set-lt (suc j) chunks j x (omega arith) i))) ∙ sym (set_split (set chunks j x) j (chunk_at chunks j) (omega (arith, length-set chunks j x)))) (subst AreLinked (sym (set-get_or chunks j [])) h.linked);
    }

module _ (chunks : List (List Step)) (j : ℕ) (h : IsLessAt chunks j) where
  was_linked : AreLinked (take j chunks ++ h.was ∷ drop (suc j) chunks)
  was_linked = subst AreLinked (set_split chunks j h.was h.within) h.linked

  pub right_kept : IsSmall chunks j → AreChunks (take j chunks ++ (chunk_at chunks j ++ chunk_at chunks (j + 1)) ∷ drop (suc (suc j)) chunks)
  right_kept small =
      let P = take j chunks in
      let S = drop (suc (suc j)) chunks in
      let x = chunk_at chunks j in
      let q = chunk_at chunks (j + 1) in
      let e = next_drop chunks j small.within in
      let s = sides_below chunks j h.within h.below in
      let f = length-append x q in
      record {
        some = some_among P S (x ++ q);
        below = all-append Below P ((x ++ q) ∷ S) s.0 (omega (arith, small.fits), (subst (AllByRecursion Below) e s.1).1);
        linked = link-right P S x h.was q h.less (subst (λ (l : List (List Step)). AreLinked (P ++ h.was ∷ l)) e was_linked);
      }

  module _ (pair : j + 1 < length chunks → IsPair (chunk_at chunks j) (chunk_at chunks (j + 1))) where
    next_pair : (s : List Step) (T : List (List Step)) → drop (suc j) chunks ≡ s ∷ T → IsPair (chunk_at chunks j) s
    next_pair s T e = let n = next_is chunks j s T e in subst (IsPair (chunk_at chunks j)) n.1 (pair n.0)

    pub first_kept : j ≡ 0 → AreChunks chunks
    first_kept z =
        let S = drop (suc j) chunks in
        let x = chunk_at chunks j in
        let e : take j chunks ≡ [] = ap (λ (n : ℕ). take n chunks) z in
        record {
          some = omega (arith, h.within);
          below = h.below;
          linked = subst AreLinked (sym (around chunks j h.within ∙ ap (λ (l : List (List Step)). l ++ x ∷ S) e)) (link-first S x h.was next_pair (subst (λ (l : List (List Step)). AreLinked (l ++ h.was ∷ S)) e was_linked));
        }

    module _ (i : ℕ) (is : i + 1 ≡ j) where
      before_is : (y : List Step) → take j chunks ++ y ∷ drop (suc j) chunks ≡ take i chunks ++ chunk_at chunks i ∷ (y ∷ drop (suc j) chunks)
      before_is y =
          ap (λ (n : ℕ). take n chunks ++ y ∷ drop (suc j) chunks) (sym is)
          ∙ ap (λ (l : List (List Step)). l ++ y ∷ drop (suc j) chunks) (take_more chunks i [] (omega (arith, h.within)))
          ∙ append_assoc (take i chunks) (chunk_at chunks i ∷ []) (y ∷ drop (suc j) chunks)

      linked_before : AreLinked (take i chunks ++ chunk_at chunks i ∷ (h.was ∷ drop (suc j) chunks))
      linked_before = subst AreLinked (before_is h.was) was_linked

      pub stay_kept : IsPair (chunk_at chunks i) (chunk_at chunks (i + 1)) → AreChunks chunks
      stay_kept k =
          let S = drop (suc j) chunks in
          let x = chunk_at chunks j in
          let l = chunk_at chunks i in
          let p : IsPair l x = subst (λ (n : ℕ). IsPair l (chunk_at chunks n)) is k in
          record {
            some = omega (arith, h.within);
            below = h.below;
            linked = subst AreLinked (sym (around chunks j h.within ∙ before_is x)) (link-stay (take i chunks) S l x h.was p next_pair linked_before);
          }

      pub left_kept : IsSmall chunks i → AreChunks (take i chunks ++ (chunk_at chunks i ++ chunk_at chunks (i + 1)) ∷ drop (suc (suc i)) chunks)
      left_kept small =
          let P = take i chunks in
          let l = chunk_at chunks i in
          let x = chunk_at chunks j in
          let S = drop (suc j) chunks in
          let f = length-append l x in
          let fits : length l + length x < room = subst (λ (n : ℕ). length l + length (chunk_at chunks n) < room) is small.fits in
          let s = sides_below chunks i (omega (arith, small.within)) h.below in
          let k : AreChunks (P ++ (l ++ x) ∷ S) = record {
            some = some_among P S (l ++ x);
            below = all-append Below P ((l ++ x) ∷ S) s.0 (omega arith, (sides_below chunks j h.within h.below).1);
            linked = link-left P S l x h.was h.less next_pair linked_before;
          } in
          subst AreChunks (λ t. P ++ (l ++ chunk_at chunks (sym is t)) ∷ drop (suc ((sym is ∙ add-one i) t)) chunks) k
