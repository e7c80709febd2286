-- The pool of chunks suffices, and stays so when one side changes.
use Rattle.std.proofs.Common.{◌≡◌, ℕ, ◌+◌, ◌*◌, ◌/◌, ◌<◌, ◌≤◌, Bool, true, false, cond, not, List, [], ◌∷◌, ◌++◌, length, get_or, set, filter, refl, sym, ap, subst, ◌∙◌, arith, length-append, replicate}
use Prim.Native.Nat.{zero, suc}
use Rattle.std.specs.List.{AllByRecursion, sum_by}
use Rattle.std.proofs.lemmas.List.{map-set, get_or-map, length-set, length-map, length-replicate}
use Rattle.std.proofs.lemmas.List.Sums.{sum_by-set, sum_by-cons}
use Rattle.price_chunks.specs.declared.place.Step.{Step}
use Rattle.gx_base.specs.declared.price.Price.{Price}
use Rattle.gx_base.specs.declared.order.Side.{Side}
use Rattle.price_chunks.specs.Steps.{is_worse_step, is_step_at, with_step, without_step, SideLists, list_at}
use Rattle.price_chunks.specs.Inner.Chunks.{flat, AreLinked, AreChunks}
use Rattle.price_chunks.specs.Inner.Pool.{SideChunks, chunks_at, with_side, lists_of, pool, IsKept}

pub all-get : {X : Type 0} (P : X → Type 0) (xs : List X) (k : ℕ) (d : X) → AllByRecursion P xs → k < length xs → P (get_or xs k d)
all-get P [] k d h lt = absurd (omega arith)
all-get P (x ∷ xs) zero d h lt = h.0
all-get P (x ∷ xs) (suc k) d h lt = all-get P xs k d h.1 (omega arith)

pub all-put : {X : Type 0} (P : X → Type 0) (xs : List X) (k : ℕ) (y : X) → AllByRecursion P xs → P y → AllByRecursion P (set xs k y)
all-put P [] k y h p = tt
all-put P (x ∷ xs) zero y h p = (p, h.1)
all-put P (x ∷ xs) (suc k) y h p = (h.0, all-put P xs k y h.1 p)

-- ---- how long the lists are

both : (q : Step → Bool) (xs : List Step) → length (filter q xs) + length (filter (λ s. not (q s)) xs) ≡ length xs
both q [] = refl
both q (x ∷ xs) =
    let k = both q xs in
    elim (q x) as (λ b. length (cond b (x ∷ filter q xs) (filter q xs)) + length (cond (not b) (x ∷ filter (λ s. not (q s)) xs) (filter (λ s. not (q s)) xs)) ≡ suc (length xs)) [
      | true ↦ omega arith
      | false ↦ omega arith
    ]

pub length_with : (side : Side) (s : Step) (xs : List Step) → length (with_step side s xs) ≡ length xs + 1
length_with side s xs =
    let q = is_worse_step side s.price in
    omega (arith, both q xs, length-append (filter q xs) (s ∷ filter (λ t. not (q t)) xs))

pub length_without : (price : Price) (xs : List Step) → length (without_step price xs) ≤ length xs
length_without price xs = omega (arith, both (is_step_at price) xs)

-- ---- chunks that are linked are few

few_linked : (p : List Step) (chunks : List (List Step)) → AreLinked (p ∷ chunks) → 64 * length chunks + length p ≤ 2 * length (p ++ flat chunks)
few_linked p [] h = omega (arith, length-append p [])
few_linked p (q ∷ chunks) h =
    let k = few_linked q chunks h.1 in
    omega (arith, length-append p (q ++ flat chunks), h.0.both)

few_chunks : (chunks : List (List Step)) → AreChunks chunks → 64 * length chunks ≤ 2 * length (flat chunks) + 64
few_chunks [] h = omega arith
few_chunks (p ∷ chunks) h = omega (arith, few_linked p chunks h.linked)

few_all : (all : List (List (List Step))) → AllByRecursion AreChunks all → 64 * sum_by length all ≤ 2 * sum_by length (lists_of all) + 64 * length all
few_all [] h = omega arith
few_all (chunks ∷ all) h =
    let k = few_all all h.1 in
    let p = few_chunks chunks h.0 in
    omega (arith, sum_by-cons length chunks all, sum_by-cons length (flat chunks) (lists_of all))

-- ---- one side has changed

module _ (n : ℕ) (old : SideChunks) (h : IsKept n old) (k : ℕ) (lt : k < length old.sides) where
  -- there is room for one more
  pub few_used : sum_by length old.sides < old.room
  few_used = omega (arith, few_all old.sides h.chunks, h.few, h.roomy)

  pub kept_chunks : AreChunks (chunks_at old.sides k)
  kept_chunks = all-get AreChunks old.sides k [] h.chunks lt

  pub changed : (new : SideChunks) (chunks : List (List Step)) → new ≡ with_side old k chunks → AreChunks chunks → length (flat chunks) + sum_by length (lists_of old.sides) ≤ n + length (flat (chunks_at old.sides k)) → IsKept n new
  changed new chunks e p f =
      let l = length-set old.sides k chunks in
      let m = ap {B = ℕ} (sum_by length) (map-set flat old.sides k chunks) in
      let s = sum_by-set length (lists_of old.sides) k (flat chunks) [] (omega (arith, length-map old.sides flat)) in
      let g = ap {B = ℕ} length (get_or-map flat old.sides k [] [] lt) in
      let same : pool n (length (set old.sides k chunks)) ≡ pool n (length old.sides) = ap {B = ℕ} (λ (x : ℕ). n / 32 + x + 1) l in
      subst (IsKept n) (sym e) (record {
        chunks = all-put AreChunks old.sides k chunks h.chunks p;
        few = omega arith;
        roomy = h.roomy ∙ sym same;
      })

-- ---- what a caller sees

module _ (capacity : ℕ) (old : SideChunks) (now : SideLists) (view : record { capacity = capacity; lists = lists_of old.sides } ≡ now) (k : ℕ) where
  pub listed : k < length now.lists → k < length old.sides
  listed lt = omega (arith, ap {B = ℕ} (λ (x : SideLists). length x.lists) view, length-map old.sides flat)

  pub list_is : k < length now.lists → flat (chunks_at old.sides k) ≡ list_at now.lists k
  list_is lt = sym (get_or-map flat old.sides k [] [] (listed lt)) ∙ ap (λ (x : SideLists). list_at x.lists k) view

  pub seen_set : (new : SideChunks) (chunks : List (List Step)) (l : List Step) → new ≡ with_side old k chunks → flat chunks ≡ l → record { capacity = capacity; lists = lists_of new.sides } ≡ record now { lists = set now.lists k l }
  seen_set new chunks l e f =
      ap (λ (x : SideChunks). record { capacity = capacity; lists = lists_of x.sides }) e
      ∙ ap (λ (x : List (List Step)). record { capacity = capacity; lists = x }) (map-set flat old.sides k chunks ∙ ap (set (lists_of old.sides) k) f)
      ∙ ap (λ (x : SideLists). record x { lists = set x.lists k l }) view

-- ---- at the start

one_chunk : AreChunks ([] ∷ [])
one_chunk = record { some = omega arith; below = (omega arith, tt); linked = tt }

all_chunks : (count : ℕ) → AllByRecursion AreChunks (replicate count ([] ∷ []))
all_chunks zero = tt
all_chunks (suc n) = (one_chunk, all_chunks n)

no_levels : (count : ℕ) → sum_by length (lists_of (replicate count ([] ∷ []))) ≡ 0
no_levels zero = refl
no_levels (suc n) = let e = no_levels n in omega (arith, sum_by-cons length [] (lists_of (replicate n ([] ∷ []))))

pub seen_none : (count : ℕ) → lists_of (replicate count ([] ∷ [])) ≡ replicate count []
seen_none zero = refl
seen_none (suc n) = ap (λ (l : List (List Step)). [] ∷ l) (seen_none n)

abbrev no_chunk : List (List Step)
no_chunk = [] ∷ []

pub fresh : (n count room : ℕ) → room ≡ pool n count → IsKept n (record { room = room; sides = replicate count no_chunk })
fresh n count room e = record {
  chunks = all_chunks count;
  few = omega (arith, no_levels count);
  roomy = e ∙ ap {B = ℕ} (λ (x : ℕ). n / 32 + x + 1) (sym (length-replicate count no_chunk));
}
