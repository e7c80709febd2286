-- A level that is known by its place, and the best level of a side, the last one of its last chunk.
use Rattle.std.proofs.Common.{◌≡◌, ℕ, ◌+◌, ◌-◌, ◌<◌, true, false, List, [], ◌∷◌, ◌++◌, length, set, take, drop, filter, None, Some, sym, ap, subst, ◌∙◌, arith, append_assoc, length-append, inl, inr, refl}
use Prim.Native.Nat.{suc}
use Rattle.std.specs.Prelude.{ℤ}
use Rattle.std.proofs.lemmas.Bool.{cases_eq}
use Rattle.std.specs.List.{AllByRecursion, remove}
use Rattle.book_order.proofs.Each.{all-with, all-front, all-back}
use Rattle.std.proofs.lemmas.Bool.Decides.{Decides-int_eq}
use Rattle.std.proofs.lemmas.List.{append-nil, get_or_append_left, get_or-append-add, take_all}
use Rattle.book_order.specs.Levels.{is_better}
use Rattle.gx_base.specs.declared.price.Price.{Price}
use Rattle.gx_base.specs.declared.order.Side.{Side}
use Rattle.price_chunks.specs.declared.place.Step.{Step}
use Rattle.price_chunks.proofs.Flat.{two, flat-at, order-front, order-back, order-chunk, all-from, after_none, before_more, at_chunk, put_chunk, filter-all, filter-none, worse_not_at, one_open, none_open}
use Rattle.price_chunks.proofs.Steps.{place_at, others, at_here, at_none}
use Rattle.price_chunks.proofs.Asked.{linked_last}
use Rattle.price_chunks.specs.Steps.{no_step, step_at, AreWorstFirst, is_worse_step, is_step_at, queue_of_last, with_step, without_step, with_open}
use Rattle.price_chunks.specs.Inner.Chunks.{flat, chunk_at, AreChunks, IsAt, IsPlace, IsLevelAt, IsChunkOf}

-- a price that a level has belongs into its chunk
pub level_chunk : (side : Side) (price : Price) (chunks : List (List Step)) → AreWorstFirst side (flat chunks) → (j n : ℕ) → IsLevelAt price chunks j n → IsChunkOf side price chunks j
level_chunk side price chunks o j n at =
    let p = chunk_at chunks j in
    let a = flat (take j chunks) in
    let rest = flat (drop (suc j) chunks) in
    let e = flat-at chunks j at.within in
    let q = order-front side (a ++ p) rest (subst (AreWorstFirst side) (e ∙ sym (append_assoc a p rest)) o) in
    let r = order-back side a (p ++ rest) (subst (AreWorstFirst side) e o) in
    let same : (step_at p n).price.0 ≡ price.0 = (Decides-int_eq (step_at p n).price.0 price.0).0 at.here.is in
    let lt = at.here.within in
    let l = length-append a p in
    let m = length-append p rest in
    record {
      within = at.within;
      before = all-from (λ (s : Step). is_worse_step side price s ≡ true) a no_step (λ k below.
          subst (λ (x : ℤ). is_better side x (step_at a k).price.0 ≡ true) same
          (two side (step_at (a ++ p) (length a + n)) (step_at (a ++ p) k) (step_at p n) (step_at a k) (get_or-append-add a p n no_step) (get_or_append_left a p no_step k below) (q k (length a + n) (omega arith) (omega arith))));
      after = all-from (λ (s : Step). is_better side s.price.0 price.0 ≡ true) rest no_step (λ k below.
          subst (λ (x : ℤ). is_better side (step_at rest k).price.0 x ≡ true) same
          (two side (step_at (p ++ rest) (length p + k)) (step_at (p ++ rest) n) (step_at rest k) (step_at p n) (get_or-append-add p rest k no_step) (get_or_append_left p rest no_step n lt) (r n (length p + k) (omega arith) (omega arith))));
    }

-- where a level has the price, no other has
module _ (side : Side) (price : Price) (p : List Step) (o : AreWorstFirst side p) (n : ℕ) (at : IsAt price p n) where
  pub level_open : (leaves : ℕ) → set p n (record (step_at p n) { leaves = leaves }) ≡ with_open price leaves p
  level_open leaves = one_open price leaves p n at.within at.is (others side price p n o (place_at side price p n o at))

  pub level_found : queue_of_last (filter (is_step_at price) p) ≡ Some (step_at p n).queue
  level_found = ap queue_of_last (at_here side price p n o (place_at side price p n o at) at.within at.is).0

  pub level_out : remove p n ≡ without_step price p
  level_out = sym (at_here side price p n o (place_at side price p n o at) at.within at.is).1

-- what a search found is the level with the price, or there is none
module _ (side : Side) (price : Price) (p : List Step) (o : AreWorstFirst side p) (n : ℕ) (place : IsPlace side price p n) (no : n < length p → is_step_at price (step_at p n) ≡ false) where
  pub none_out : p ≡ without_step price p
  none_out = sym (at_none side price p n o place no).1

  pub none_set : (leaves : ℕ) → p ≡ with_open price leaves p
  none_set leaves =
      none_open price leaves p (λ k lt. elim (cases_eq k n) [
        | inl e ↦ subst (λ (x : ℕ). is_step_at price (step_at p x) ≡ false) (sym e) (no (omega arith))
        | inr ne ↦ others side price p n o place k lt ne
      ])

pub queue_level : (side : Side) (price : Price) (chunks : List (List Step)) → AreWorstFirst side (flat chunks) → (j n : ℕ) → IsLevelAt price chunks j n → queue_of_last (filter (is_step_at price) (flat chunks)) ≡ Some (step_at (chunk_at chunks j) n).queue
queue_level side price chunks o j n at =
    ap queue_of_last (at_chunk side price chunks j (level_chunk side price chunks o j n at))
    ∙ level_found side price (chunk_at chunks j) (order-chunk side chunks j at.within o) n at.here

-- ---- a price that is better than each

nothing : (p : List Step) → length p ≡ 0 → p ≡ []
nothing [] e = refl
nothing (s ∷ p) e = absurd (omega arith)

alone : (chunks : List (List Step)) → length chunks ≡ 1 → flat chunks ≡ chunk_at chunks 0
alone [] e = absurd (omega arith)
alone (p ∷ []) e = append-nil p
alone (p ∷ (q ∷ chunks)) e = absurd (omega arith)

module _ (side : Side) (price : Price) (chunks : List (List Step)) (h : AreChunks chunks) (o : AreWorstFirst side (flat chunks)) (j : ℕ) (e : j + 1 ≡ length chunks) (worse : 0 < length (chunk_at chunks j) → is_worse_step side price (step_at (chunk_at chunks j) (length (chunk_at chunks j) - 1)) ≡ true) where
  -- each level is worse, where the best level of the last chunk is
  pub all_worse : AllByRecursion (λ (s : Step). is_worse_step side price s ≡ true) (flat chunks)
  all_worse =
      let p = chunk_at chunks j in
      let P = AllByRecursion (λ (s : Step). is_worse_step side price s ≡ true) in
      elim (cases_eq (length p) 0) [
        | inl z ↦
            elim (cases_eq j 0) [
              | inl first ↦ subst P (sym (alone chunks (omega arith) ∙ ap (chunk_at chunks) (sym first) ∙ nothing p z)) tt
              | inr ne ↦ absurd (let full = linked_last chunks j h.linked (omega arith) (omega arith) in omega arith)
            ]
        | inr ne ↦
            subst (λ (l : List (List Step)). P (flat l)) (take_all (j + 1) chunks (omega arith))
            (before_more side price chunks o j (length p - 1) (omega arith) (omega arith) (worse (omega arith)))
      ]

  pub queue_none : queue_of_last (filter (is_step_at price) (flat chunks)) ≡ None
  queue_none = ap queue_of_last (filter-none (is_step_at price) (flat chunks) (all-with (λ (t : Step). is_worse_step side price t ≡ true) (λ t. is_step_at price t ≡ false) (worse_not_at side price) (flat chunks) all_worse)).0

abbrev AreWorse : Side → Price → List Step → Type 0
AreWorse side price steps = AllByRecursion (λ (s : Step). is_worse_step side price s ≡ true) steps

module _ (side : Side) (price : Price) (chunks : List (List Step)) (o : AreWorstFirst side (flat chunks)) (j : ℕ) (e : j + 1 ≡ length chunks) (all : AreWorse side price (flat chunks)) where
  parts : AreWorse side price (flat (take j chunks) ++ (chunk_at chunks j ++ flat (drop (suc j) chunks)))
  parts = subst (AreWorse side price) (flat-at chunks j (omega arith)) all

  pub chunk_worse : AreWorse side price (chunk_at chunks j)
  chunk_worse =
      let P : Step → Type 0 = λ s. is_worse_step side price s ≡ true in
      let rest = flat (drop (suc j) chunks) in
      all-front P (chunk_at chunks j) rest (all-back P (flat (take j chunks)) (chunk_at chunks j ++ rest) parts)

  -- the price belongs into the last chunk
  pub worse_place : IsChunkOf side price chunks j
  worse_place = record {
    within = omega arith;
    before = all-front (λ (s : Step). is_worse_step side price s ≡ true) (flat (take j chunks)) (chunk_at chunks j ++ flat (drop (suc j) chunks)) parts;
    after = after_none side price chunks o j e;
  }

pub with_best : (side : Side) (s : Step) (p : List Step) → AreWorse side s.price p → p ++ s ∷ [] ≡ with_step side s p
with_best side s p all = let r = filter-all (is_worse_step side s.price) p all in λ i. sym r.0 i ++ s ∷ sym r.1 i

-- a level that is better than each comes to the end
pub put_end : (side : Side) (s : Step) (chunks : List (List Step)) → AreWorstFirst side (flat chunks) → (j : ℕ) → j + 1 ≡ length chunks → AreWorse side s.price (flat chunks) → (x : List Step) → x ≡ chunk_at chunks j ++ s ∷ [] → flat (set chunks j x) ≡ with_step side s (flat chunks)
put_end side s chunks o j e all x is =
    ap (λ (l : List Step). flat (set chunks j l)) (is ∙ with_best side s (chunk_at chunks j) (chunk_worse side s.price chunks o j e all))
    ∙ put_chunk side s.price chunks j (worse_place side s.price chunks o j e all) s refl
