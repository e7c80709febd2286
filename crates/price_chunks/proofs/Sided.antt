-- The pool after the chunks of one side have changed.
use Rattle.std.proofs.Common.{◌≡◌, ℕ, ◌+◌, ◌<◌, List, [], ◌∷◌, ◌++◌, length, take, drop, set, refl, sym, ap, ◌∙◌, arith}
use Prim.Native.Nat.{zero, suc}
use Rattle.std.specs.List.{sum_by}
use Rattle.std.proofs.lemmas.List.{get_or-set_same, set-get_or, length-set}
use Rattle.std.proofs.lemmas.List.Sums.{sum_by-set}
use Rattle.price_chunks.specs.declared.place.Step.{Step}
use Rattle.price_chunks.specs.Inner.Chunks.{half, chunk_at}
use Rattle.price_chunks.specs.Inner.Pool.{SideChunks, chunks_at, with_side}

-- a chunk and its back half, which comes after it
abbrev pub halves : ℕ → List (List Step) → List (List Step)
halves j q = take j q ++ take half (chunk_at q j) ∷ (drop half (chunk_at q j) ∷ drop (suc j) q)

-- a chunk with the levels of the next one
abbrev pub whole : ℕ → List (List Step) → List (List Step)
whole j q = take j q ++ (chunk_at q j ++ chunk_at q (j + 1)) ∷ drop (suc (suc j)) q

set-again : {X : Type 0} (xs : List X) (k : ℕ) (x y : X) → set (set xs k x) k y ≡ set xs k y
set-again {X} [] k x y = refl
set-again {X} (a ∷ xs) zero x y = refl
set-again {X} (a ∷ xs) (suc k) x y = ap (λ (l : List X). a ∷ l) (set-again xs k x y)

module _ (old : SideChunks) (k : ℕ) (lt : k < length old.sides) (p : SideChunks) (chunks : List (List Step)) (e : p ≡ with_side old k chunks) where
  pub side_of : chunks_at p.sides k ≡ chunks
  side_of = ap (λ (x : SideChunks). chunks_at x.sides k) e ∙ get_or-set_same old.sides k chunks [] lt

  pub rest_is : p ≡ with_side old k (chunks_at p.sides k)
  rest_is = e ∙ ap (with_side old k) (sym side_of)

  pub listed_still : k < length p.sides
  listed_still = omega (arith, ap {B = ℕ} (λ (x : SideChunks). length x.sides) e, length-set old.sides k chunks)

  pub rest_then : (q : SideChunks) (next : List (List Step)) → q ≡ with_side p k next → q ≡ with_side old k next
  rest_then q next f =
      f
      ∙ ap (λ (x : SideChunks). with_side x k next) e
      ∙ ap (λ (l : List (List (List Step))). record { room = old.room; sides = l }) (set-again old.sides k chunks next)

  pub room_left : length chunks ≡ length (chunks_at old.sides k) → sum_by length old.sides < old.room → sum_by length p.sides < p.room
  room_left same fits =
      let a = ap {B = ℕ} (λ (x : SideChunks). sum_by length x.sides) e in
      let b = ap {B = ℕ} (λ (x : SideChunks). x.room) e in
      let s = sum_by-set length old.sides k chunks [] lt in
      omega arith

pub unchanged : (old : SideChunks) (k : ℕ) → old ≡ with_side old k (chunks_at old.sides k)
unchanged old k = ap (λ (l : List (List (List Step))). record { room = old.room; sides = l }) (sym (set-get_or old.sides k []))
