-- The levels of one side in chunks: each has less than its room, and two beside each other have at least half of it.
use Rattle.std.specs.Prelude.{◌≡◌, ℕ, ◌+◌, ◌<◌, ◌≤◌, true, false, List, [], ◌∷◌, ◌++◌, length, set, take, drop, slice_index_or}
use Prim.Native.Nat.{suc}
use Rattle.std.specs.List.{AllByRecursion}
use Rattle.gx_base.specs.declared.price.Price.{Price}
use Rattle.gx_base.specs.declared.order.Side.{Side}
use Rattle.book_order.specs.Levels.{is_better}
use Rattle.price_chunks.specs.declared.place.Step.{Step}
use Rattle.price_chunks.specs.Steps.{is_worse_step, is_step_at, step_at}

-- p levels have a worse price
pub record IsPlace (side : Side) (price : Price) (steps : List Step) (p : ℕ) : Type 0 where
  pub within : p ≤ length steps
  pub worse : (k : ℕ) → k < p → is_better side price.0 (step_at steps k).price.0 ≡ true
  pub rest : (k : ℕ) → p ≤ k → k < length steps → is_better side price.0 (step_at steps k).price.0 ≡ false

-- the level at this place has this price
pub record IsAt (price : Price) (steps : List Step) (p : ℕ) : Type 0 where
  pub within : p < length steps
  pub is : is_step_at price (step_at steps p) ≡ true

-- ---- chunks

-- for how many levels a chunk has room
abbrev pub room : ℕ
room = 128

-- how many levels are enough for two chunks beside each other
abbrev pub half : ℕ
half = 64

-- the levels of these chunks
abbrev pub flat : List (List Step) → List Step
flat [] = []
flat (p ∷ chunks) = p ++ flat chunks

abbrev pub chunk_at : List (List Step) → ℕ → List Step
chunk_at chunks k = slice_index_or chunks k []

-- neither is empty, and they are not few together
pub record IsPair (p q : List Step) : Type 0 where
  pub first : 0 < length p
  pub second : 0 < length q
  pub both : half ≤ length p + length q

-- each two beside each other are a pair
abbrev pub AreLinked : List (List Step) → Type 0
AreLinked [] = Unit {0}
AreLinked (p ∷ []) = Unit {0}
AreLinked (p ∷ (q ∷ chunks)) = IsPair p q × AreLinked (q ∷ chunks)

-- the chunks of a side, of which it always has one
pub record AreChunks (chunks : List (List Step)) : Type 0 where
  pub some : 0 < length chunks
  pub below : AllByRecursion (λ (p : List Step). length p < room) chunks
  pub linked : AreLinked chunks

-- all levels before this chunk are worse than the price, and all after it are better
pub record IsChunkOf (side : Side) (price : Price) (chunks : List (List Step)) (j : ℕ) : Type 0 where
  pub within : j < length chunks
  pub before : AllByRecursion (λ (s : Step). is_worse_step side price s ≡ true) (flat (take j chunks))
  pub after : AllByRecursion (λ (s : Step). is_better side s.price.0 price.0 ≡ true) (flat (drop (suc j) chunks))

-- the level at this place of this chunk has this price
pub record IsLevelAt (price : Price) (chunks : List (List Step)) (j p : ℕ) : Type 0 where
  pub within : j < length chunks
  pub here : IsAt price (chunk_at chunks j) p

-- a chunk and the next one fit into one chunk
pub record IsSmall (chunks : List (List Step)) (j : ℕ) : Type 0 where
  pub within : j + 1 < length chunks
  pub fits : length (chunk_at chunks j) + length (chunk_at chunks (j + 1)) < room

-- the chunk at this place has at most one level less than when each two beside each other were a pair
pub record IsLessAt (chunks : List (List Step)) (j : ℕ) : Type 0 where
  pub within : j < length chunks
  pub below : AllByRecursion (λ (p : List Step). length p < room) chunks
  pub was : List Step
  pub less : length was ≤ length (chunk_at chunks j) + 1
  pub linked : AreLinked (set chunks j was)
