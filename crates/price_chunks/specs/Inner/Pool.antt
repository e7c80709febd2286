-- The chunks of all sides, and the pool that they share.
use Rattle.std.specs.Prelude.{◌≡◌, ℕ, ◌+◌, ◌/◌, ◌<◌, ◌≤◌, ◌^◌, eqb, if◌then◌else◌, List, [], map, length, set, slice_index_or, sum_by, Option, Some, None, Vec, vec_capacity}
use Rattle.std.specs.declared.alloc.Global.{Global}
use Rattle.std.specs.List.{AllByRecursion}
use Rattle.gx_base.specs.declared.price.Price.{Price}
use Rattle.gx_base.specs.declared.order.Side.{Side}
use Rattle.book_order.specs.Levels.{is_better}
use Rattle.price_chunks.specs.declared.place.Step.{Step}
use Rattle.price_chunks.specs.Steps.{price_of_last}
use Rattle.price_chunks.specs.Inner.Chunks.{flat, chunk_at, AreChunks}

-- for how many chunks there is room, and the chunks of each side
pub record SideChunks : Type 0 where
  pub room : ℕ
  pub sides : List (List (List Step))

-- the chunks of the side with this number
abbrev pub chunks_at : List (List (List Step)) → ℕ → List (List Step)
chunks_at all k = slice_index_or all k []

-- the levels of each side
abbrev pub lists_of : List (List (List Step)) → List (List Step)
lists_of all = map flat all

-- a side has these chunks now
abbrev pub with_side : SideChunks → ℕ → List (List Step) → SideChunks
with_side p at chunks = record p { sides = set p.sides at chunks }

-- a chunk of a side has these levels now
abbrev pub with_chunk : SideChunks → ℕ → ℕ → List Step → SideChunks
with_chunk p at i steps = with_side p at (set (chunks_at p.sides at) i steps)

-- ---- chunks by their numbers

-- the numbers of the chunks of each side
abbrev pub numbers_of : List (Vec ℕ Global) → List (List ℕ)
numbers_of sides = map (λ v. v.items) sides

-- the numbers of the chunks of the side with this number
abbrev pub row_at : List (List ℕ) → ℕ → List ℕ
row_at all k = slice_index_or all k []

-- for how many numbers each side has room
abbrev pub rooms_of : List (Vec ℕ Global) → List ℕ
rooms_of sides = map vec_capacity sides

-- the chunks with these numbers
abbrev pub gather : List (List Step) → List ℕ → List (List Step)
gather chunks numbers = map (chunk_at chunks) numbers

-- the chunks of all sides, whose numbers these are
abbrev pub gather_all : List (List Step) → List (List ℕ) → List (List (List Step))
gather_all chunks all = map (gather chunks) all

abbrev pub one_if : ℕ → ℕ → ℕ
one_if k n = if eqb n k then 1 else 0

-- how often a number is among these
abbrev pub uses : ℕ → List ℕ → ℕ
uses k numbers = sum_by (one_if k) numbers

-- how often a number is among those of all sides
abbrev pub uses_in : ℕ → List (List ℕ) → ℕ
uses_in k all = sum_by (uses k) all

-- what is true of the fields of the pool at every moment: the chunk of a number that was ever in use stands on one side, at one
-- place, or is free, and no other number is anywhere
pub record IsPool (chunks : List (List Step)) (room : ℕ) (all : List (List ℕ)) (rooms : List ℕ) (free : List ℕ) (free_room : ℕ) : Type 0 where
  pub fits : room < 2 ^ 32
  pub apart : (k : ℕ) → uses_in k all + uses k free ≤ 1
  pub above : (k : ℕ) → length chunks ≤ k → uses_in k all + uses k free ≡ 0
  pub count : sum_by length all + length free ≡ length chunks
  pub roomy : AllByRecursion (λ (c : ℕ). c ≡ room) rooms
  pub spared : free_room ≡ room

-- these chunks have become those: the one with this number has these levels, and each other one is as it was
pub record IsOther (old new : List (List Step)) (k : ℕ) (steps : List Step) : Type 0 where
  pub here : chunk_at new k ≡ steps
  pub other : (j : ℕ) → (j ≡ k → ⊥) → chunk_at new j ≡ chunk_at old j

-- a number was taken from the free ones, or is the first that was never in use
pub record IsTaken (old new : List (List Step)) (free_old free_new : List ℕ) (k : ℕ) (steps : List Step) : Type 0 where
  pub chunks : IsOther old new k steps
  pub grown : length old ≤ length new
  pub within : k < length new
  pub count : length new + length free_old ≡ length old + length free_new + 1
  pub below : (j : ℕ) → j < length old → uses j free_new + one_if j k ≡ uses j free_old
  pub above : (j : ℕ) → length old ≤ j → uses j free_new ≡ uses j free_old

-- ---- the sides

-- how many chunks are enough for so many levels on so many sides, with one to spare
abbrev pub pool : ℕ → ℕ → ℕ
pool capacity sides = capacity / 32 + sides + 1

-- what is true of the fields at every moment
pub record IsKept (capacity : ℕ) (p : SideChunks) : Type 0 where
  pub chunks : AllByRecursion AreChunks p.sides
  pub few : sum_by length (lists_of p.sides) ≤ capacity
  pub roomy : p.room ≡ pool capacity (length p.sides)

-- the best price of each side, and room for no more
pub record AreBest (p : SideChunks) (best : List (Option Price)) (room : ℕ) : Type 0 where
  pub prices : best ≡ map price_of_last (lists_of p.sides)
  pub full : room ≡ length best

-- the best price of a side, to which a level with this price has come
abbrev pub best_with : Side → Price → Option Price → Option Price
best_with side price None = Some price
best_with side price (Some best) = if is_better side price.0 best.0 then Some price else Some best
