-- The sum of what is open at the levels of a chunk, of which only the last 64 bits are kept.
use Rattle.std.specs.Prelude.{◌≡◌, ℕ, ◌+◌, ◌*◌, ◌≤◌, List, length, take}
use Rattle.price_chunks.specs.declared.place.Step.{Step}
use Rattle.price_chunks.specs.Steps.{open_at}
use Rattle.price_chunks.specs.Inner.Chunks.{room}

-- m is n and some turns of 2^64
pub record IsMod (n m : ℕ) : Type 0 where
  pub turns : ℕ
  pub is : m ≡ n + turns * 18446744073709551616

-- a chunk has places for all its room, of which the first have levels, and keeps the sum
pub record IsChunk (steps : List Step) (count lots : ℕ) : Type 0 where
  pub long : length steps ≡ room
  pub fits : count ≤ room
  pub sum : IsMod lots (open_at (take count steps))
