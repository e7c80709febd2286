-- Where the search for a key begins and how it goes on. No proof looks into it: any functions of the key would do.
use Rattle.std.specs.Prelude.{ℕ, ◌+◌, ◌-◌, ◌*◌, ◌/◌, ◌%◌, ◌^◌, ◌==◌, Bool, List, [], ◌∷◌, ◌++◌, length, replicate, reverse, slice_index}
use Rattle.std.specs.Hash.FoldHasher as folding
use Rattle.gx_base.specs.declared.limits.TheConstants.{LONGEST_NAME}

-- an id and after it zeros, up to its room
abbrev pub padded : List ℕ → List ℕ
padded id = id ++ replicate (LONGEST_NAME - length id) 0

-- std's hasher is fed the firm and then the room of the id
unfoldable pub hash_of : List ℕ → ℕ
hash_of [] = 0
hash_of (firm ∷ id) = folding.finish (folding.write (folding.write folding.initial (firm ∷ [])) (padded id))

-- one of 2 * capacity + 1 buckets
unfoldable pub home_of : ℕ → List ℕ → ℕ
home_of capacity k = hash_of k / 2 ^ 33 * (2 * capacity + 1) / 2 ^ 31

-- the bit of the key at a depth is 1: its bytes are taken from the last one on, and their bits from the lowest one on
unfoldable pub is_high : ℕ → List ℕ → Bool
is_high depth k = slice_index (reverse k) (depth / 8) / 2 ^ (depth % 8) % 2 == 1
