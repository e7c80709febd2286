-- Fields in a row, where the byte that ends a field is written with the tag of the next one.
use Rattle.std.specs.Prelude.{ℕ, List, [], ◌∷◌, ◌++◌, take}
use Rattle.gx_base.specs.Frames.{soh}

-- the first bytes of some, and the byte that ends their last field, which is not written yet
unfoldable pub ended : ℕ → List ℕ → List ℕ
ended at bytes = take at bytes ++ soh ∷ []
