-- Queues one after the other.
use Rattle.std.specs.Prelude.{ℕ, List, [], ◌∷◌, ◌++◌, map}
use Rattle.price_level.specs.declared.row.LevelRow.{LevelRow}

-- what these queues hold, one after the other
abbrev pub flat : {X : Type 0} → (ℕ → List X) → List ℕ → List X
flat Q [] = []
flat Q (q ∷ qs) = Q q ++ flat Q qs

abbrev pub queues_of : List LevelRow → List ℕ
queues_of rs = map (λ r. r.queue) rs
