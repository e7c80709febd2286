-- What a station could leave since earlier times, as time goes on.
use Rattle.std.specs.Prelude.{◌⊎◌, ℕ, ◌≤◌, List}
use Rattle.std.proofs.Common.{inl, arith}
use Rattle.gx_station.specs.Stations.{StationMeanings}

module _ {S : Type 0} (m : StationMeanings S) where
  -- Time went on: a crash since some earlier time could leave what it could before, and besides only pairs of an image and
  -- an output that have P. A station that was honest still is.
  pub record AddsOnly (old new : S) (P : List ℕ → List ℕ → Type 0) : Type 0 where
    pub later : m.time old ≤ m.time new
    pub honest : m.is_honest old → m.is_honest new
    pub keeps : m.is_honest old → (t : ℕ) (image out : List ℕ) → t ≤ m.time old → m.left_since old t image out → m.left_since new t image out
    pub adds : m.is_honest old → (t : ℕ) (image out : List ℕ) → t ≤ m.time old → m.left_since new t image out → m.left_since old t image out ⊎ P image out

  pub adds_none : (s : S) (P : List ℕ → List ℕ → Type 0) → AddsOnly s s P
  adds_none s P = record { later = omega arith; honest = λ h. h; keeps = λ h t image out le left. left; adds = λ h t image out le left. inl left }
