-- How an image goes on from one moment at which nothing is pending to the next.
use Rattle.std.specs.Prelude.{◌≡◌, ℕ, List, Some, Result, OnOk}
use Rattle.gx_station.specs.Stations.{StationMeanings}
use Rattle.gx_station.specs.Moments.{AddsOnly}
use Rattle.gx_station.specs.Honest.{IsSettled}

module _ {S : Type 0} (m : StationMeanings S) where
  -- a read gives this image, and nothing is pending
  pub record Rests (image : List ℕ) (s : S) : Type 0 where
    pub read : m.holds s ≡ Some image
    pub settled : IsSettled m s

  -- a read gives an image that has this
  pub record HoldsOne (Has : List ℕ → Type 0) (s : S) : Type 0 where
    pub image : List ℕ
    pub read : m.holds s ≡ Some image
    pub has : Has image

  -- From an image that a read gives to one that has Last, where all is done. Where nothing was pending at the start, a crash
  -- on the way leaves what it could leave then, and else only images that have During; and nothing is sent.
  pub record Steps {T F : Type 0} (old new : S) (image : List ℕ) (During Last : List ℕ → Type 0) (result : Result T F) : Type 0 where
    pub ends : m.holds old ≡ Some image → OnOk result (HoldsOne (λ last. During last × Last last) new)
    pub moments : m.is_honest old → Rests image old → AddsOnly m old new (λ left out. During left × (m.sent old ≡ Some out))

  -- The same where writes may have been pending at the start.
  pub record StepsFrom {T F : Type 0} (old new : S) (image : List ℕ) (During Last : List ℕ → Type 0) (result : Result T F) : Type 0 where
    pub ends : m.holds old ≡ Some image → OnOk result (HoldsOne (λ last. During last × Last last) new)
    pub moments : m.is_honest old → m.holds old ≡ Some image → AddsOnly m old new (λ left out. During left × (m.sent old ≡ Some out))
