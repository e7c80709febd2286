-- A store of one image, and an output: what a station stands for.
use Rattle.std.specs.Prelude.{ℕ, List, ◌++◌, Option, Some, option_map}
use Rattle.gx_base.specs.KnownBytes.{IsKnownPrefix}

pub record StationMeanings (S : Type 0) : Type 1 where
  -- all that was sent, where that is told
  pub sent : S → Option (List ℕ)
  pub send_faults : S → ℕ
  -- the image as a read gives it, where that is told
  pub holds : S → Option (List ℕ)
  -- how many bytes were read, where that is told
  pub bytes_read : S → Option ℕ
  pub store_faults : S → ℕ
  -- the greatest of the lengths that were answered and of the ends of the writes that were Ok, 0 at first
  pub reach : S → ℕ
  -- the time on the one clock of image and output
  pub time : S → ℕ
  -- It tells its image, its output and its moments, and these are as `Honest` says. Of any other station nothing is known
  -- of its moments.
  pub is_honest : S → Type 0
  -- a crash now could leave this image
  pub may_leave : S → List ℕ → Type 0
  -- at some moment since that time a crash could leave this image while this had been sent
  pub left_since : S → ℕ → List ℕ → List ℕ → Type 0

-- what was sent, and then these bytes
abbrev pub sent_and : Option (List ℕ) → List ℕ → Option (List ℕ)
sent_and sent bytes = option_map (λ s. s ++ bytes) sent

-- an output on the way from the one before to the one after
pub record IsBetween (before : Option (List ℕ)) (out : List ℕ) (after : Option (List ℕ)) : Type 0 where
  pub low : IsKnownPrefix before (Some out)
  pub high : IsKnownPrefix (Some out) after
