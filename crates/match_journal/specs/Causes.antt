-- What the calls of a journal do to a station besides its image.
use Rattle.std.specs.Prelude.{◌≡◌, ℕ, ◌+◌, ◌≤◌, List, Option, Some, None}
use Rattle.gx_station.specs.Stations.{StationMeanings}
use Rattle.gx_station.specs.Honest.{KeepsImage}

-- so many bytes more were read at most, where that is told
abbrev pub ReadsAtMost : ℕ → Option ℕ → Option ℕ → Type 0
ReadsAtMost most None None = Unit {0}
ReadsAtMost most None (Some after) = ⊥
ReadsAtMost most (Some before) None = ⊥
ReadsAtMost most (Some before) (Some after) = (before ≤ after) × (after ≤ before + most)

module _ {S : Type 0} (m : StationMeanings S) where
  -- nothing was sent, and the count of store faults did not fall
  pub record SendsNothing (old new : S) : Type 0 where
    pub sent : m.sent new ≡ m.sent old
    pub send_faults : m.send_faults new ≡ m.send_faults old
    pub store_faults : m.store_faults old ≤ m.store_faults new

  -- Nothing was written, synced or sent: no image and no output was added, and what a crash could leave it still can. At most
  -- so many bytes were read.
  pub record LooksOnly (old new : S) (most : ℕ) : Type 0 where
    pub silent : SendsNothing old new
    pub keeps : KeepsImage m old new
    pub images_stay : m.is_honest old → (image : List ℕ) → m.may_leave old image → m.may_leave new image
    pub reach : m.reach old ≤ m.reach new
    pub bytes_read : ReadsAtMost most (m.bytes_read old) (m.bytes_read new)

  -- The station was read, and nothing was written, synced or sent.
  pub record ReadsOnly (old new : S) : Type 0 where
    pub most : ℕ
    pub looks : LooksOnly old new most
