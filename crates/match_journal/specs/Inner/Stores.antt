-- Bytes on their way to an image, in one write or in several that stand one after the other.
use Rattle.std.specs.Prelude.{◌≡◌, ℕ, ◌+◌, ◌≤◌, List, [], ◌∷◌, ◌++◌, length, option_map, Some, Result, OnOk}
use Rattle.std.specs.Int.{w32, to_be_bytes}
use Rattle.gx_station.specs.Disk.{Torn, written}
use Rattle.gx_station.specs.Stations.{StationMeanings}
use Rattle.gx_station.specs.Moments.{AddsOnly}
use Rattle.gx_station.specs.Honest.{IsSettled}
use Rattle.gx_station.specs.StoreCalls.{OnStore}
use Rattle.match_journal.specs.Steps.{Steps}
use Rattle.match_journal.specs.Journal.{Record, kind_byte}

-- what is written of a record after its closed gate: its kind, its length, its payload, and the next gate, closed
abbrev pub staged : Record → List ℕ
staged r = kind_byte r.kind ∷ (to_be_bytes w32 (length r.payload) ++ (r.payload ++ 0 ∷ []))

module _ {S : Type 0} (m : StationMeanings S) where
  -- a call, or several, on the store that read nothing
  pub record Puts {T F : Type 0} (old new : S) (result : Result T F) : Type 0 where
    pub on_store : OnStore m old new result
    pub bytes_read : m.bytes_read new ≡ m.bytes_read old
    pub reach : m.reach old ≤ m.reach new
    pub honest : m.is_honest old → m.is_honest new

  -- The bytes stand at a place of the image, or a write has failed. On the way a crash could leave what it could leave
  -- before, torn in the range.
  pub record Stores {T F : Type 0} (old new : S) (at : ℕ) (bytes : List ℕ) (result : Result T F) : Type 0 where
    pub puts : Puts old new result
    pub reach_ok : OnOk result (at + length bytes ≤ m.reach new)
    pub holds : OnOk result (m.holds new ≡ option_map (written at bytes) (m.holds old))
    pub images : m.is_honest old → (image : List ℕ) → m.may_leave new image → (before : List ℕ) × m.may_leave old before × Torn at (length bytes) before image
    pub moments : AddsOnly m old new (λ image out. ((before : List ℕ) × m.may_leave old before × Torn at (length bytes) before image) × (m.sent old ≡ Some out))

  -- bytes were written at a place, and synced; a crash on the way leaves the image torn in their range
  pub record Stored {T F : Type 0} (old new : S) (at : ℕ) (bytes : List ℕ) (result : Result T F) : Type 0 where
    pub puts : Puts old new result
    pub reach_ok : OnOk result (at + length bytes ≤ m.reach new)
    pub settled : OnOk result (m.is_honest old → IsSettled m new)
    pub steps : (image : List ℕ) → Steps m old new image (Torn at (length bytes) image) (λ last. last ≡ written at bytes image) result
