-- What the calls on the image of a station do to it.
use Rattle.std.specs.Prelude.{◌≡◌, ℕ, ◌+◌, max, List, length, take, drop, option_map, Result, IfOk, OnOk, OnErr, IfSome}
use Rattle.gx_base.specs.KnownBytes.{WhereKnown}
use Rattle.gx_station.specs.Counts.{HasCause}
use Rattle.gx_station.specs.Disk.{Torn, written}
use Rattle.gx_station.specs.Stations.{StationMeanings}
use Rattle.gx_station.specs.Honest.{KeepsImage, TearsImage, IsSettled}

module _ {S : Type 0} (m : StationMeanings S) where
  -- a call on the image sends nothing, and fails only where the count of store faults rose
  pub record OnStore {T F : Type 0} (old new : S) (result : Result T F) : Type 0 where
    pub sent : m.sent new ≡ m.sent old
    pub send_faults : m.send_faults new ≡ m.send_faults old
    pub cause : HasCause (m.store_faults old) (m.store_faults new) result

  -- the length was answered; what was pending still is
  pub record Measures {F : Type 0} (old new : S) (result : Result ℕ F) : Type 0 where
    pub on_store : OnStore old new result
    pub keeps : KeepsImage m old new
    pub images_stay : m.is_honest old → (image : List ℕ) → m.may_leave old image → m.may_leave new image
    pub bytes_read : m.bytes_read new ≡ m.bytes_read old
    pub value : IfOk result (λ len. IfSome (m.holds old) (λ image. len ≡ length image))
    pub reach : IfOk result (λ len. m.reach new ≡ max (m.reach old) len)
    pub reach_err : OnErr result (m.reach new ≡ m.reach old)

  -- the bytes at a place were read; what was pending still is
  pub record Reads {T F : Type 0} (old new : S) (at : ℕ) (into : List ℕ) (result : Result T F) : Type 0 where
    pub on_store : OnStore old new result
    pub keeps : KeepsImage m old new
    pub images_stay : m.is_honest old → (image : List ℕ) → m.may_leave old image → m.may_leave new image
    pub reach : m.reach new ≡ m.reach old
    pub bytes : OnOk result (IfSome (m.holds old) (λ image. into ≡ take (length into) (drop at image)))
    pub bytes_read : OnOk result (m.bytes_read new ≡ option_map (λ n. n + length into) (m.bytes_read old))
    pub bytes_read_err : OnErr result (m.bytes_read new ≡ m.bytes_read old)

  -- bytes were written at a place
  pub record Writes {T F : Type 0} (old new : S) (at : ℕ) (bytes : List ℕ) (result : Result T F) : Type 0 where
    pub on_store : OnStore old new result
    pub bytes_read : m.bytes_read new ≡ m.bytes_read old
    pub reach : OnOk result (m.reach new ≡ max (m.reach old) (at + length bytes))
    pub reach_err : OnErr result (m.reach new ≡ m.reach old)
    pub holds : OnOk result (m.holds new ≡ option_map (written at bytes) (m.holds old))
    pub holds_err : OnErr result (WhereKnown (Torn at (length bytes)) (m.holds old) (m.holds new))
    pub tears : TearsImage m old new at (length bytes)

  -- what a read gives is on the disk, where the sync is Ok
  pub record Syncs {T F : Type 0} (old new : S) (result : Result T F) : Type 0 where
    pub on_store : OnStore old new result
    pub keeps : KeepsImage m old new
    pub reach : m.reach new ≡ m.reach old
    pub bytes_read : m.bytes_read new ≡ m.bytes_read old
    pub settled : OnOk result (m.is_honest old → IsSettled m new)
