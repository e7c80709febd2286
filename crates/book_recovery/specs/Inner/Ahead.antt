-- Reading an image in blocks, each byte once.
use Rattle.std.specs.Prelude.{◌≡◌, ℕ, ◌+◌, ◌-◌, ◌≤◌, List, take, drop, Some}
use Rattle.std.specs.Box.{boxed_slice_items}
use Rattle.gx_station.specs.Stations.{StationMeanings}
use Rattle.match_journal.specs.Causes.{LooksOnly}
use Rattle.book_recovery.specs.declared.read_ahead.ReadAhead.{ReadAhead}

-- the place after the block
abbrev pub front : ReadAhead → ℕ
front ahead = ahead.at + ahead.count

module _ {S : Type 0} (m : StationMeanings S) where
  -- The place is in the block or just after it, nothing of the block stands at the end or after it, and the block has what a read of
  -- the image gives.
  pub record IsAhead (s : S) (ahead : ReadAhead) (place end : ℕ) : Type 0 where
    pub begins : ahead.at ≤ place
    pub ready : place ≤ front ahead
    pub ends : front ahead ≤ end
    pub bytes : (image : List ℕ) → m.holds s ≡ Some image → take ahead.count (boxed_slice_items ahead.block) ≡ take ahead.count (drop ahead.at image)

  -- Only bytes between the block that was and the end were read, each at most once, and the block has gone on over them.
  pub record GoesAhead (old new : S) (ahead then : ReadAhead) (end : ℕ) : Type 0 where
    pub looks : LooksOnly m old new (front then - front ahead)
    pub further : front ahead ≤ front then
    pub ends : front then ≤ end
    pub reach : m.reach new ≡ m.reach old
