-- What is told of a feed that was read from a source.
use Rattle.std.specs.Prelude.{◌≡◌, ◌<◌, ◌≤◌, ℕ, List, length, take, Option, Some, Result, Ok, Err}
use Rattle.gx_station.specs.Counts.{Rose}
use Rattle.gx_station.specs.Sources.{SourceMeanings, and_left, IsAtEnd}
use Rattle.level_feed.specs.declared.fault.FeedFault.{FeedFault}
use Rattle.level_feed.specs.Lines.{Listing}
use Rattle.level_feed.specs.Folds.{FoldFault, Cut, Broken, NoSnapshot, table_of}
use Rattle.level_feed.specs.Tables.{Table}
use Rattle.level_feed.specs.Held.{HeldTable}
use Rattle.feed_reader.specs.declared.feed.TheConstants.{MOST_FEED}
use Rattle.feed_reader.specs.declared.unread.Unread.{Unread}
use Rattle.feed_reader.specs.declared.unread.Unread.TheVariants as unread

-- the bytes that are read as a feed
unfoldable pub feed_part : List ℕ → List ℕ
feed_part text = take MOST_FEED text

-- no line has a fault
abbrev pub IsUnbroken : Listing → List ℕ → Type 0
IsUnbroken listing text = (at : ℕ) (fault : FeedFault) → table_of listing text ≡ Err (Broken at fault) → ⊥

-- the input was read to its end, and is not too long: it folds so
pub record FoldsWhole (listing : Listing) (taken : List ℕ) (left : Option (List ℕ)) (fold : Result Table FoldFault) : Type 0 where
  pub at_end : IsAtEnd left
  pub few : length taken ≤ MOST_FEED
  pub folds : table_of listing taken ≡ fold

-- the input was read as far as a read that failed, and no line before it has a fault
pub record StopsAt (listing : Listing) (taken : List ℕ) (at : ℕ) : Type 0 where
  pub place : at ≡ length taken
  pub few : length taken ≤ MOST_FEED
  pub unbroken : IsUnbroken listing taken

-- the input is too long, and no line in what is read as a feed has a fault
pub record IsTooLong (listing : Listing) (taken : List ℕ) : Type 0 where
  pub many : MOST_FEED < length taken
  pub unbroken : IsUnbroken listing (feed_part taken)

-- what is answered of the bytes taken, when these are left: the table at their end, or why there is none
abbrev pub EndsFeed : Listing → List ℕ → Option (List ℕ) → Result Table Unread → Type 0
EndsFeed listing taken left (Ok table) = FoldsWhole listing taken left (Ok table) × ((number : ℕ) × (table.number ≡ Some number))
EndsFeed listing taken left (Err (unread.ReadFault at)) = StopsAt listing taken at
EndsFeed listing taken left (Err (unread.Broken at fault)) = table_of listing (feed_part taken) ≡ Err (Broken at fault)
EndsFeed listing taken left (Err (unread.Cut at)) = FoldsWhole listing taken left (Err (Cut at))
EndsFeed listing taken left (Err unread.NoSnapshot) = FoldsWhole listing taken left (Err NoSnapshot)
EndsFeed listing taken left (Err unread.TooLong) = IsTooLong listing taken

-- a read failed exactly if that is answered
abbrev pub HasReadCause : ℕ → ℕ → Result Table Unread → Type 0
HasReadCause before now (Err (unread.ReadFault at)) = (before ≤ now) × Rose before now
HasReadCause before now (Ok table) = now ≡ before
HasReadCause before now (Err (unread.Broken at fault)) = now ≡ before
HasReadCause before now (Err (unread.Cut at)) = now ≡ before
HasReadCause before now (Err unread.NoSnapshot) = now ≡ before
HasReadCause before now (Err unread.TooLong) = now ≡ before

-- the table that a feed was read into, if it was read to a good end
abbrev pub read_into : HeldTable → Result (Unit {0}) Unread → Result Table Unread
read_into held (Ok t) = Ok held.table
read_into held (Err why) = Err why

-- A feed was read into a table.
pub record ReadsFeed {I : Type 0} (m : SourceMeanings I) (listing : Listing) (old new : I) (table : HeldTable) (result : Result (Unit {0}) Unread) : Type 0 where
  pub taken : List ℕ
  pub took : m.left old ≡ and_left taken (m.left new)
  pub ends : EndsFeed listing taken (m.left new) (read_into table result)
  pub cause : HasReadCause (m.faults old) (m.faults new) (read_into table result)
