-- What the answer is, by the bytes of the whole input alone.
use Rattle.std.specs.Prelude.{◌≡◌, ℕ, List, ◌++◌, length, nat_le, if◌then◌else◌, Result, Ok, Err}
use Rattle.level_feed.specs.Tables.{Table}
use Rattle.level_feed.specs.declared.fault.FeedFault.{FeedFault}
use Rattle.level_feed.specs.Lines.{Listing}
use Rattle.level_feed.specs.Folds.{FoldFault, Cut, Broken, NoSnapshot, table_of}
use Rattle.feed_reader.specs.declared.feed.TheConstants.{MOST_FEED}
use Rattle.feed_reader.specs.declared.unread.Unread.{Unread}
use Rattle.feed_reader.specs.declared.unread.Unread.TheVariants as unread
use Rattle.feed_reader.specs.Feeds.{feed_part}

-- how the fold of a feed is told
abbrev pub told : Result Table FoldFault → Result Table Unread
told (Ok table) = Ok table
told (Err (Cut at)) = Err (unread.Cut at)
told (Err (Broken at fault)) = Err (unread.Broken at fault)
told (Err NoSnapshot) = Err unread.NoSnapshot

-- how the fold of the front of a feed is told that is too long
abbrev pub told_long : Result Table FoldFault → Result Table Unread
told_long (Ok table) = Err unread.TooLong
told_long (Err (Cut at)) = Err unread.TooLong
told_long (Err (Broken at fault)) = Err (unread.Broken at fault)
told_long (Err NoSnapshot) = Err unread.TooLong

-- the table at the end of a feed, or why it is not read
abbrev pub feed_end : Listing → List ℕ → Result Table Unread
feed_end listing all =
    if nat_le (length all) MOST_FEED then told (table_of listing all) else told_long (table_of listing (feed_part all))

-- the answer for an input of these bytes, unless a read failed
abbrev pub IsReadAs : Listing → List ℕ → Result Table Unread → Type 0
IsReadAs listing all (Err (unread.ReadFault at)) = Unit {0}
IsReadAs listing all (Ok table) = feed_end listing all ≡ Ok table
IsReadAs listing all (Err (unread.Broken at fault)) = feed_end listing all ≡ Err (unread.Broken at fault)
IsReadAs listing all (Err (unread.Cut at)) = feed_end listing all ≡ Err (unread.Cut at)
IsReadAs listing all (Err unread.NoSnapshot) = feed_end listing all ≡ Err unread.NoSnapshot
IsReadAs listing all (Err unread.TooLong) = feed_end listing all ≡ Err unread.TooLong

-- a fault of a line is told whatever comes after it
abbrev pub BrokenStays : Type 0
BrokenStays =
    (listing : Listing) (xs ys : List ℕ) (at : ℕ) (fault : FeedFault)
    → table_of listing xs ≡ Err (Broken at fault)
    → table_of listing (xs ++ ys) ≡ Err (Broken at fault)
