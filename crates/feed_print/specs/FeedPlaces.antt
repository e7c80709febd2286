-- How far a feed is sent.
use Rattle.std.specs.Prelude.{ℕ, Bool, false, List, []}
use Rattle.level_feed.specs.declared.row.Row.{Row}

pub record FeedPlace : Type 0 where
  -- it has begun
  pub begun : Bool
  -- the number of its last block
  pub last : ℕ
  -- the rows as they were last sent
  pub rows : List Row

-- nothing is sent
abbrev pub feed_start : FeedPlace
feed_start = record { begun = false; last = 0; rows = [] }
