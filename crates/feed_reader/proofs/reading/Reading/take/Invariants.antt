use Rattle.std.proofs.Common.{◌≡◌, List, ℕ, ◌++◌, length}
use Rattle.level_feed.specs.Lines.{listing_of}
use Rattle.feed_reader.specs.Inner.{GoesOn}
use Rattle.feed_reader.proofs.reading.Reading.take.Given as goal

abbrev pub invariant-loop-line : goal.invariant-loop-line
invariant-loop-line l = record {
  gone : List ℕ;
  whole : l.bytes ≡ gone ++ l.rest;
  goes : GoesOn (listing_of l.product) l.fn.table.table l.fn.self gone l.table.table l.self;
  capacity : l.table.capacity ≡ l.fn.table.capacity;
}

abbrev pub decreases-loop-line : goal.decreases-loop-line
decreases-loop-line l = length l.rest
