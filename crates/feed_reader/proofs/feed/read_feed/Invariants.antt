use Rattle.std.proofs.Common.{◌≡◌, ◌-◌}
use Rattle.level_feed.specs.Lines.{listing_of}
use Rattle.feed_reader.specs.Inner.{end_of}
use Rattle.feed_reader.specs.declared.feed.TheConstants.{MOST_FEED}
use Rattle.feed_reader.proofs.Turns.{IsReading}
use Rattle.feed_reader.proofs.feed.read_feed.Given as goal

abbrev pub invariant-reads : goal.invariant-reads
invariant-reads g l = record {
  reading : IsReading g.I.Source.meanings (listing_of l.product) l.fn.input l.input l.table.table l.reading;
  capacity : l.table.capacity ≡ l.product.max_orders;
}

abbrev pub decreases-reads : goal.decreases-reads
decreases-reads g l = MOST_FEED - end_of l.reading
