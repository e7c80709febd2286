use Rattle.feed_reader.proofs.WholeFeeds.{broken-stays}
use Rattle.feed_reader.proofs.laws.broken_feeds_stay_broken.Goals as goal

pub returns : goal.returns
returns c = broken-stays
