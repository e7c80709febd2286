use Rattle.stream_laws.proofs.SameListings.{same-listings}
use Rattle.stream_laws.proofs.Amended.{levels-amended}
use Rattle.stream_laws.proofs.feeds.amendments_keep_the_feed.Goals as goal

pub returns-clause-listings : goal.returns-clause-listings
returns-clause-listings c = same-listings

pub returns-clause-levels : goal.returns-clause-levels
returns-clause-levels c = levels-amended
