-- What rebuilding the levels of a feed comes to, with the causes of its faults.
use Rattle.std.specs.Prelude.{◌≡◌, Result, Ok, Err}
use Rattle.gx_station.specs.Counts.{HasCause}
use Rattle.gx_station.specs.Stations.{StationMeanings}
use Rattle.product_file.specs.Products.{ProductLists}
use Rattle.level_feed.specs.Tables.{Table}
use Rattle.journal_print.specs.Reading.{ReadsAndSends}
use Rattle.feed_reader.specs.Feeds.{HasReadCause}
use Rattle.feed_reader.specs.declared.unread.Unread.{Unread}
use Rattle.globex_run.specs.Outside.{Streams}
use Rattle.globex_run.specs.Rebuilding.{SendsByFeed, RebuildsLevels}
use Rattle.globex_run.specs.declared.outcome.Outcome.{Outcome}

-- a send fault has its cause
abbrev pub SentWithCause : {I S : Type 0} → (product : ProductLists) (before after : Streams I S) (outcome : Outcome) (read : Result Table Unread) → SendsByFeed product before after outcome read → Type 0
SentWithCause product before after outcome (Ok table) sends = HasCause before.station.send_faults after.station.send_faults sends.result
SentWithCause product before after outcome (Err why) sends = after.station.send_faults ≡ before.station.send_faults

-- The levels were rebuilt, or not, with the cause of a fault; nothing was written.
pub record RebuildsWithCause {I S : Type 0} (m : StationMeanings S) (product : ProductLists) (before after : Streams I S) (outcome : Outcome) : Type 0 where
  pub form : RebuildsLevels product before after outcome
  pub reads : ReadsAndSends m before.station.object after.station.object
  pub store : after.station.store_faults ≡ before.station.store_faults
  pub read : HasReadCause before.input.faults after.input.faults form.read
  pub sent : SentWithCause product before after outcome form.read form.sends
