-- What `rebuild` does: it reads a level feed from the input, and sends the levels at its end. It does not touch the journal.
use Rattle.std.specs.Prelude.{◌≡◌, ℕ, List, Some, Result, Ok, Err, OnOk, OnErr}
use Rattle.gx_base.specs.KnownBytes.{IsKnownPrefix}
use Rattle.gx_station.specs.Sources.{and_left}
use Rattle.gx_station.specs.Stations.{sent_and}
use Rattle.product_file.specs.Products.{ProductLists}
use Rattle.product_file.specs.ProductTexts.{product_of}
use Rattle.exec_report.specs.declared.texts.SendFault.{SendFault as SendFailed}
use Rattle.level_feed.specs.declared.fault.FeedFault.{FeedFault}
use Rattle.level_feed.specs.declared.fault.FeedFault.TheVariants.{Form, Gap, Full}
use Rattle.level_feed.specs.FeedText.{table_text}
use Rattle.level_feed.specs.Lines.{listing_of}
use Rattle.level_feed.specs.Tables.{Table}
use Rattle.feed_reader.specs.Feeds.{EndsFeed}
use Rattle.feed_reader.specs.WholeFeeds.{feed_end}
use Rattle.feed_reader.specs.declared.feed.TheConstants.{MOST_FEED}
use Rattle.feed_reader.specs.declared.unread.Unread.{Unread}
use Rattle.feed_reader.specs.declared.unread.Unread.TheVariants as unread
use Rattle.stream_laws.specs.FeedLaws.{FoldsAtBlocks, FoldsBetweenBlocks, FoldsWhole}
use Rattle.globex_run.specs.Outside.{Outside, Streams}
use Rattle.globex_run.specs.declared.outcome.Outcome.{Outcome}

-- the status of a line that is not taken
abbrev pub fault_status : FeedFault → ℕ
fault_status Form = 14
fault_status (Gap last number) = 15
fault_status Full = 16

-- the outcome if the feed was not read to a good end
abbrev pub outcome_unread : Unread → Outcome
outcome_unread (unread.ReadFault at) = record { status = 4; at = at; messages = 0 }
outcome_unread (unread.Broken at fault) = record { status = fault_status fault; at = at; messages = 0 }
outcome_unread (unread.Cut at) = record { status = 8; at = at; messages = 0 }
outcome_unread unread.NoSnapshot = record { status = 17; at = 0; messages = 0 }
outcome_unread unread.TooLong = record { status = 12; at = MOST_FEED; messages = 0 }

-- the outcome of sending the levels after the block with this number
abbrev pub outcome_rebuilt : ℕ → Result (Unit {0}) SendFailed → Outcome
outcome_rebuilt number (Ok t) = record { status = 0; at = 0; messages = number }
outcome_rebuilt number (Err fault) = record { status = 6; at = 0; messages = 0 }

module _ {I S : Type 0} (product : ProductLists) (before after : Streams I S) (outcome : Outcome) where
  -- the levels of this table were sent, or a part of them
  pub record SendsLevels (table : Table) : Type 0 where
    pub number : ℕ
    pub is_number : table.number ≡ Some number
    pub result : Result (Unit {0}) SendFailed
    pub outcome_is : outcome ≡ outcome_rebuilt number result
    pub all : OnOk result (after.station.sent ≡ sent_and before.station.sent (table_text product.names.instruments table.rows))
    pub part : OnErr result (IsKnownPrefix after.station.sent (sent_and before.station.sent (table_text product.names.instruments table.rows)))

  -- what was sent, by how the feed was read: nothing, unless it was read to a good end
  abbrev pub SendsByFeed : Result Table Unread → Type 0
  SendsByFeed (Ok table) = SendsLevels table
  SendsByFeed (Err why) = (outcome ≡ outcome_unread why) × (after.station ≡ before.station)

  -- Bytes were taken from the input, in whatever pieces, and read as a feed; the levels at its end were sent.
  pub record RebuildsLevels : Type 0 where
    pub taken : List ℕ
    pub took : before.input.left ≡ and_left taken after.input.left
    pub read : Result Table Unread
    pub ends : EndsFeed (listing_of product) taken after.input.left read
    pub sends : SendsByFeed read

-- The product is told, its text breaks no rule, and the input is known. No journal is needed.
pub record CanReadFeed {P I S : Type 0} (before : Outside P I S) : Type 0 where
  pub text : List ℕ
  pub product : ProductLists
  pub text_known : before.product.left ≡ Some text
  pub gives : product_of text ≡ Ok product
  pub bytes : List ℕ
  pub input_known : before.streams.input.left ≡ Some bytes

-- the status of a feed that was read so, if no fault comes
abbrev pub feed_status : Result Table Unread → ℕ
feed_status (Ok table) = 0
feed_status (Err why) = (outcome_unread why).status

-- how `rebuild` ends over an input of these bytes, if no fault comes
abbrev pub IsRebuilt : ProductLists → List ℕ → ℕ → Type 0
IsRebuilt product bytes status = status ≡ feed_status (feed_end (listing_of product) bytes)

-- The fold of the level feed is the levels of the book, for every history: from any snapshot to the end of any block, and at each later
-- state before the message of the next increment; and that of the whole feed.
pub record FeedsFoldToLevels : Type 0 where
  pub at_blocks : FoldsAtBlocks
  pub between_blocks : FoldsBetweenBlocks
  pub whole : FoldsWhole
